-- A tree whose node numbers all have a property gives code whose marks have it.
use Rattle.std.proofs.Common.{ℕ, zero, suc, ◌+◌, List, [], ◌∷◌, get_or, pos}
use Rattle.std.specs.List.{AllByRecursion}
use Rattle.answer.specs.Numbers.{no_place}
use Rattle.meaning.specs.Tree.{Expr, Args, Stmt, Function, Script}
use Rattle.meaning.specs.Tree
use Rattle.meaning.specs.Meaning.{first_word}
use Rattle.scheme.specs.Code.{Code, view, front, jumps}
use Rattle.scheme.specs.Code
use Rattle.scheme.specs.Writing.{left_by, labelled}
use Rattle.scheme.specs.Scheme.{expr_code, args_code, stmt_code, zeros_code, functions_code, script_code}
use Rattle.bounds.proofs.Marked.{Marked}
use Rattle.bounds.proofs.Written.{marked_dead, marked_goto, marked_not, marked_cst, aims_target, marked_labelled, marked_left, marked_jump, marked_and, marked_or, marked_operator, marked_element}

module _ (P : ℕ → Type 0) where
  abbrev mutual
    pub NumberedE : Expr → Type 0
    NumberedE (Tree.constant n v) = P n
    NumberedE (Tree.local n k) = P n
    NumberedE (Tree.global n g) = P n
    NumberedE (Tree.element n g i) = P n × NumberedE i
    NumberedE (Tree.set_local n k e) = P n × NumberedE e
    NumberedE (Tree.set_global n g e) = P n × NumberedE e
    NumberedE (Tree.set_element n g i e) = P n × NumberedE i × NumberedE e
    NumberedE (Tree.negation n e) = P n × NumberedE e
    NumberedE (Tree.print n e) = P n × NumberedE e
    NumberedE (Tree.binary n o e f) = P n × NumberedE e × NumberedE f
    NumberedE (Tree.both n e f) = P n × NumberedE e × NumberedE f
    NumberedE (Tree.either n e f) = P n × NumberedE e × NumberedE f
    NumberedE (Tree.call n f l) = P n × NumberedA l

    pub NumberedA : Args → Type 0
    NumberedA (Tree.none n) = P n
    NumberedA (Tree.also n e l) = P n × NumberedE e × NumberedA l

  abbrev pub NumberedS : Stmt → Type 0
  NumberedS (Tree.nothing n) = P n
  NumberedS (Tree.chain n a b) = P n × NumberedS a × NumberedS b
  NumberedS (Tree.discard n e) = P n × NumberedE e
  NumberedS (Tree.if n e a b) = P n × NumberedE e × NumberedS a × NumberedS b
  NumberedS (Tree.while n e b) = P n × NumberedE e × NumberedS b
  NumberedS (Tree.return n e) = P n × NumberedE e
  NumberedS (Tree.replace n m f l) = P n × P m × NumberedA l

module _ (P : ℕ → Type 0) (lengths : List ℕ) where
  mutual
    unfolding expr_code args_code

    marked_expr : (e : Expr) (C : Code) → NumberedE P e → Marked P C → Marked P (expr_code lengths e C)
    marked_expr (Tree.constant n v) C p h = marked_cst P v n (view C) p h
    marked_expr (Tree.local n k) C p h = (p, marked_cst P (pos k) n (view _) p (p, (p, h)))
    marked_expr (Tree.global n g) C p h = marked_cst P _ n (view _) p (p, h)
    marked_expr (Tree.element n g i) C p h = marked_expr i _ p.1 (marked_element P n (get_or lengths g 0) (first_word lengths g) _ p.0 (p.0, h))
    marked_expr (Tree.set_local n k e) C p h = (p.0, marked_cst P (pos k) n (view _) p.0 (p.0, marked_expr e _ p.1 (p.0, h)))
    marked_expr (Tree.set_global n g e) C p h = marked_cst P _ n (view _) p.0 (marked_expr e _ p.1 (p.0, h))
    marked_expr (Tree.set_element n g i e) C p h = marked_expr i _ p.1 (marked_element P n (get_or lengths g 0) (first_word lengths g) _ p.0 (marked_expr e _ p.2 (p.0, h)))
    marked_expr (Tree.negation n e) C p h = marked_expr e _ p.1 (marked_not P n (view C) p.0 h)
    marked_expr (Tree.print n e) C p h = marked_expr e _ p.1 (p.0, h)
    marked_expr (Tree.binary n o e f) C p h = marked_expr e _ p.1 (marked_expr f _ p.2 (marked_operator P o n C p.0 h))
    marked_expr (Tree.both n e f) C p h =
        let w = marked_and P n (view C) p.0 h in
        marked_expr e _ p.1 (w.0, marked_expr f _ p.2 w.1)
    marked_expr (Tree.either n e f) C p h =
        let w = marked_or P n (view C) p.0 h in
        marked_expr e _ p.1 (w.0, marked_expr f _ p.2 w.1)
    marked_expr (Tree.call n f l) C p h = marked_args l _ p.1 (p.0, h)

    marked_args : (l : Args) (C : Code) → NumberedA P l → Marked P C → Marked P (args_code lengths l C)
    marked_args (Tree.none n) C p h = h
    marked_args (Tree.also n e l) C p h = marked_expr e _ p.1 (marked_args l C p.2 h)

  module _ (total : ℕ) where
    marked_stmt : (s : Stmt) (C : Code) → NumberedS P s → Marked P C → Marked P (stmt_code lengths total s C)
    unfolding stmt_code
    marked_stmt (Tree.nothing n) C p h = h
    marked_stmt (Tree.chain n a b) C p h = marked_stmt a _ p.1 (marked_stmt b C p.2 h)
    marked_stmt (Tree.discard n e) C p h = marked_expr e _ p.1 (p.0, h)
    marked_stmt (Tree.if n e a b) C p h =
        let L = left_by C (jumps C) in
        let D = stmt_code lengths total b L in
        let hd : Marked P D = marked_stmt b L p.3 (marked_left P C (jumps C) h) in
        marked_expr e _ p.1 (
          (p.0, aims_target P (front D) hd),
          marked_stmt a _ p.2 (marked_jump P C (jumps C) n (labelled D) p.0 h (marked_labelled P (front D) hd)),
        )
    marked_stmt (Tree.while n e b) C p h = (
      tt,
      marked_expr e _ p.1 (
        (p.0, aims_target P (front C) h),
        marked_stmt b _ p.2 (marked_goto P (Code.loop n) n (labelled C) p.0 p.0 (marked_labelled P (front C) h)),
      ),
    )
    marked_stmt (Tree.return n e) C p h = marked_expr e _ p.1 (p.0, marked_dead P C h)
    marked_stmt (Tree.replace n m f l) C p h = marked_args l _ p.2 (p.1, marked_dead P C h)

-- what is written for no node has no place
module _ (P : ℕ → Type 0) (none : P no_place) where
  marked-zeros : (k : ℕ) (C : Code) → Marked P C → Marked P (zeros_code k C)
  unfolding zeros_code
  marked-zeros zero C h = h
  marked-zeros (suc k) C h = marked_cst P (pos 0) no_place (view (zeros_code k C)) none (marked-zeros k C h)

  marked_functions : (lengths : List ℕ) (f : ℕ) (fns : List Function) → AllByRecursion (λ fn. NumberedS P fn.body) fns → Marked P (functions_code lengths f fns)
  unfolding functions_code
  marked_functions lengths f [] ps = tt
  marked_functions lengths f (fn ∷ fns) ps = (
    tt,
    marked-zeros fn.locals _ (marked_stmt P lengths (fn.parameters + fn.locals) fn.body _ ps.0
        (marked_cst P (pos 0) no_place (view _) none (none, marked_dead P _ (marked_functions lengths (suc f) fns ps.1)))),
  )

  pub marked_script : (s : Script) → AllByRecursion (λ fn. NumberedS P fn.body) s.functions → Marked P (script_code s)
  unfolding script_code
  marked_script s ps = (tt, (none, (tt, marked_functions s.lengths 0 s.functions ps)))
