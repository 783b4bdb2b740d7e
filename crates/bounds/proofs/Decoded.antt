-- The trees that tables hold: their node numbers are 0 or those of the tables' nodes.
use Rattle.std.proofs.Common.{ℕ, zero, suc, ◌+◌, ◌-◌, ◌<◌, Bool, true, false, cond, eqb, List, [], ◌∷◌, ◌++◌, map, length, get_or, ℤ, pos, negsuc, nat_abs, arith}
use Rattle.std.specs.List.{AllByRecursion}
use Rattle.std.proofs.ByRecursion.{All-push}
use Rattle.std.proofs.lemmas.List.{length_push}
use Rattle.script.specs.declared.Function.{Function as Row}
use Rattle.script.specs.declared.Node.{Node}
use Rattle.meaning.specs.Tree
use Rattle.meaning.specs.Tables.{Part, no_part, child, operator, expr_of, args_of, stmt_of, return_of, part_after, parts_after, parts, function_of, script_of}
use Rattle.bounds.proofs.Numbered.{NumberedE, NumberedA, NumberedS}

-- what holds of each element and of the default
among : {X : Type 0} (Q : X → Type 0) (xs : List X) (i : ℕ) (d : X) → AllByRecursion Q xs → Q d → Q (get_or xs i d)
among Q [] i d h q = q
among Q (x ∷ xs) zero d h q = h.0
among Q (x ∷ xs) (suc i) d h q = among Q xs i d h.1 q

-- the one or the other
one : {X : Type 0} (Q : X → Type 0) (b : Bool) (x y : X) → Q x → Q y → Q (cond b x y)
one Q true x y p q = p
one Q false x y p q = q

module _ (P : ℕ → Type 0) (first : P 0) where
  -- a return has a number of its own
  pub record NumberedP (p : Part) : Type 0 where
    pub expr : NumberedE P p.expr
    pub args : NumberedA P p.args
    pub stmt : NumberedS P p.stmt
    pub returned : (n : ℕ) → P n → NumberedS P (p.returned n)

  no_part_lem : NumberedP no_part
  no_part_lem = record { expr = first; args = first; stmt = first; returned = λ n h. h }

  numbered-child : (before : List Part) (x : ℤ) → AllByRecursion NumberedP before → NumberedP (child before x)
  numbered-child before (pos m) h = among NumberedP before m no_part h no_part_lem
  numbered-child before (negsuc m) h = no_part_lem

  module _ (n : ℕ) (here : P n) (x : Node) (a b c : Part) (pa : NumberedP a) (pb : NumberedP b) (pc : NumberedP c) where
    -- kind by kind
    numbered_expr : NumberedE P (expr_of n x a b c)
    numbered_expr =
        let e = pa.expr in
        let f = pb.expr in
        let name = nat_abs x.a in
        among (NumberedE P)
        (Tree.constant n x.a
        ∷ Tree.local n name
        ∷ Tree.global n name
        ∷ Tree.element n name b.expr
        ∷ Tree.set_local n name b.expr
        ∷ Tree.set_global n name b.expr
        ∷ Tree.set_element n name b.expr c.expr
        ∷ Tree.negation n a.expr
        ∷ Tree.print n a.expr
        ∷ Tree.binary n (operator x.c) a.expr b.expr
        ∷ Tree.both n a.expr b.expr
        ∷ Tree.either n a.expr b.expr
        ∷ Tree.call n name b.args
        ∷ [])
        x.kind (Tree.constant n (pos 0))
        (here, (here, (here, ((here, f), ((here, f), ((here, f), ((here, f, pc.expr), ((here, e), ((here, e), ((here, e, f), ((here, e, f), ((here, e, f), ((here, pb.args), tt)))))))))))))
        here

    numbered_args : NumberedA P (args_of n x a b)
    numbered_args = one (NumberedA P) (eqb x.kind 14) _ _ (here, pa.expr, pb.args) here

    numbered_stmt : NumberedS P (stmt_of n x a b c)
    numbered_stmt =
        let e = pa.expr in
        among (NumberedS P)
        (Tree.nothing n
        ∷ Tree.chain n a.stmt b.stmt
        ∷ Tree.discard n a.expr
        ∷ Tree.if n a.expr b.stmt c.stmt
        ∷ Tree.while n a.expr b.stmt
        ∷ a.returned n
        ∷ [])
        (x.kind - 15) (Tree.nothing n)
        (here, ((here, pa.stmt, pb.stmt), ((here, e), ((here, e, pb.stmt, pc.stmt), ((here, e, pb.stmt), (pa.returned n here, tt))))))
        here

    numbered-return : (m : ℕ) → P m → NumberedS P (return_of n x (expr_of n x a b c) b m)
    numbered-return m h = one (NumberedS P) (eqb x.kind 12) _ _ (h, here, pb.args) (h, numbered_expr)

  numbered_next : (before : List Part) (x : Node) → P (length before) → AllByRecursion NumberedP before → NumberedP (part_after before x)
  numbered_next before x here h =
      let a = numbered-child before x.a h in
      let b = numbered-child before x.b h in
      let c = numbered-child before x.c h in
      record {
        expr = numbered_expr (length before) here x _ _ _ a b c;
        args = numbered_args (length before) here x _ _ _ a b c;
        stmt = numbered_stmt (length before) here x _ _ _ a b c;
        returned = numbered-return (length before) here x _ _ _ a b c;
      }

  numbered-after : (before : List Part) (xs : List Node) → ((n : ℕ) → n < length before + length xs → P n) → AllByRecursion NumberedP before → AllByRecursion NumberedP (parts_after before xs)
  unfolding parts_after
  numbered-after before [] below h = h
  numbered-after before (x ∷ xs) below h =
      let p = length_push before (part_after before x) in
      numbered-after (before ++ (part_after before x ∷ [])) xs (λ n l. below n (omega arith))
      (All-push NumberedP before (part_after before x) h (numbered_next before x (below (length before) (omega arith)) h))

  numbered_functions : (ps : List Part) (fs : List Row) → AllByRecursion NumberedP ps → AllByRecursion (λ fn. NumberedS P fn.body) (map (function_of ps) fs)
  numbered_functions ps [] h = tt
  numbered_functions ps (f ∷ fs) h = ((among NumberedP ps f.body no_part h no_part_lem).stmt, numbered_functions ps fs h)

  pub numbered_script : (fs : List Row) (gs : List ℕ) (xs : List Node) → ((n : ℕ) → n < length xs → P n) → AllByRecursion (λ fn. NumberedS P fn.body) (script_of fs gs xs).functions
  numbered_script fs gs xs below = numbered_functions (parts xs) fs (numbered-after [] xs (λ n l. below n (omega arith)) tt)
