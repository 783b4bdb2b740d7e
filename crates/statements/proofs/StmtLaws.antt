-- The code of a statement, part by part, and what is learnt of the places of loops.
use Rattle.std.proofs.Common.{◌≡◌, ℕ, ◌<◌, eqb, List, ◌∷◌, length, get_or, set, sym, refl, ap, ◌∙◌, inl, inr, arith, get_or-set_other, get_or-set_same}
use Rattle.std.proofs.lemmas.Bool.{cases_eq, cond-true, cond-false, eq-eqb, ne_eqb}
use Rattle.meaning.specs.Tree.{Expr, Args, Stmt}
use Rattle.meaning.specs.Tree
use Rattle.scheme.specs.Code as S
use Rattle.scheme.specs.Writing as W
use Rattle.scheme.specs.Scheme.{count, expr_code, args_code, stmt_code}
use Rattle.scheme.specs.Written.{loop_end}
use Rattle.statements.specs.Learns.{Knows}
use Rattle.statements.proofs.EndLaws.{ends_dead, ends_goto, ends_labelled, ends_left, ends_jump, ends_expr, ends_args}

-- the place of a loop that has just been found
pub found : (s : List ℕ) (n m : ℕ) (K : S.Code) → n < length s → m ≡ S.size (S.loop_at n ∷ K) → Knows s K → Knows (set s n m) (S.loop_at n ∷ K)
found s n m K h e k w = elim (cases_eq w n) [ inl q ↦ same q | inr q ↦ other q ]
  where
    same : w ≡ n → get_or (set s n m) w 0 ≡ loop_end (S.loop_at n ∷ K) w
    same q = ap (λ x. get_or (set s n m) x 0) q ∙ get_or-set_same s n m 0 h ∙ (let z : m ≡ S.size K = omega arith in z) ∙ sym (cond-true (eqb w n) (S.size K) (loop_end K w) (eq-eqb w n q))

    other : (w ≡ n → ⊥) → get_or (set s n m) w 0 ≡ loop_end (S.loop_at n ∷ K) w
    other q = get_or-set_other s n w m 0 q ∙ k w ∙ sym (cond-false (eqb w n) (S.size K) (loop_end K w) (ne_eqb w n q))

module _ (ls : List ℕ) (total n : ℕ) where
  pub code_nothing : (C : S.Code) → stmt_code ls total (Tree.nothing n) C ≡ C
  unfolding stmt_code
  code_nothing C = refl

  pub code_chain : (a b : Stmt) (C : S.Code) → stmt_code ls total (Tree.chain n a b) C ≡ stmt_code ls total a (stmt_code ls total b C)
  unfolding stmt_code
  code_chain a b C = refl

  pub code_discard : (e : Expr) (C : S.Code) → stmt_code ls total (Tree.discard n e) C ≡ expr_code ls e (S.pop n ∷ C)
  unfolding stmt_code
  code_discard e C = refl

  pub code_if : (e : Expr) (a b : Stmt) (C : S.Code) → stmt_code ls total (Tree.if n e a b) C
      ≡ expr_code ls e (S.ifzero (W.target (stmt_code ls total b (W.left_jump C))) n ∷ stmt_code ls total a (W.add_jump C n (W.labelled (stmt_code ls total b (W.left_jump C)))))
  unfolding stmt_code
  code_if e a b C = refl

  pub code_while : (e : Expr) (b : Stmt) (C : S.Code) → stmt_code ls total (Tree.while n e b) C ≡ S.loop_at n ∷ expr_code ls e (S.ifzero (W.target C) n ∷ stmt_code ls total b (W.add_goto (S.loop n) n (W.labelled C)))
  unfolding stmt_code
  code_while e b C = refl

  pub code_return : (e : Expr) (C : S.Code) → stmt_code ls total (Tree.return n e) C ≡ expr_code ls e (S.ret total n ∷ W.dead C)
  unfolding stmt_code
  code_return e C = refl

  pub code_replace : (m f : ℕ) (l : Args) (C : S.Code) → stmt_code ls total (Tree.replace n m f l) C ≡ args_code ls l (S.tcall (count l) total f m ∷ W.dead C)
  unfolding stmt_code
  code_replace m f l C = refl

pub ruleset codes = (code_nothing, code_chain, code_discard, code_if, code_while, code_return, code_replace)

-- no part but the label of a loop moves a loop
pub ruleset ends = (ends_dead, ends_goto, ends_labelled, ends_left, ends_jump, ends_expr, ends_args)
