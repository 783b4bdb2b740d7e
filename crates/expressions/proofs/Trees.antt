-- The code of an expression, part by part.
use Rattle.std.proofs.Common.{◌≡◌, ℕ, List, ◌∷◌, get_or, ℤ, pos, refl}
use Rattle.scheme.specs.Code as S
use Rattle.scheme.specs.Writing as W
use Rattle.scheme.specs.Scheme.{operator_code, local_code, element_code, count, expr_code, args_code}
use Rattle.meaning.specs.Words.{Operator}
use Rattle.meaning.specs.Tree.{Expr, Args}
use Rattle.meaning.specs.Tree
use Rattle.meaning.specs.Meaning.{first_word}

module _ (ls : List ℕ) (n : ℕ) where
  pub code_constant : (v : ℤ) (C : S.Code) → expr_code ls (Tree.constant n v) C ≡ W.add_cst v n C
  unfolding expr_code
  code_constant v C = refl

  pub code_local : (k : ℕ) (C : S.Code) → expr_code ls (Tree.local n k) C ≡ local_code n k (S.plain S.ldi n ∷ C)
  unfolding expr_code
  code_local k C = refl

  pub code_global : (g : ℕ) (C : S.Code) → expr_code ls (Tree.global n g) C ≡ W.add_cst (pos (first_word ls g)) n (S.plain S.ldi n ∷ C)
  unfolding expr_code
  code_global g C = refl

  pub code_element : (g : ℕ) (i : Expr) (C : S.Code) → expr_code ls (Tree.element n g i) C ≡ expr_code ls i (element_code n (get_or ls g 0) (first_word ls g) (S.plain S.ldi n ∷ C))
  unfolding expr_code
  code_element g i C = refl

  pub code_set_local : (k : ℕ) (e : Expr) (C : S.Code) → expr_code ls (Tree.set_local n k e) C ≡ local_code n k (expr_code ls e (S.plain S.sti n ∷ C))
  unfolding expr_code
  code_set_local k e C = refl

  pub code_set_global : (g : ℕ) (e : Expr) (C : S.Code) → expr_code ls (Tree.set_global n g e) C ≡ W.add_cst (pos (first_word ls g)) n (expr_code ls e (S.plain S.sti n ∷ C))
  unfolding expr_code
  code_set_global g e C = refl

  pub code_set_element : (g : ℕ) (i e : Expr) (C : S.Code) → expr_code ls (Tree.set_element n g i e) C ≡ expr_code ls i (element_code n (get_or ls g 0) (first_word ls g) (expr_code ls e (S.plain S.sti n ∷ C)))
  unfolding expr_code
  code_set_element g i e C = refl

  pub code_negation : (e : Expr) (C : S.Code) → expr_code ls (Tree.negation n e) C ≡ expr_code ls e (W.add_not n C)
  unfolding expr_code
  code_negation e C = refl

  pub code_print : (e : Expr) (C : S.Code) → expr_code ls (Tree.print n e) C ≡ expr_code ls e (S.plain S.printi n ∷ C)
  unfolding expr_code
  code_print e C = refl

  pub code_binary : (o : Operator) (e f : Expr) (C : S.Code) → expr_code ls (Tree.binary n o e f) C ≡ expr_code ls e (expr_code ls f (operator_code o n C))
  unfolding expr_code
  code_binary o e f C = refl

  pub code_both : (e f : Expr) (C : S.Code) → expr_code ls (Tree.both n e f) C ≡ expr_code ls e (S.ifzero (W.and_way n C).to (W.and_way n C).mark ∷ expr_code ls f (W.and_way n C).rest)
  unfolding expr_code
  code_both e f C = refl

  pub code_either : (e f : Expr) (C : S.Code) → expr_code ls (Tree.either n e f) C ≡ expr_code ls e (S.ifnzro (W.or_way n C).to (W.or_way n C).mark ∷ expr_code ls f (W.or_way n C).rest)
  unfolding expr_code
  code_either e f C = refl

  pub code_call : (f : ℕ) (l : Args) (C : S.Code) → expr_code ls (Tree.call n f l) C ≡ args_code ls l (S.call (count l) f n ∷ C)
  unfolding expr_code
  code_call f l C = refl

  pub code_none : (C : S.Code) → args_code ls (Tree.none n) C ≡ C
  unfolding args_code
  code_none C = refl

  pub code_also : (e : Expr) (l : Args) (C : S.Code) → args_code ls (Tree.also n e l) C ≡ expr_code ls e (args_code ls l C)
  unfolding args_code
  code_also e l C = refl

pub ruleset codes = (code_constant, code_local, code_global, code_element, code_set_local, code_set_global, code_set_element, code_negation, code_print, code_binary, code_both, code_either, code_call, code_none, code_also)
