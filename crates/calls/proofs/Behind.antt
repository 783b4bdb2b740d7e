-- What a pass leaves of the stack behind the words that it may touch.
use Rattle.std.proofs.Common.{◌≡◌, ℕ, ◌-◌, ◌<◌, ◌≤◌, Bool, true, false, List, ◌++◌, length, drop, get_or, ltb, ℤ, pos, Option, Ok, Err, Result, sym, refl, ap, ◌∙◌, arith}
use Rattle.std.proofs.lemmas.Bool.{ltb-true, ltb-false}
use Rattle.std.proofs.lemmas.List.{get_or_append_left, get_or-append_right, get_or-drop}
use Rattle.answer.specs.declared.Answer.{Answer}
use Rattle.answer.specs.declared.Refusal.{Refusal}
use Rattle.board.specs.Meaning.{Means}
use Rattle.machine.specs.declared.Allowance.{Allowance}
use Rattle.machine.specs.Execute.{Executed}
use Rattle.agreement.specs.Agreement.{stack_words}
use Rattle.station.specs.declared.held.Station.{Station}
use Rattle.station.specs.Passed.{Passed}

-- refused or not, the words that a pass may not touch are as they were
pub kept : (s s' : Station) (p : Allowance) (part part' : List ℤ) (b b' : Means) (A B : Type 0) (due : Option Refusal) (r : Result Answer Refusal)
    → Executed due r (A × (part' ≡ part) × B) (λ a. Passed s s' p part part' b b' a) → drop (stack_words p.depth) part' ≡ drop (stack_words p.depth) part
kept s s' p part part' b b' A B due (Ok a) e = e.1.beyond
kept s s' p part part' b b' A B due (Err x) e = ap (drop (stack_words p.depth)) e.1.1

module _ (w : ℕ) (part part' rest : List ℤ) (k : ℕ) (long : length part' ≡ length part) (same : drop w part' ≡ drop w part) (low : w ≤ k) where
  there : (xs : List ℤ) → get_or (drop w xs) (k - w) (pos 0) ≡ get_or xs k (pos 0)
  there xs = get_or-drop w xs (k - w) (pos 0) ∙ ap (λ n. get_or xs n (pos 0)) (omega arith)

  inside : k < length part → get_or (part' ++ rest) k (pos 0) ≡ get_or (part ++ rest) k (pos 0)
  inside h =
      get_or_append_left part' rest (pos 0) k (omega arith)
      ∙ (sym (there part')
      ∙ (ap (λ xs. get_or xs (k - w) (pos 0)) same
      ∙ (there part
      ∙ sym (get_or_append_left part rest (pos 0) k h))))

  past : length part ≤ k → get_or (part' ++ rest) k (pos 0) ≡ get_or (part ++ rest) k (pos 0)
  past h = get_or-append_right part' rest (length part) k (pos 0) long h ∙ sym (get_or-append_right part rest (length part) k (pos 0) refl h)

  either : (b : Bool) → ltb k (length part) ≡ b → get_or (part' ++ rest) k (pos 0) ≡ get_or (part ++ rest) k (pos 0)
  either true e = inside (ltb-true k (length part) e)
  either false e = past (ltb-false k (length part) e)

  -- laid back into the stack, the part leaves each word from the w-th on as it was
  pub behind : get_or (part' ++ rest) k (pos 0) ≡ get_or (part ++ rest) k (pos 0)
  behind = either (ltb k (length part)) refl
