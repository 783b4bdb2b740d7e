-- Where the end of some code stands among the words of the whole, and which words and marks are there.
use Rattle.std.proofs.Common.{◌≡◌, ℕ, zero, suc, ◌+◌, ◌-◌, ◌<◌, List, [], ◌∷◌, ◌++◌, length, get_or, drop, replicate, ℤ, pos, sym, refl, ap, ◌∙◌, arith, length-append}
use lib.ListN.{length-replicate}
use Rattle.std.proofs.lemmas.List.{get_or-drop}
use Rattle.answer.specs.Numbers.{no_place}
use Rattle.scheme.specs.Code.{Code, Item, size, width}
use Rattle.scheme.specs.Written.{item_words, code_words, mark_of, code_marks}
use Rattle.scheme.specs.Laws.{Suffix, same, more}
use Rattle.scheme.proofs.Scope.{suffix_size}
use Rattle.scheme.proofs.Lengths.{words_length}

drop-append : {A : Type 0} (a b : List A) (p q : ℕ) → q ≡ length a + p → drop q (a ++ b) ≡ drop p b
drop-append [] b p q e = ap (λ (x : ℕ). drop x b) (omega arith)
drop-append (x ∷ a) b p zero e = absurd (omega arith)
drop-append (x ∷ a) b p (suc q) e = drop-append a b p q (omega arith)

module _ (loops entries : ℕ → ℕ) (whole : ℕ) where
  abbrev W : Code → List ℤ
  W = code_words loops entries whole

  words-width : (i : Item) → length (item_words loops entries whole i) ≡ width i
  words-width i = let a = words_length loops entries whole (i ∷ []) in let b = length-append (item_words loops entries whole i) [] in omega arith

  drop-words : {C Q : Code} (p : ℕ) → Suffix C Q → p + size C ≡ size Q → drop p (W Q) ≡ W C
  drop-words {C} p same e = ap (λ (x : ℕ). drop x (W C)) (let z : p ≡ 0 = omega arith in z)
  drop-words {C} p (more {i} {C = Q} s) e =
      let a = words-width i in
      let b = suffix_size s in
      drop-append (item_words loops entries whole i) (W Q) (p - width i) p (omega arith) ∙ drop-words (p - width i) s (omega arith)

  -- the words from a position on are those of the code that stands there
  pub word_at : {C Q : Code} (p k : ℕ) → Suffix C Q → p + size C ≡ size Q → get_or (code_words loops entries whole Q) (p + k) (pos 0) ≡ get_or (code_words loops entries whole C) k (pos 0)
  word_at {C} {Q} p k s e = sym (get_or-drop p (W Q) k (pos 0)) ∙ ap (λ (ws : List ℤ). get_or ws k (pos 0)) (drop-words p s e)

drop_marks : {C Q : Code} (p : ℕ) → Suffix C Q → p + size C ≡ size Q → drop p (code_marks Q) ≡ code_marks C
drop_marks {C} p same e = ap (λ (x : ℕ). drop x (code_marks C)) (let z : p ≡ 0 = omega arith in z)
drop_marks {C} p (more {i} {C = Q} s) e =
    let a = length-replicate (width i) (mark_of i) in
    let b = suffix_size s in
    drop-append (replicate (width i) (mark_of i)) (code_marks Q) (p - width i) p (omega arith) ∙ drop_marks (p - width i) s (omega arith)

-- the mark at an instruction
pub mark_at : (i : Item) (C P : Code) (p : ℕ) → Suffix (i ∷ C) P → p + size (i ∷ C) ≡ size P → 0 < width i → get_or (code_marks P) p no_place ≡ mark_of i
mark_at i C P p s e w =
    let z : p ≡ p + 0 = omega arith in
    ap (λ (x : ℕ). get_or (code_marks P) x no_place) z
    ∙ (sym (get_or-drop p (code_marks P) 0 no_place) ∙ (ap (λ (ms : List ℕ). get_or ms 0 no_place) (drop_marks p s e) ∙ go (width i) w))
  where
    go : (n : ℕ) → 0 < n → get_or (replicate n (mark_of i) ++ code_marks C) 0 no_place ≡ mark_of i
    go zero h = absurd (omega arith)
    go (suc n) h = refl
