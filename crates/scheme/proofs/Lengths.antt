-- As many words, and as many marks, as the code is long.
use Rattle.std.proofs.Common.{◌≡◌, ℕ, zero, suc, [], ◌∷◌, length, replicate, refl, ap, arith, length-append}
use lib.ListN.{length-replicate}
use Rattle.scheme.specs.Code.{Code, Item, width, size}
use Rattle.scheme.specs.Code
use Rattle.scheme.specs.Written.{item_words, code_words, mark_of, code_marks, entries_from}

module _ (loops entries : ℕ → ℕ) (whole : ℕ) where
  item_length : (i : Item) → length (item_words loops entries whole i) ≡ width i
  item_length (Code.csti v m) = refl
  item_length (Code.plain p m) = refl
  item_length (Code.pop m) = refl
  item_length (Code.goto t m) = refl
  item_length (Code.ifzero t m) = refl
  item_length (Code.ifnzro t m) = refl
  item_length (Code.call k f m) = refl
  item_length (Code.tcall k n f m) = refl
  item_length (Code.ret n m) = refl
  item_length Code.ldargs = refl
  item_length Code.stop = refl
  item_length Code.label = refl
  item_length (Code.loop_at w) = refl
  item_length (Code.entry f) = refl

  pub words_length : (C : Code) → length (code_words loops entries whole C) ≡ size C
  words_length [] = refl
  words_length (i ∷ C) =
      let a = length-append (item_words loops entries whole i) (code_words loops entries whole C) in
      let b = item_length i in
      let c = words_length C in
      omega arith

pub marks_length : (C : Code) → length (code_marks C) ≡ size C
marks_length [] = refl
marks_length (i ∷ C) =
    let a = length-append (replicate (width i) (mark_of i)) (code_marks C) in
    let b = length-replicate (width i) (mark_of i) in
    let c = marks_length C in
    omega arith

pub entries_length : (P : Code) (f n : ℕ) → length (entries_from P f n) ≡ n
entries_length P f zero = refl
entries_length P f (suc n) = ap suc (entries_length P (suc f) n)
