-- Words at the front of others.
use Rattle.std.proofs.Common.{◌≡◌, ℕ, ◌≤◌, List, ◌++◌, length, take, drop, ℤ, ap, ◌∙◌, inl, inr, append-nil, arith, length-take}
use Rattle.std.proofs.lemmas.List.{take_at, take_all, drop_all}
use Rattle.std.proofs.lemmas.Bool.{cases_lt}
use Rattle.station.specs.Held.{laid}

-- as many words as are taken from the front replace those
pub kept : (used : ℕ) (words front : List ℤ) → length front ≡ length (take used words) → take used (laid front words) ≡ front
kept used words front e =
    let long = length-take used words in
    elim (cases_lt used (length words)) [
      | inl l ↦ take_at front (drop (length front) words) used (omega arith)
      | inr l ↦
          let same : length front ≡ length words = omega arith in
          ap (λ (xs : List ℤ). take used (front ++ xs)) (drop_all (length front) words (omega arith)) ∙ ap (take used) (append-nil front) ∙ take_all used front (omega arith)
    ]

-- a part that was lent from the front, as it comes back
pub laid_part : (part front words : List ℤ) (k : ℕ) → part ≡ front → k ≡ length front → part ++ drop k words ≡ laid front words
laid_part part front words k e l = ap (λ (xs : List ℤ). xs ++ drop k words) e ∙ ap (λ (n : ℕ). front ++ drop n words) l

-- the words taken from the front of a stack are those that then stand in the table
pub kept_front : (used : ℕ) (words new stack : List ℤ) (m : ℕ) → new ≡ laid (take m stack) words → m ≡ length (take used words) → m ≤ length stack
    → take used new ≡ take (length (take used words)) stack
kept_front used words new stack m e l h =
    let long = length-take m stack in
    ap (take used) e ∙ kept used words (take m stack) (omega arith) ∙ ap (λ (n : ℕ). take n stack) l
