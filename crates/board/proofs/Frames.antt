-- What lies beside the readings stays, over no print and over many.
use Rattle.std.proofs.Common.{ℕ, List, ℤ, refl, ◌∙◌, arith}
use Rattle.board.specs.Meaning.{Framed}

pub framed-none : (rs : List ℤ) (b : ℕ → List ℤ) → Framed rs rs b b
framed-none rs b = record { grows = omega arith; stays = λ k h. refl }

pub framed-more : (rs ss ts : List ℤ) (a b c : ℕ → List ℤ) → Framed rs ss a b → Framed ss ts b c → Framed rs ts a c
framed-more rs ss ts a b c p q =
    let g = p.grows in
    let h = q.grows in
    record { grows = omega arith; stays = λ k l. q.stays k l ∙ p.stays k (omega arith) }
