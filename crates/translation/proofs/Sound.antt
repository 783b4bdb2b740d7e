-- What the translation asks of whole code, and that the code of a script is so: labels stand where the positions say, and jumps go forward
-- or back to the start of their while.
use Rattle.std.proofs.Common.{◌≡◌, ℕ, ◌≤◌, ◌∷◌, arith}
use Rattle.meaning.specs.Tree.{Script}
use Rattle.scheme.specs.Code.{Code, Item, size}
use Rattle.scheme.specs.Code
use Rattle.scheme.specs.Scheme.{script_code}
use Rattle.scheme.specs.Written.{loop_end, entry_end}
use Rattle.symbolic.specs.Symbolic.{Suffix}
use Rattle.symbolic.specs.Proper.{Distinct}
use Rattle.scheme.specs.Laws.{JumpTo}
use Rattle.scheme.proofs.Scope.{suffix_size, forward, back}
use Rattle.scheme.proofs.Pins.{loop_found, entry_found}

pub record Sound (P : Code) : Type 0 where
  pub loops : (w : ℕ) (D : Code) → Suffix (Code.loop_at w ∷ D) P → loop_end P w ≡ size D
  pub entries : (f : ℕ) (D : Code) → Suffix (Code.entry f ∷ D) P → entry_end P f ≡ size D
  pub ahead : (n : ℕ) (i : Item) (C : Code) → JumpTo (Code.behind n) i → Suffix (i ∷ C) P → n ≤ size C
  pub around : (w : ℕ) (i : Item) (C : Code) → JumpTo (Code.loop w) i → Suffix (i ∷ C) P → size (i ∷ C) ≤ loop_end P w

pub sound : (s : Script) → Distinct s.functions → Sound (script_code s)
sound s distinct = record {
  loops = loop_found s distinct;
  entries = entry_found s;
  ahead = λ n i C j at. let x = forward s n i C j at in let a = suffix_size x.3 in let b = x.4 in omega arith;
  around = λ w i C j at. let x = back s w i C j at in let a = suffix_size x.2 in let b = loop_found s distinct w x.0 x.1 in omega arith;
}
