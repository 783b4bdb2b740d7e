-- What an operation on cells comes to, a step at a time.
use Rattle.std.proofs.Common.{◌≡◌, ℕ, ◌+◌, Bool, true, false, not, cond, List, [], ◌∷◌, drop, ℤ, refl, ◌∙◌, arith}
use Rattle.std.specs.List.{prefix_len}
use Rattle.draft.specs.declared.cells.Cell.{Cell}
use Rattle.draft.specs.Cells.{unlabelled, dead_cells}
use Rattle.draft.specs.Operations.{plan_of, constant_by, constant_put}

one_more : (n : ℕ) (c : Cell) (D : List Cell) → drop (1 + n) (c ∷ D) ≡ drop n D
one_more n c D = grind arith

dead_step : (b : Bool) (c : Cell) (D : List Cell) → drop (prefix_len unlabelled D) D ≡ dead_cells D → drop (cond (not b) (1 + prefix_len unlabelled D) 0) (c ∷ D) ≡ cond b (c ∷ D) (dead_cells D)
dead_step true c D h = refl
dead_step false c D h = one_more _ c D ∙ h

-- all before the first label
pub prefix_dead : (D : List Cell) → drop (prefix_len unlabelled D) D ≡ dead_cells D
prefix_dead [] = refl
prefix_dead (c ∷ D) = dead_step c.label c D (prefix_dead D)

-- a constant by what becomes of it
pub constant_plan : (i : ℤ) (n : ℕ) (D : List Cell) → constant_put i n D ≡ constant_by (plan_of i D) i n (λ j. constant_put j n (drop 1 D)) D
unfolding constant_put
constant_plan i n [] = refl
constant_plan i n (c ∷ D) = refl
