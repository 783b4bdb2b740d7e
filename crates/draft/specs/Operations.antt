-- What is put in front of cells, as the scheme puts it in front of symbolic code.
use Rattle.std.specs.Prelude.{ℕ, Bool, false, cond, List, [], ◌∷◌, length, drop, ℤ, pos, Some, None, Option, ◌==◌}
use Rattle.rules.specs.declared.Instruction.{Instruction}
use Rattle.rules.specs.declared.Instruction.TheVariants.{Csti, Not, Goto, IfZero, IfNzro, Call, Tcall, Ret}
use Rattle.meaning.specs.Words.{flag, is_zero, eq_z}
use Rattle.draft.specs.Cells.{cell, flagged, head_of, dead_cells, return_of}
use Rattle.draft.specs.declared.cells.Place.{Place}
use Rattle.draft.specs.declared.cells.Place.TheVariants.{Behind, Loop}
use Rattle.draft.specs.declared.cells.Word.TheVariants.{Opcode, Number, Count, To, Entry}
use Rattle.draft.specs.declared.cells.Cell.{Cell}
use Rattle.draft.specs.declared.cells.Condition.{Condition}
use Rattle.draft.specs.declared.cells.Condition.TheVariants.{Zero, Nonzero}
use Rattle.draft.specs.declared.cells.Head.{Head}
use Rattle.draft.specs.declared.cells.Head.TheVariants.{Adds, Scales, Equals, Negates, Pops, Jumps, Goes, Other}
use Rattle.draft.specs.declared.put.Exit.{Exit}
use Rattle.draft.specs.declared.put.Exit.TheVariants.{Return, Go}
use Rattle.draft.specs.declared.put.Plan.{Plan}
use Rattle.draft.specs.declared.put.Plan.TheVariants.{Write, Skip, Negate, Again, Jump}

abbrev pub place_mark : Place → ℕ → ℕ
place_mark (Behind n) m = m
place_mark (Loop w) m = w

abbrev pub constant : ℤ → ℕ → List Cell → List Cell
constant i n D = cell (Opcode Csti) n ∷ (cell (Number i) n ∷ D)

abbrev pub jump_put : Instruction → Place → ℕ → List Cell → List Cell
jump_put o p m D = cell (Opcode o) (place_mark p m) ∷ (cell (To p) (place_mark p m) ∷ D)

abbrev pub reaches : Place → ℕ → Bool
reaches (Behind n) k = n == k
reaches (Loop w) k = false

abbrev pub go_put : Place → ℕ → List Cell → List Cell
go_put p m D = cond (reaches p (length D)) D (jump_put Goto p m D)

abbrev pub goto_put : Place → ℕ → List Cell → List Cell
goto_put p m D = go_put p m (dead_cells D)

-- the conditional jump that jumps otherwise, and what jumps so
abbrev pub opposite : Condition → Condition
opposite Zero = Nonzero
opposite Nonzero = Zero

abbrev pub conditional : Condition → Instruction
conditional Zero = IfZero
conditional Nonzero = IfNzro

abbrev pub not_by : Head → ℕ → List Cell → List Cell
not_by Adds n D = cell (Opcode Not) n ∷ D
not_by Scales n D = cell (Opcode Not) n ∷ D
not_by (Equals m) n D = cell (Opcode Not) n ∷ D
not_by Negates n D = cell (Opcode Not) n ∷ D
not_by Pops n D = cell (Opcode Not) n ∷ D
not_by (Jumps c p m) n D = jump_put (conditional (opposite c)) p m (drop 2 D)
not_by (Goes p) n D = cell (Opcode Not) n ∷ D
not_by Other n D = cell (Opcode Not) n ∷ D

abbrev pub not_put : ℕ → List Cell → List Cell
not_put n D = not_by (head_of D) n D

-- what becomes of a constant, which is 0 or is 1, before a head
abbrev pub planned : Head → Bool → Bool → Plan
planned Adds z o = cond z (Skip 1) Write
planned Scales z o = cond o (Skip 1) Write
planned (Equals m) z o = cond z (Negate m) Write
planned Negates z o = Again
planned Pops z o = Skip 2
planned (Jumps Zero p m) z o = cond z (Jump p m) (Skip 2)
planned (Jumps Nonzero p m) z o = cond z (Skip 2) (Jump p m)
planned (Goes p) z o = Write
planned Other z o = Write

abbrev pub plan_of : ℤ → List Cell → Plan
plan_of i D = planned (head_of D) (is_zero i) (eq_z i (pos 1))

-- how many cells the plan takes off
abbrev pub off : Plan → ℕ
off Write = 0
off (Skip k) = k
off (Negate m) = 1
off Again = 1
off (Jump p m) = 2

abbrev pub constant_by : Plan → ℤ → ℕ → (ℤ → List Cell) → List Cell → List Cell
constant_by Write i n again D = constant i n D
constant_by (Skip k) i n again D = drop k D
constant_by (Negate m) i n again D = not_put m (drop 1 D)
constant_by Again i n again D = again (flag (is_zero i))
constant_by (Jump p m) i n again D = goto_put p m (drop 2 D)

unfoldable pub constant_put : ℤ → ℕ → List Cell → List Cell
constant_put i n [] = constant i n []
constant_put i n (c ∷ D) = constant_by (plan_of i (c ∷ D)) i n (λ j. constant_put j n D) (c ∷ D)

-- where a jump to the code goes, and the code that it leaves
abbrev pub target_by : Head → List Cell → Place
target_by Adds D = Behind (length D)
target_by Scales D = Behind (length D)
target_by (Equals m) D = Behind (length D)
target_by Negates D = Behind (length D)
target_by Pops D = Behind (length D)
target_by (Jumps c p m) D = Behind (length D)
target_by (Goes p) D = p
target_by Other D = Behind (length D)

abbrev pub labelled_by : Head → List Cell → List Cell
labelled_by Adds D = flagged D
labelled_by Scales D = flagged D
labelled_by (Equals m) D = flagged D
labelled_by Negates D = flagged D
labelled_by Pops D = flagged D
labelled_by (Jumps c p m) D = flagged D
labelled_by (Goes p) D = D
labelled_by Other D = flagged D

abbrev pub target_of : List Cell → Place
target_of D = target_by (head_of D) D

abbrev pub labelled_cells : List Cell → List Cell
labelled_cells D = labelled_by (head_of D) D

abbrev pub exit_by : Option ℕ → Place → Exit
exit_by (Some k) p = Return k
exit_by None p = Go p

abbrev pub left_by : Option ℕ → List Cell → List Cell
left_by (Some k) D = D
left_by None D = labelled_cells D

abbrev pub exit_of : List Cell → Exit
exit_of D = exit_by (return_of D) (target_of D)

abbrev pub left_cells : List Cell → List Cell
left_cells D = left_by (return_of D) D

abbrev pub returned : ℕ → ℕ → List Cell → List Cell
returned k m D = cell (Opcode Ret) m ∷ (cell (Count k) m ∷ D)

abbrev pub exit_put : Exit → ℕ → List Cell → List Cell
exit_put (Return k) m D = returned k m (dead_cells D)
exit_put (Go p) m D = goto_put p m D

abbrev pub called : ℕ → ℕ → ℕ → List Cell → List Cell
called k f m D = cell (Opcode Call) m ∷ (cell (Count k) m ∷ (cell (Entry f) m ∷ D))

abbrev pub replaced : ℕ → ℕ → ℕ → ℕ → List Cell → List Cell
replaced k n f m D = cell (Opcode Tcall) m ∷ (cell (Count k) m ∷ (cell (Count n) m ∷ (cell (Entry f) m ∷ D)))
