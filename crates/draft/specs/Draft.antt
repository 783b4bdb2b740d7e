-- Symbolic code as the cells that are written for it: a label is on the first cell that it stands before.
use Rattle.std.specs.Prelude.{List, [], ◌∷◌, negsuc}
use Rattle.answer.specs.Numbers.{no_place}
use Rattle.rules.specs.declared.Instruction.TheVariants.{IncSp, Goto, IfZero, IfNzro, LdArgs, Stop}
use Rattle.scheme.specs.Code as S
use Rattle.scheme.specs.Written.{instruction}
use Rattle.draft.specs.Cells.{cell, flagged}
use Rattle.draft.specs.Operations.{jump_put, constant, called, replaced, returned}
use Rattle.draft.specs.declared.cells.Place.{Place}
use Rattle.draft.specs.declared.cells.Place.TheVariants.{Behind, Loop}
use Rattle.draft.specs.declared.cells.Word.TheVariants.{Opcode, Number}
use Rattle.draft.specs.declared.cells.Cell.{Cell}

abbrev pub place_of : S.Target → Place
place_of (S.behind n) = Behind n
place_of (S.loop w) = Loop w

-- an item in front of cells
abbrev pub laid : S.Item → List Cell → List Cell
laid (S.csti i m) D = constant i m D
laid (S.plain p m) D = cell (Opcode (instruction p)) m ∷ D
laid (S.pop m) D = cell (Opcode IncSp) m ∷ (cell (Number (negsuc 0)) m ∷ D)
laid (S.goto t m) D = jump_put Goto (place_of t) m D
laid (S.ifzero t m) D = jump_put IfZero (place_of t) m D
laid (S.ifnzro t m) D = jump_put IfNzro (place_of t) m D
laid (S.call k f n) D = called k f n D
laid (S.tcall k l f n) D = replaced k l f n D
laid (S.ret k n) D = returned k n D
laid S.ldargs D = cell (Opcode LdArgs) no_place ∷ D
laid S.stop D = cell (Opcode Stop) no_place ∷ D
laid S.label D = flagged D
laid (S.loop_at w) D = flagged D
laid (S.entry f) D = flagged D

unfoldable pub draft : S.Code → List Cell
draft [] = []
draft (i ∷ C) = laid i (draft C)
