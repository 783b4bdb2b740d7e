-- The room that the draft of a script takes at most.
use Rattle.std.specs.Prelude.{ℕ, ◌+◌, ◌*◌, ◌<◌, ◌≤◌, List, [], ◌∷◌, length}
use Rattle.script.specs.declared.Function.{Function}
use Rattle.script.specs.declared.Node.{Node}
use Rattle.script.specs.Limits.{max_functions, max_locals, max_nodes}
use Rattle.script.specs.Scope.{function_at}
use Rattle.script.specs.Sound.{Sound}
use Rattle.meaning.specs.Tables.{stmt_at}
use Rattle.reading.specs.Nodes.{whiles}
use Rattle.reading.specs.Room.{stmt_room}

-- the most words that one node takes
abbrev pub node_room : ℕ
node_room = 19

-- a statement, a 0 for each further local, and the closing 0 and RET
abbrev pub function_room : List Node → Function → ℕ
function_room xs f = stmt_room (stmt_at xs f.body) + 2 * f.locals + 4

abbrev pub functions_room : List Node → List Function → ℕ
functions_room xs [] = 0
functions_room xs (f ∷ fs) = function_room xs f + functions_room xs fs

-- the draft of every accepted script has this room, the opening's five words with it
abbrev pub draft_room : ℕ
draft_room = node_room * max_nodes + (2 * max_locals + 4) * max_functions + 5

abbrev pub DraftsHaveRoom : Type 0
DraftsHaveRoom = (fs : List Function) (gs : List ℕ) (xs : List Node) → Sound fs gs xs → functions_room xs fs + 5 ≤ draft_room

-- no more loops are open at once than a script has nodes
abbrev pub LoopsHaveRoom : Type 0
LoopsHaveRoom = (fs : List Function) (gs : List ℕ) (xs : List Node) → Sound fs gs xs → (f : ℕ) → f < length fs → whiles (stmt_at xs (function_at fs f).body) ≤ max_nodes
