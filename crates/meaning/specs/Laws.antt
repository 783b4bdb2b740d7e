-- Laws of runs under allowances of turns and depth.
use Rattle.std.specs.Prelude.{◌≡◌, ℕ, suc, ◌<◌, ◌≤◌, List, ◌++◌, ℤ}
use Rattle.board.specs.Meaning.{Means}
use Rattle.meaning.specs.Tree.{Expr, Stmt, Script}
use Rattle.meaning.specs.Steps.{State}
use Rattle.meaning.specs.Meaning.{eval, exec, loop, entering, body}
use Rattle.meaning.specs.Run.{Record, run, Starved, Free, Covers}

-- a script has one free run at most on a board; it is the run under every allowance that covers what it needs,
-- and under every other allowance the run names turns or depth
abbrev pub FreeRuns : Type 0
FreeRuns =
    (script : Script) (globals : List ℤ) (board : Means) (r : Record) → Free script globals board r
    → ((r' : Record) → Free script globals board r' → r' ≡ r)
    × ((turns depth : ℕ) → Covers turns depth r → run script globals board turns depth ≡ r)
    × ((turns depth : ℕ) → (Covers turns depth r → ⊥) → Starved (run script globals board turns depth).answer.ending)

-- the readings under an allowance are the first part, or the whole, of those under any that is at least as large
abbrev pub FirstPart : Type 0
FirstPart =
    (script : Script) (globals : List ℤ) (board : Means) (turns depth turns' depth' : ℕ) → turns ≤ turns' → depth ≤ depth'
    → (later : List ℤ) × ((run script globals board turns' depth').readings ≡ (run script globals board turns depth).readings ++ later)

-- a run spends no more turns, and enters no greater depth, than it is allowed
abbrev pub Allowed : Type 0
Allowed = (script : Script) (globals : List ℤ) (board : Means) (turns depth : ℕ) → Covers turns depth (run script globals board turns depth)

-- the numbers on which functions and whiles recurse never run out: above the turns left, any gives the same
abbrev pub NeverOut : Type 0
NeverOut =
    (script : Script) (board : Means) (limit d j k : ℕ) (s : State) → s.left < j → s.left < k
    → ((f : ℕ) (vs : List ℤ) → body script board limit j d f vs s ≡ body script board limit k d f vs s)
    × ((i n : ℕ) (e : Expr) (st : Stmt)
    → let enter = entering limit d (body script board limit i (suc d)) in
    loop j n (eval script.lengths board enter e) (exec script.lengths board enter st) s
    ≡ loop k n (eval script.lengths board enter e) (exec script.lengths board enter st) s)
