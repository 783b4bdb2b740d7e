-- The laws of allowances, for the machine on the code of an accepted script.
use Rattle.std.specs.Prelude.{◌≡◌, ℕ, ◌≤◌, List, ◌++◌, length, ℤ}
use Rattle.answer.specs.declared.Answer.{Answer}
use Rattle.answer.specs.declared.Ending.{Ending}
use Rattle.board.specs.Meaning.{Means}
use Rattle.effects.specs.Effects.{State}
use Rattle.machine.specs.Machine.{Ends}
use Rattle.machine.specs.Execute.{starting, answered}
use Rattle.script.specs.declared.Function.{Function}
use Rattle.script.specs.declared.Node.{Node}
use Rattle.meaning.specs.Tree.{Script}
use Rattle.meaning.specs.Tables.{script_of}
use Rattle.meaning.specs.Run.{Starved}
use Rattle.scheme.specs.Written.{written}
use Rattle.agreement.specs.Agreement.{marked, Handed, Allows}

-- the machine on a script's code, under an allowance, ends so
abbrev pub Outcome : Script → List ℤ → Means → List ℤ → ℕ → ℕ → Ending → State → Type 0
Outcome script globals board stack turns depth e u =
    Ends (record { code = (written script).words; deepest = depth }) (starting stack (length globals) board turns) e u

-- what it then answers, told by nodes
abbrev pub told : Script → ℕ → Ending → State → Answer
told script turns e u = marked (written script).marks (answered turns e u.words u.used u.registers)

-- two runs under two allowances, of which the first ended with e and the second with e'
pub record Carries (script : Script) (turns depth turns' depth' : ℕ) (e e' : Ending) (u u' : State) : Type 0 where
  -- one that is not starved is the same under every allowance of at least the turns and depth that it tells
  pub same : (Starved e → ⊥) → (told script turns e u).turns ≤ turns' → (told script turns e u).depth ≤ depth' → (told script turns' e' u' ≡ told script turns e u) × (u'.board ≡ u.board)
  -- under every other, turns or depth are named
  pub starves : (Starved e → ⊥) → (((told script turns e u).turns ≤ turns') × ((told script turns e u).depth ≤ depth') → ⊥) → Starved e'
  -- under one at least as large the readings go on where these end
  pub goes_on : turns ≤ turns' → depth ≤ depth' → (later : List ℤ) × (u'.board.readings ≡ u.board.readings ++ later)

abbrev pub Carried : Type 0
Carried =
    (functions : List Function) (lengths : List ℕ) (nodes : List Node) (globals : List ℤ) (board : Means) (stack : List ℤ)
    (turns depth turns' depth' : ℕ) (e e' : Ending) (u u' : State)
    → Handed functions lengths nodes globals board stack → Allows turns depth stack → Allows turns' depth' stack
    → let script = script_of functions lengths nodes in
    Outcome script globals board stack turns depth e u → Outcome script globals board stack turns' depth' e' u'
    → Carries script turns depth turns' depth' e e' u u'
