-- The history of a list of calls, by the definition of what a script means. No code is read.
use Rattle.std.specs.Prelude.{◌≡◌, ℕ, List, [], ◌∷◌, length, replicate, ℤ, pos, Some, None, sum, Option, slice_index_or}
use Rattle.answer.specs.declared.Ending.{Ending}
use Rattle.answer.specs.declared.Ending.TheVariants.{Finished}
use Rattle.answer.specs.declared.Refusal.{Refusal}
use Rattle.script.specs.Least.{or_else}
use Rattle.meaning.specs.Tree.{Script}
use Rattle.meaning.specs.Meaning.{no_function}
use Rattle.meaning.specs.Run.{Record, Free}
use Rattle.history.specs.declared.Said.{Said}
use Rattle.history.specs.declared.Said.TheVariants.{Done, Refused, Answered}
use Rattle.history.specs.Calls.{Tables, Pass, Call, load, pass, clear, script_in, load_refusal, pass_refusal}

-- where the definition stands between calls: the script that is loaded, and its globals
pub record State : Type 0 where
  pub script : Option Script
  pub globals : List ℤ

-- what a call adds to a history: what it said, the readings on its board, the globals after it
pub record Entry : Type 0 where
  pub said : Said
  pub readings : List ℤ
  pub globals : List ℤ

abbrev pub zeros : ℕ → List ℤ
zeros n = replicate n (pos 0)

-- at first there is neither a script nor a global
abbrev pub start : State
start = record { script = None; globals = [] }

abbrev pub holding : Tables → State
holding t = record { script = Some (script_in t); globals = zeros (sum t.lengths) }

abbrev pub cleared : State → State
cleared σ = record { script = σ.script; globals = zeros (length σ.globals) }

-- the globals that a run leaves, by its ending: only one that finished writes them back
abbrev pub kept_by : Ending → List ℤ → List ℤ → List ℤ
kept_by Finished new old = new
kept_by _ new old = old

abbrev pub after : State → Record → State
after σ r = record { script = σ.script; globals = kept_by r.answer.ending r.globals σ.globals }

-- how many inputs main takes, where a script is loaded
abbrev pub inputs_of : Option Script → Option ℕ
inputs_of None = None
inputs_of (Some s) = Some (slice_index_or s.functions 0 no_function).parameters

-- why the pass is refused in that state, if it is
abbrev pub refusal : State → Pass → Option Refusal
refusal σ p = or_else p.early (pass_refusal (inputs_of σ.script) p.allowed p.stack (length p.board.inputs))

-- the script that a pass runs; without one every pass is refused, so nobody asks for it
abbrev pub of_loaded : Option Script → Script
of_loaded None = record { functions = []; lengths = [] }
of_loaded (Some s) = s

abbrev pub loaded_in : State → Script
loaded_in σ = of_loaded σ.script

-- the free run of the pass in that state: from the state's globals, on the board's meaning, under whatever allowance does not starve it
abbrev pub FreeRun : State → Pass → Record → Type 0
FreeRun σ p r = Free (loaded_in σ) σ.globals p.board r

abbrev pub entry : Said → List ℤ → State → Entry
entry s rs σ = record { said = s; readings = rs; globals = σ.globals }

-- what a call does by the definition: the entry that it adds, and the state after it
pub data Makes : State → Call → Entry → State → Type 0 where
  accepts : {σ : State} {t : Tables} → load_refusal t ≡ None → Makes σ (load t) (entry Done [] (holding t)) (holding t)
  rejects : {σ : State} {t : Tables} {why : Refusal} → load_refusal t ≡ Some why → Makes σ (load t) (entry (Refused why) [] σ) σ
  declines : {σ : State} {p : Pass} {why : Refusal} → refusal σ p ≡ Some why → Makes σ (pass p) (entry (Refused why) p.board.readings σ) σ
  runs : {σ : State} {p : Pass} {r : Record} → refusal σ p ≡ None → FreeRun σ p r
      → Makes σ (pass p) (entry (Answered r.answer) r.readings (after σ r)) (after σ r)
  clears : {σ : State} → Makes σ clear (entry Done [] (cleared σ)) (cleared σ)

-- the definition's history of a list of calls from a state: each call adds its entry, and a pass that is not refused and has no free run breaks it
-- off, adding nothing
pub data Told : State → List Call → List Entry → Type 0 where
  told_end : {σ : State} → Told σ [] []
  told_more : {σ σ' : State} {c : Call} {h : Entry} {cs : List Call} {hs : List Entry} → Makes σ c h σ' → Told σ' cs hs → Told σ (c ∷ cs) (h ∷ hs)
  told_off : {σ : State} {p : Pass} {cs : List Call} → refusal σ p ≡ None → ((r : Record) → FreeRun σ p r → ⊥) → Told σ (pass p ∷ cs) []
