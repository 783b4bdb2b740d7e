-- What is promised of a station's entries for a list of calls, beside the definition's history of that list.
use Rattle.std.specs.Prelude.{◌≡◌, ℕ, ◌≤◌, List, [], ◌∷◌, ◌++◌, ℤ, Some, None, Option}
use Rattle.answer.specs.declared.Answer.{Answer}
use Rattle.answer.specs.declared.Refusal.{Refusal}
use Rattle.meaning.specs.Run.{Record, run, Starved, Covers}
use Rattle.history.specs.declared.Said.{Said}
use Rattle.history.specs.declared.Said.TheVariants.{Done, Refused, Answered}
use Rattle.history.specs.Calls.{Tables, Pass, Call, load, pass, clear, load_refusal}
use Rattle.history.specs.History.{State, Entry, start, holding, cleared, after, refusal, loaded_in, entry, Makes, accepts, rejects, declines, runs, clears, Told, told_end, told_more, told_off}

-- the call allows the turns and the depth that it needs: a pass with a free run needs those that the run's answer carries, and no other call needs any
abbrev pub Enough : {σ σ' : State} {c : Call} {h : Entry} → Makes σ c h σ' → Type 0
Enough (accepts f) = Unit {0}
Enough (rejects f) = Unit {0}
Enough (declines f) = Unit {0}
Enough (runs {p = p} {r = r} f free) = Covers p.allowed.turns p.allowed.depth r
Enough clears = Unit {0}

-- no pass needs more than its call allows; a pass without a free run needs more than any allowance
abbrev pub Within : {σ : State} {cs : List Call} {hs : List Entry} → Told σ cs hs → Type 0
Within told_end = Unit {0}
Within (told_more made rest) = Enough made × Within rest
Within (told_off f none) = ⊥

-- after these entries the definition stands in the second state, with the last calls to come
pub data Comes : State → List Call → List Entry → State → List Call → Type 0 where
  comes_here : {σ : State} {cs : List Call} → Comes σ cs [] σ cs
  comes_on : {σ σ' τ : State} {c : Call} {h : Entry} {cs ds : List Call} {hs : List Entry} → Makes σ c h σ' → Comes σ' cs hs τ ds → Comes σ (c ∷ cs) (h ∷ hs) τ ds

-- the run of the pass in that state, under an allowance
abbrev pub run_of : State → Pass → ℕ → ℕ → Record
run_of σ p turns depth = run (loaded_in σ) σ.globals p.board turns depth

-- an entry of a pass that was short of turns or depth: it names one of them, and its readings are the whole or a first part of those that the
-- definition has for that pass under any turns and depth at least as large
pub record Short (σ : State) (p : Pass) (e : Entry) : Type 0 where
  pub answer : Answer
  pub said : e.said ≡ Answered answer
  pub starved : Starved answer.ending
  pub readings : (turns depth : ℕ) → p.allowed.turns ≤ turns → p.allowed.depth ≤ depth
      → (later : List ℤ) × ((run_of σ p turns depth).readings ≡ e.readings ++ later)

-- what is left of two histories parts at once: the first entries differ, or one has none
abbrev pub Apart : List Entry → List Entry → Type 0
Apart [] [] = ⊥
Apart [] (e ∷ es) = Unit {0}
Apart (h ∷ hs) [] = Unit {0}
Apart (h ∷ hs) (e ∷ es) = h ≡ e → ⊥

-- after the entries `same` the definition comes to a pass, and the station's next entry is of one that was short
pub record Parted (cs : List Call) (same rest : List Entry) : Type 0 where
  pub state : State
  pub at : Pass
  pub later : List Call
  pub said : Entry
  pub others : List Entry
  pub comes : Comes start cs same state (pass at ∷ later)
  pub has : rest ≡ said ∷ others
  pub short : Short state at said

-- the promises on a list of calls and a station's entries, beside the definition's history hs of the calls
pub record Promises (cs : List Call) (es hs : List Entry) (told : Told start cs hs) : Type 0 where
  -- the two are equal exactly if no pass needs more turns or depth than its call allows
  pub equal : Within told → es ≡ hs
  pub within : es ≡ hs → Within told
  -- where they part, the station names turns or depth, with readings that the definition's begin with
  pub parting : (same hs' es' : List Entry) → hs ≡ same ++ hs' → es ≡ same ++ es' → Apart hs' es' → Parted cs same es'

abbrev pub Keeps : List Call → List Entry → Type 0
Keeps cs es = (hs : List Entry) (told : Told start cs hs) → Promises cs es hs told

-- a list of calls has one history: not none, and not two
abbrev pub OneHistory : List Call → Type 0
OneHistory cs = (((hs : List Entry) → Told start cs hs → ⊥) → ⊥) × ((hs hs' : List Entry) → Told start cs hs → Told start cs hs' → hs ≡ hs')

-- What a call does under its own allowance: that is computed.
pub record Step : Type 0 where
  pub state : State
  pub said : Said
  pub readings : List ℤ

abbrev pub step : State → Said → List ℤ → Step
step σ s rs = record { state = σ; said = s; readings = rs }

abbrev pub loads : State → Tables → Option Refusal → Step
loads σ t (Some why) = step σ (Refused why) []
loads σ t None = step (holding t) Done []

abbrev pub ran : State → Record → Step
ran σ r = step (after σ r) (Answered r.answer) r.readings

abbrev pub passes : State → Pass → Option Refusal → Step
passes σ p (Some why) = step σ (Refused why) p.board.readings
passes σ p None = ran σ (run_of σ p p.allowed.turns p.allowed.depth)

abbrev pub stepped : State → Call → Step
stepped σ (load t) = loads σ t (load_refusal t)
stepped σ (pass p) = passes σ p (refusal σ p)
stepped σ clear = step (cleared σ) Done []

abbrev pub entry_of : Step → Entry
entry_of n = entry n.said n.readings n.state

-- the entries of the calls, each run under its own allowance
abbrev pub played : State → List Call → List Entry
played σ [] = []
played σ (c ∷ cs) = entry_of (stepped σ c) ∷ played (stepped σ c).state cs

-- entries that come from runs under the calls' own allowances keep the promises
abbrev pub Promised : Type 0
Promised = (cs : List Call) → Keeps cs (played start cs)

abbrev pub Once : Type 0
Once = (cs : List Call) → OneHistory cs
