-- What a station holds, by its memory, and which state of the definition that is.
use Rattle.std.specs.Prelude.{◌≡◌, ℕ, List, [], ◌++◌, length, take, drop, ℤ, Some, None, sum, Option, ◌≢◌}
use Rattle.answer.specs.declared.Answer.{Answer}
use Rattle.answer.specs.declared.Ending.TheVariants.{StackFull}
use Rattle.meaning.specs.Tree.{Script}
use Rattle.scheme.specs.Written.{written}
use Rattle.accepted.specs.Accepted.{ConstantsFit}
use Rattle.history.specs.declared.Said.{Said}
use Rattle.history.specs.declared.Said.TheVariants.{Answered}
use Rattle.history.specs.Calls.{Tables, Call, script_in, load_refusal}
use Rattle.history.specs.History.{State, inputs_of, zeros}
use Rattle.history.specs.Promises.{stepped}
use Rattle.station.specs.declared.globals.Globals.{Globals}
use Rattle.station.specs.declared.held.Station.{Station}

-- the words of the globals
abbrev pub globals_of : Globals → List ℤ
globals_of g = take g.used g.words

-- words with others laid over their front
abbrev pub laid : List ℤ → List ℤ → List ℤ
laid front words = front ++ drop (length front) words

-- the code that is loaded, and its marks, from the far end of their tables
abbrev pub code_of : Station → List ℤ
code_of s = drop s.start s.code

abbrev pub marks_of : Station → List ℕ
marks_of s = drop s.start s.marks

-- the station holds the code of these tables, which a load accepts, with its marks, and room for their globals
pub record Holds (t : Tables) (s : Station) : Type 0 where
  pub accepted : load_refusal t ≡ None
  pub constants : ConstantsFit t.nodes
  pub inputs : s.inputs ≡ inputs_of (Some (script_in t))
  pub code : code_of s ≡ (written (script_in t)).words
  pub marks : marks_of s ≡ (written (script_in t)).marks
  pub total : length (globals_of s.globals) ≡ sum t.lengths

-- the station holds that script, or nothing where there is none
abbrev pub Loaded : Option Script → Station → Type 0
Loaded None s = (s.inputs ≡ None) × (globals_of s.globals ≡ [])
Loaded (Some script) s = (t : Tables) × (script ≡ script_in t) × Holds t s

-- the station holds what the definition's state says
pub record Agrees (σ : State) (s : Station) : Type 0 where
  pub loaded : Loaded σ.script s
  pub globals : σ.globals ≡ globals_of s.globals

-- what was said is no run that ended for want of room on the stack
abbrev pub NeverFull : Said → Type 0
NeverFull said = (a : Answer) → said ≡ Answered a → a.ending ≢ StackFull

-- what a call said, the readings on its board and the station after it are those of the definition's step from σ under the call's own allowance
pub record Does (σ : State) (c : Call) (said : Said) (readings : List ℤ) (after : Station) : Type 0 where
  pub says : said ≡ (stepped σ c).said
  pub reads : readings ≡ (stepped σ c).readings
  pub agrees : Agrees (stepped σ c).state after
  pub room : NeverFull said

-- whatever state of the definition the first station agrees with, the call did what the definition's step from there does
abbrev pub Follows : Station → Call → Said → List ℤ → Station → Type 0
Follows was c said readings is = (σ : State) → Agrees σ was → Does σ c said readings is

-- all of a station but its globals is as it was
pub record Kept (was is : Station) : Type 0 where
  pub code : is.code ≡ was.code
  pub marks : is.marks ≡ was.marks
  pub start : is.start ≡ was.start
  pub inputs : is.inputs ≡ was.inputs

-- the globals are 0, and all else is as it was
pub record Cleared (was is : Station) : Type 0 where
  pub kept : Kept was is
  pub globals : globals_of is.globals ≡ zeros (length (globals_of was.globals))
