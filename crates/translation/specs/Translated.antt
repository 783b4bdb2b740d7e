-- The machine on the words of a script's code ends as its symbolic code does, and leaves the same.
use Rattle.std.specs.Prelude.{◌≡◌, ℕ, suc, ◌<◌, ◌≤◌, List, [], ◌∷◌, ◌++◌, length, take, drop, ℤ, pos, slice_index_or}
use Rattle.answer.specs.Numbers.{no_place}
use Rattle.answer.specs.declared.Ending.{Ending}
use Rattle.answer.specs.declared.Ending.TheVariants.{Finished}
use Rattle.board.specs.Meaning.{Means}
use Rattle.rules.specs.declared.Registers.{Registers}
use Rattle.effects.specs.Effects.{State, state}
use Rattle.machine.specs.Machine.{Setup, Ends}
use Rattle.machine.specs.Execute.{value_of}
use Rattle.meaning.specs.Tree.{Script}
use Rattle.meaning.specs.Meaning.{showing}
use Rattle.scheme.specs.Code.{Code, size}
use Rattle.scheme.specs.Scheme.{script_code}
use Rattle.scheme.specs.Written.{whole_words, code_marks}
use Rattle.symbolic.specs.Symbolic.{Rest, Finish, finished, failed, onto, fetch}
use Rattle.symbolic.specs.Symbolic
use Rattle.symbolic.specs.Proper.{Distinct}

-- the words S, top first, lie at the front of the stack memory, bottom first
abbrev pub Holds : List ℤ → List ℤ → Type 0
Holds ws S = (a : ℕ) → a < length S → slice_index_or ws a (pos 0) ≡ fetch S a

abbrev pub setup_of : Code → ℕ → Setup
setup_of P limit = record { code = whole_words P; deepest = limit }

-- the machine at position p, where symbolic code has the words S and carries ρ
abbrev pub registers_at : ℕ → Rest → Registers
registers_at p ρ = record { position = pos p; base = pos ρ.base; turns = ρ.left; depth = ρ.depth; deepest = ρ.deep }

abbrev pub state_at : Means → List ℤ → ℕ → List ℤ → Rest → State
state_at board ws p S ρ = state ws (length S) (showing board ρ.out) (registers_at p ρ)

-- what a run from the memory ws left in u: it ended at a place with the mark m; its value, the turns left, the greatest depth and the readings;
-- the board's inputs and page, and all words from `cap` on, are as they were
pub record Left (P : Code) (cap : ℕ) (board : Means) (ws : List ℤ) (e : Ending) (m : ℕ) (v : ℤ) (left deep : ℕ) (out : List ℤ) (u : State) : Type 0 where
  pub place : (p : ℕ) × (p < size P) × (u.registers.position ≡ pos p) × (slice_index_or (code_marks P) p no_place ≡ m)
  pub value : value_of e u.words u.used ≡ v
  pub turns : u.registers.turns ≡ left
  pub deepest : u.registers.deepest ≡ deep
  pub board_left : u.board ≡ showing board out
  pub room : length u.words ≡ length ws
  pub beyond : drop cap u.words ≡ drop cap ws

-- the machine on the words of P, from a state, ends as a finish of symbolic code says; one that finished has its value on the words left under it
abbrev pub Does : Code → ℕ → ℕ → Means → State → Finish → Type 0
Does P cap limit board s (finished v left deep out T) =
    (u : State) × Ends (setup_of P limit) s Finished u × Left P cap board s.words Finished no_place v left deep out u
    × (u.used ≡ suc (length T)) × (length T < length u.words) × Holds u.words (v ∷ T)
Does P cap limit board s (failed e m left deep out) =
    (u : State) × Ends (setup_of P limit) s e u × Left P cap board s.words e m (pos 0) left deep out u

-- symbolic code that keeps within `cap` words does on the machine what it does by itself, in every memory of at least as many
abbrev pub Translated : Type 0
Translated =
    (script : Script) (cap limit : ℕ) (board : Means) (ws S : List ℤ) (ρ : Rest) (o : Finish)
    → Distinct script.functions → ρ.back ≡ [] → length S ≤ cap → cap ≤ length ws → Holds ws S
    → Symbolic.Ends (script_code script) cap limit board (script_code script) S ρ o
    → Does (script_code script) cap limit board (state_at board ws 0 S ρ) o

-- words pushed one after the other lie in that order at the front of the memory, whatever words are on top of them
abbrev pub PushedInOrder : Type 0
PushedInOrder =
    (ws vs : List ℤ) → length vs ≤ length ws
    → (take (length vs) ws ≡ vs → Holds ws (onto vs []))
    × ((top : List ℤ) → Holds ws (top ++ onto vs []) → take (length vs) ws ≡ vs)
