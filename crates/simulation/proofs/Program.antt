-- A whole script: its code does what the script means, from its opening on.
use Rattle.std.proofs.Common.{◌≡◌, ℕ, zero, suc, ◌+◌, ◌-◌, ◌*◌, ◌^◌, ◌<◌, ◌≤◌, max, List, [], ◌∷◌, ◌++◌, length, get_or, ℤ, sym, refl, subst, arith, lt-ltb}
use Rattle.answer.specs.Numbers.{no_place}
use Rattle.board.specs.Meaning.{Means}
use Rattle.meaning.specs.Tree.{Function, Script}
use Rattle.meaning.specs.Steps.{State, Out, fine, ended, ◌then◌, with_depth}
use Rattle.meaning.specs.Meaning.{no_function, body}
use Rattle.meaning.specs.Run.{starting, outcome}
use Rattle.scheme.specs.Code.{Code}
use Rattle.scheme.specs.Code
use Rattle.scheme.specs.Scheme.{body_code, functions_code, script_code}
use Rattle.symbolic.specs.Symbolic.{Finish, finished, EndsIn, ends, onto, Suffix, same, more}
use Rattle.symbolic.specs.Proper.{Fit, Known, Proper, finish_of}
use Rattle.symbolic.specs.Proper.{frame_limit}
use Rattle.simulation.specs.Simulated.{resting, Simulated}
use Rattle.scheme.proofs.Keep.{keeps_more, keeps_body}
use Rattle.simulation.proofs.Stack.{len_onto}
use Rattle.simulation.proofs.Turns.{descend-none, descend_one}
use Rattle.simulation.proofs.Frames.{After, after_map, after_same}
use Rattle.simulation.proofs.Machine.{Machine, In, Run}
use Rattle.simulation.proofs.Calls.{Caller, linked, entered}
use Rattle.simulation.proofs.Functions.{Info, body_runs}

-- each function's code stands behind its entry
placed : (lengths : List ℕ) (f₀ : ℕ) (fns : List Function) (f g : ℕ) → g ≡ f₀ + f → f < length fns
    → (X : Code) × Suffix (Code.entry g ∷ body_code lengths (get_or fns f no_function) X) (functions_code lengths f₀ fns)
unfolding functions_code
placed ls f₀ [] f g e h = absurd (omega arith)
placed ls f₀ (fn ∷ fns) zero g e h =
    let z : g ≡ f₀ = omega arith in
    let D = body_code ls fn (functions_code ls (suc f₀) fns) in
    let u : Suffix (Code.entry f₀ ∷ D) (Code.entry f₀ ∷ D) = same in
    (functions_code ls (suc f₀) fns, subst (λ (x : ℕ). Suffix (Code.entry x ∷ D) (Code.entry f₀ ∷ D)) (sym z) u)
placed ls f₀ (fn ∷ fns) (suc f) g e h =
    let r = placed ls (suc f₀) fns f g (omega arith) (omega arith) in
    (r.0, keeps_more _ (keeps_body ls fn (functions_code ls (suc f₀) fns)) _ refl r.1)

-- that a run ends so, with a value
abbrev Final : Finish → ℤ → State → Type 0
Final o v s = o ≡ finished v s.left s.deepest s.readings (onto s.globals [])

final : (m : Out ℤ) → After m (Final (finish_of m)) (finish_of m)
final (fine v s) = refl
final (ended e n s) = refl

module _ (script : Script) (globals : List ℤ) (board : Means) (limit gl spare cap : ℕ) (proper : Proper script.lengths script.functions gl spare)
    (kn : Known script.functions 0 (length board.inputs)) (fi : Fit board.inputs) (fg : Fit globals) (ge : length globals ≡ gl)
    (some : 1 ≤ spare) (li : 1 ≤ limit) (rm : gl + frame_limit * limit ≤ cap) (small : cap < 2 ^ 31) where
  abbrev machine : Machine
  machine = record { code = script_code script; cap = cap; limit = limit; board = board }

  -- behind the opening: STOP, and the functions
  abbrev closing : Code
  closing = Code.stop ∷ functions_code script.lengths 0 script.functions

  -- main is called from nowhere but the opening
  abbrev opening : Caller
  opening = record { base = 0; words = []; depth = 0; rest = closing; back = [] }

  info : (f m : ℕ) → Known script.functions f m → Info (script_code script) script.lengths script.functions gl spare (Known script.functions) f m
  unfolding script_code
  info f m k =
      let p = placed script.lengths 0 script.functions f f (omega arith) k.0 in
      let q = proper f k.0 in
      let e = k.1 in
      let z = q.1 in
      record { parameters = k.1; small = omega arith; rest = p.0; placed = more (more (more p.1)); ok = q.0 }

  opened : (turns : ℕ) (o : Finish) → After (outcome script globals board turns limit) (Final o) o → Run machine (script_code script) (onto globals []) (resting board turns) o
  unfolding EndsIn outcome script_code
  opened zero o h =
      let p = (proper 0 kn.0).1 in
      let e = kn.1 in
      let a = len_onto globals [] in
      ends 2 (
        omega arith,
        (
          board.inputs,
          onto globals [],
          refl,
          sym kn.1,
          after_same (λ (m : Out (Unit {0})). m then λ _ s₁. body script board limit zero 1 0 board.inputs s₁) (Final o) o
              (descend-none limit 0 no_place (starting globals board zero) (omega arith)) h,
        ),
      )
  opened (suc t) o h =
      let s₁ = with_depth (starting globals board t) 1 in
      let p = (proper 0 kn.0).1 in
      let e = kn.1 in
      let x = body_runs script machine gl spare some small (Known script.functions) info (suc t) opening (limit - 1) 0 board.inputs s₁ o kn fi fg ge (omega arith) (omega arith) (omega arith)
      (after_map (body script board limit (suc t) 1 0 board.inputs s₁) _ _ o (λ v s₂ q le fv gf ge₁. ends 1 q)
      (after_same (λ (m : Out (Unit {0})). m then λ _ s₂. body script board limit (suc t) 1 0 board.inputs s₂) (Final o) o
      (descend_one limit 0 no_place t (starting globals board (suc t)) refl (lt-ltb 0 limit li)) h)) in
      let a = len_onto board.inputs (onto globals []) in
      let a₂ = len_onto globals [] in
      go (omega arith) (omega arith) (omega arith) x.0 x.1 x.2
    where
      go : length (onto globals []) + length board.inputs ≤ cap → length (onto board.inputs (onto globals [])) + 2 ≤ cap → length {A = ℤ} [] + gl ≡ length (onto globals [])
          → (D : Code) → Suffix (Code.entry 0 ∷ D) (script_code script)
          → Run machine D (onto board.inputs (linked machine opening ++ onto globals []))
          (entered gl opening (with_depth (starting globals board t) 1)) o
          → Run machine (script_code script) (onto globals []) (resting board (suc t)) o
      go room room₂ e D u (ends k q) =
          ends (suc (suc k)) (
            room,
            (
              board.inputs,
              onto globals [],
              refl,
              sym kn.1,
              rw (lt-ltb 0 limit li) (
                room₂,
                D,
                u,
                subst (λ (x : ℕ). In machine k D (onto board.inputs (linked machine opening ++ onto globals []))
                    (record { base = suc (suc x); left = t; depth = 1; deep = max 1 0; out = board.readings; back = closing ∷ [] }) o) e q,
              ),
            ),
          )

pub script_runs : Simulated
script_runs script globals board turns limit gl spare cap proper kn fi fg ge some li rm small =
    let m = outcome script globals board turns limit in
    opened script globals board limit gl spare cap proper kn fi fg ge some li rm small turns (finish_of m) (final m)
