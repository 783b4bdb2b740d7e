-- What an accepted load leaves is the code of its tables.
use Rattle.std.proofs.Common.{◌≡◌, ℕ, zero, suc, ◌-◌, ◌<◌, ◌≤◌, Bool, true, false, cond, List, [], ◌∷◌, map, length, get_or, drop, ℤ, pos, Some, None, Ok, Err, sum, Option, Result, sym, refl, ap, ◌∙◌, arith, ltb-false}
use Rattle.std.specs.List.{AllByRecursion}
use Rattle.std.proofs.lemmas.List.{drop-map, get_or-map, length-replicate}
use Rattle.answer.specs.Numbers.{no_place, refused}
use Rattle.answer.specs.declared.Reason.TheVariants.{CodeLength}
use Rattle.answer.specs.declared.Refusal.{Refusal}
use Rattle.rules.specs.Limits.{code_limit}
use Rattle.script.specs.declared.Function.{Function}
use Rattle.script.specs.declared.Node.{Node}
use Rattle.script.specs.Fault.{fault}
use Rattle.script.specs.Least.{or_else}
use Rattle.script.specs.Scope.{function_at}
use Rattle.script.specs.Sound.{Limited}
use Rattle.script.proofs.SoundLaws.{sound}
use Rattle.scheme.specs.Code.{Code, size}
use Rattle.scheme.specs.Scheme.{script_code}
use Rattle.scheme.specs.Written.{written, too_long, entries_from}
use Rattle.accepted.specs.Accepted.{ConstantsFit}
use Rattle.accepted.proofs.Whole.{accepted}
use Rattle.bounds.proofs.Marks.{marks_fit}
use Rattle.writer.specs.Program.{answered}
use Rattle.compiler.specs.Compiled as compiler
use Rattle.compiler.specs.Compiled.{unless, compiled}
use Rattle.history.specs.Calls.{Tables, tables, script_in, load_refusal}
use Rattle.history.specs.History.{zeros}
use Rattle.station.specs.declared.held.Station.{Station}
use Rattle.station.specs.Held.{globals_of}
use Rattle.station.specs.Filled.{narrowed, entered, Filled}
use Rattle.station.specs.Passed.{LoadedFrom}

impossible : {X : Type 0} {why : Refusal} {x : X} → Ok x ≡ Err why → ⊥
impossible e = let z : ◌≡◌ {A = ℕ} 0 1 = cc in omega arith

-- a start that was answered is that of code that is not too long
started : (long : Bool) (at start : ℕ) → Ok start ≡ cond long (Err (refused CodeLength)) (Ok at) → (long ≡ false) × (start ≡ at)
started true at start e = absurd (impossible e)
started false at start e = (refl, cc)

by_fault : (o : Option Refusal) (r : Result ℕ Refusal) (start : ℕ) → Ok start ≡ unless o r → (o ≡ None) × (Ok start ≡ r)
by_fault None r start e = (refl, e)
by_fault (Some why) r start e = absurd (impossible e)

-- what it says of tables that they were compiled
pub record Fine (t : Tables) (start : ℕ) : Type 0 where
  pub faultless : fault t.functions t.lengths t.nodes ≡ None
  pub short : too_long (script_in t) ≡ false
  pub start_is : start ≡ code_limit - size (script_code (script_in t))

pub fine : (t : Tables) (start : ℕ) → Ok start ≡ compiled t.functions t.lengths t.nodes → Fine t start
fine t start e =
    let a = by_fault (fault t.functions t.lengths t.nodes) (answered (script_in t)) start e in
    let b = started (too_long (script_in t)) (code_limit - size (script_code (script_in t))) start a.1 in
    record { faultless = a.0; short = b.0; start_is = b.1 }

-- they are within their limits
pub within : (fs : List Function) (gs : List ℕ) (xs : List Node) (start : ℕ) → Ok start ≡ compiled fs gs xs → Limited fs gs xs
within fs gs xs start e = (sound fs gs xs (fine (tables fs gs xs) start e).faultless).limited

pub none-refused : (t : Tables) (start : ℕ) → Fine t start → load_refusal t ≡ None
none-refused t start f =
    ap (λ (o : Option Refusal). or_else o (cond (too_long (script_in t)) (Some (refused CodeLength)) None)) f.faultless
    ∙ ap (λ (b : Bool). cond b (Some (refused CodeLength)) None) f.short

-- marks that fit 16 bits are taken over as they are
as_they_are : (ms : List ℕ) → AllByRecursion (λ m. m ≤ no_place) ms → map narrowed ms ≡ ms
as_they_are [] h = refl
as_they_are (m ∷ ms) h = let a = h.0 in let q : narrowed m ≡ m = omega arith in let r = as_they_are ms h.1 in cc

-- so are entry positions
few_words : (P : Code) (g n f : ℕ) → get_or (entries_from P g n) f 0 ≤ size P
few_words P g zero f = omega arith
few_words P g (suc n) zero = omega arith
few_words P g (suc n) (suc f) = few_words P (suc g) n f

entries_filled : (t : Tables) (start : ℕ) (entries : List ℕ) (is : List Function) → Fine t start → length t.functions ≤ length entries
    → ((f : ℕ) → f < length t.functions → get_or entries f 0 ≡ get_or (written (script_in t)).entries f 0)
    → Filled (map narrowed entries) t.functions is → Filled (written (script_in t)).entries t.functions is
entries_filled t start entries is f many same filled =
    record {
      long = filled.long;
      each = λ k h.
          let P = script_code (script_in t) in
          let e = same k h in
          let few = few_words P 0 (length (script_in t).functions) k in
          let short = ltb-false code_limit (size P) f.short in
          let fits : narrowed (get_or entries k 0) ≡ get_or (written (script_in t)).entries k 0 = omega arith in
          filled.each k h ∙ ap (entered (function_at t.functions k)) (get_or-map narrowed entries k 0 0 (omega arith) ∙ fits);
    }

pub loaded_from : (t : Tables) (s : Station) (start inputs : ℕ) (words : List ℤ) (marks entries : List ℕ) (functions : List Function)
    → Fine t start → ConstantsFit t.nodes → compiler.Holds t.functions t.lengths t.nodes words marks entries
    → length t.functions ≤ length entries
    → s.code ≡ words → s.marks ≡ map narrowed marks → s.start ≡ start → s.inputs ≡ Some inputs → inputs ≡ (function_at t.functions 0).parameters
    → globals_of s.globals ≡ zeros (sum t.lengths) → Filled (map narrowed entries) t.functions functions
    → LoadedFrom t s functions
loaded_from t s start inputs words marks entries functions f constants holds many is_code is-marks is-start is-inputs main globals filled =
    let code = holds f.faultless f.short in
    let at : s.start ≡ code_limit - size (script_code (script_in t)) = is-start ∙ f.start_is in
    let ready = accepted t.functions t.lengths t.nodes f.faultless constants in
    let some = (sound t.functions t.lengths t.nodes f.faultless).limited.functions.0 in
    let fit = marks_fit t.functions t.lengths t.nodes f.faultless in
    record {
      holds =
          record {
            accepted = none-refused t start f;
            constants = constants;
            inputs = is-inputs ∙ ap Some (main ∙ sym (ready.parameters 0 some));
            code = ap (λ (ws : List ℤ). drop s.start ws) is_code ∙ ap (λ (n : ℕ). drop n words) at ∙ code.words_are;
            marks =
                ap (λ (ms : List ℕ). drop s.start ms) is-marks
                ∙ ap (λ (n : ℕ). drop n (map narrowed marks)) at
                ∙ drop-map narrowed (code_limit - size (script_code (script_in t))) marks
                ∙ ap (map narrowed) code.marks_are
                ∙ as_they_are (written (script_in t)).marks fit;
            total = ap length globals ∙ length-replicate (sum t.lengths) (pos 0);
          };
      globals = globals;
      entries = entries_filled t start entries functions f many code.entries_are filled;
    }
