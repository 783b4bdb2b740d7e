-- A station that agrees with a state of the definition, and what its calls do to both.
use Rattle.std.proofs.Common.{◌≡◌, ℕ, List, [], length, drop, ℤ, pos, Some, None, sum, Option, sym, refl, ap, ◌∙◌, subst, arith}
use Rattle.std.proofs.lemmas.List.{length-replicate, nil_from_length}
use Rattle.answer.specs.declared.Refusal.{Refusal}
use Rattle.meaning.specs.Tree.{Script}
use Rattle.history.specs.declared.Said.{Said}
use Rattle.history.specs.declared.Said.TheVariants.{Done, Refused}
use Rattle.history.specs.Calls.{Tables, Pass, Call, load, pass, clear, load_refusal, pass_refusal}
use Rattle.history.specs.History.{State, inputs_of, refusal, zeros}
use Rattle.history.specs.Promises.{Step, loads, passes, stepped}
use Rattle.script.specs.Least.{or_else}
use Rattle.station.specs.declared.held.Station.{Station}
use Rattle.station.specs.Held.{globals_of, Holds, Loaded, Agrees, NeverFull, Does, Kept, Cleared}

kept_holds : (t : Tables) (s s' : Station) → Kept s s' → length (globals_of s'.globals) ≡ length (globals_of s.globals) → Holds t s → Holds t s'
kept_holds t s s' k l h =
    let same : drop s'.start s'.code ≡ drop s.start s.code = cc (k.code, k.start) in
    let marks : drop s'.start s'.marks ≡ drop s.start s.marks = cc (k.marks, k.start) in
    record { accepted = h.accepted; constants = h.constants; inputs = k.inputs ∙ h.inputs; code = same ∙ h.code; marks = marks ∙ h.marks; total = l ∙ h.total }

-- as many globals, and all else as it was: the same script is loaded
pub kept_loaded : (o : Option Script) (s s' : Station) → Kept s s' → length (globals_of s'.globals) ≡ length (globals_of s.globals) → Loaded o s → Loaded o s'
kept_loaded None s s' k l h = (k.inputs ∙ h.0, nil_from_length _ (l ∙ ap length h.1))
kept_loaded (Some script) s s' k l h = (h.0, h.1, kept_holds h.0 s s' k l h.2)

-- how many inputs main takes is what the station holds
by_script : (o : Option Script) (s : Station) → Loaded o s → inputs_of o ≡ s.inputs
by_script None s h = sym h.0
by_script (Some script) s h = ap (λ (x : Script). inputs_of (Some x)) h.1 ∙ sym h.2.inputs

pub inputs_agree : (σ : State) (s : Station) → Agrees σ s → inputs_of σ.script ≡ s.inputs
inputs_agree σ s a = by_script σ.script s a.loaded

-- only an answer can tell of a full stack
done_room : NeverFull Done
done_room a e = let z : ◌≡◌ {A = ℕ} 0 1 = cc in absurd (omega arith)

refused-room : (why : Refusal) → NeverFull (Refused why)
refused-room why a e = let z : ◌≡◌ {A = ℕ} 0 1 = cc in absurd (omega arith)

pub cleared_does : (s s' : Station) → Cleared s s' → (σ : State) → Agrees σ s → Does σ clear Done [] s'
cleared_does s s' c σ a =
    let l : length (globals_of s'.globals) ≡ length (globals_of s.globals) = ap length c.globals ∙ length-replicate (length (globals_of s.globals)) (pos 0) in
    record {
      says = refl;
      reads = refl;
      agrees =
          record {
            loaded = kept_loaded σ.script s s' c.kept l a.loaded;
            globals = ap (λ (xs : List ℤ). zeros (length xs)) a.globals ∙ sym c.globals;
          };
      room = done_room;
    }

-- what a call does, by the step that it comes to
pub does_by : (σ : State) (c : Call) (said : Said) (readings : List ℤ) (s : Station) (n : Step) → stepped σ c ≡ n → said ≡ n.said → readings ≡ n.readings
    → Agrees n.state s → NeverFull said → Does σ c said readings s
does_by σ c said readings s n e says reads agrees room =
    record {
      says = says ∙ sym (ap (λ (x : Step). x.said) e);
      reads = reads ∙ sym (ap (λ (x : Step). x.readings) e);
      agrees = subst (λ (x : Step). Agrees x.state s) (sym e) agrees;
      room = room;
    }

-- an accepted one has it hold the script of the tables
pub accepted_does : (t : Tables) (s : Station) → load_refusal t ≡ None → Holds t s → globals_of s.globals ≡ zeros (sum t.lengths) → (σ : State)
    → Does σ (load t) Done [] s
accepted_does t s e h g σ = does_by σ (load t) Done [] s (loads σ t None) (ap (loads σ t) e) refl refl (record { loaded = (t, refl, h); globals = sym g }) done_room

-- the refusal of a pass that is due in a state is due at the station
pub due_agrees : (σ : State) (s : Station) (p : Pass) → Agrees σ s → refusal σ p ≡ or_else p.early (pass_refusal s.inputs p.allowed p.stack (length p.board.inputs))
due_agrees σ s p a = ap (λ (n : Option ℕ). or_else p.early (pass_refusal n p.allowed p.stack (length p.board.inputs))) (inputs_agree σ s a)

-- a pass that is refused leaves the station too
pub declined_does : (s : Station) (p : Pass) (why : Refusal) → or_else p.early (pass_refusal s.inputs p.allowed p.stack (length p.board.inputs)) ≡ Some why
    → (σ : State) → Agrees σ s → Does σ (pass p) (Refused why) p.board.readings s
declined_does s p why e σ a =
    does_by σ (pass p) (Refused why) p.board.readings s (passes σ p (Some why)) (ap (passes σ p) (due_agrees σ s p a ∙ e)) refl refl a (refused-room why)
