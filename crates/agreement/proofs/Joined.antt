-- The theorem, from what is proved of accepted tables, of symbolic code and of its words.
use Rattle.std.proofs.Common.{◌≡◌, ℕ, ◌-◌, ◌≤◌, List, [], ◌∷◌, length, get_or, ℤ, pos, nat_abs, sum, sym, refl, ap, ◌∙◌, subst, arith}
use Rattle.answer.specs.Numbers.{ending_number, no_place}
use Rattle.answer.specs.declared.Ending.{Ending}
use Rattle.answer.specs.declared.Ending.TheVariants.{Finished}
use Rattle.board.specs.Meaning.{Means}
use Rattle.effects.specs.Effects.{State}
use Rattle.machine.specs.Machine.{Ends}
use Rattle.machine.specs.Execute.{starting, answered}
use Rattle.meaning.specs.Tree.{Script}
use Rattle.meaning.specs.Tables.{script_of}
use Rattle.meaning.specs.Steps.{Out, fine, ended}
use Rattle.meaning.specs.Run.{record_of, outcome}
use Rattle.scheme.specs.Code.{Code}
use Rattle.scheme.specs.Scheme.{script_code}
use Rattle.scheme.specs.Written.{written, code_marks}
use Rattle.symbolic.specs.Symbolic.{ends, onto, Finish, Rest}
use Rattle.symbolic.specs.Symbolic
use Rattle.symbolic.specs.Proper.{finish_of, Known}
use Rattle.simulation.specs.Simulated.{resting}
use Rattle.simulation.proofs.Program.{script_runs}
use Rattle.translation.specs.Translated.{Does, Left}
use Rattle.translation.proofs.Whole.{translated}
use Rattle.translation.proofs.Front.{pushed_in_order, start_is}
use Rattle.translation.proofs.Reading.{length-onto}
use Rattle.accepted.specs.Accepted.{spare_words}
use Rattle.accepted.proofs.Whole.{accepted}
use Rattle.script.proofs.SoundLaws.{sound}
use Rattle.agreement.specs.Agreement.{Agreement, Agreed, marked, stack_words}
use Rattle.agreement.proofs.Causes.{Own, own}

-- what the machine left, told by nodes, is the answer
answers : (P : Code) (cap turns : ℕ) (board : Means) (ws out : List ℤ) (e : Ending) (m left deep : ℕ) (v : ℤ) (u : State) → Left P cap board ws e m v left deep out u
    → marked (code_marks P) (answered turns e u.words u.used u.registers) ≡ record { ending = e; place = pos m; value = v; turns = turns - left; depth = deep }
answers P cap turns board ws out e m left deep v u l =
    let p = l.place in
    let q : pos (get_or (code_marks P) (nat_abs u.registers.position) no_place) ≡ pos m = ap (λ (x : ℤ). pos (get_or (code_marks P) (nat_abs x) no_place)) p.2 ∙ ap pos p.3 in
    let t : turns - u.registers.turns ≡ turns - left = ap (λ (k : ℕ). turns - k) l.turns in
    let w = l.value in
    let d = l.deepest in
    cc

-- from the machine's doing to agreement, however the script's run comes out
joined : (script : Script) (board : Means) (turns depth : ℕ) (s : State) (x : Out ℤ) → s.registers.turns ≡ turns → Own (finish_of x)
    → Does (script_code script) (stack_words depth) depth board s (finish_of x) → Agreed (written script) board depth s (record_of turns x)
joined script board turns depth s (fine v f) t o (u, e, l, n, r, h) =
    record {
      final = u;
      ends = e;
      answer = ap (λ (k : ℕ). marked (code_marks (script_code script)) (answered k Finished u.words u.used u.registers)) t
          ∙ answers (script_code script) (stack_words depth) turns board s.words f.readings Finished no_place f.left f.deepest v u l;
      board_left = l.board_left;
      globals_left = λ _. let y = length-onto f.globals [] in (pushed_in_order u.words f.globals (omega arith)).1 (v ∷ []) h;
      proper = omega arith;
      untouched = l.beyond;
    }
joined script board turns depth s (ended c m f) t o (u, e, l) =
    record {
      final = u;
      ends = e;
      answer = ap (λ (k : ℕ). marked (code_marks (script_code script)) (answered k c u.words u.used u.registers)) t
          ∙ answers (script_code script) (stack_words depth) turns board s.words f.readings c m f.left f.deepest (pos 0) u l;
      board_left = l.board_left;
      globals_left = λ q. let z = ap ending_number q in let p = o.0 in absurd (omega arith);
      proper = o.1;
      untouched = l.beyond;
    }

caused : (P : Code) (cap limit : ℕ) (board : Means) (C : Code) (S : List ℤ) (ρ : Rest) (o : Finish) → Symbolic.Ends P cap limit board C S ρ o → Own o
caused P cap limit board C S ρ o (ends k h) = own P cap limit board o k C S ρ h

pub agreement : Agreement
agreement functions lengths nodes globals board stack turns depth h allows =
    let script = script_of functions lengths nodes in
    let P = script_code script in
    let cap = stack_words depth in
    let ok = accepted functions lengths nodes h.accepts h.constants in
    let words = (sound functions lengths nodes h.accepts).limited.words in
    let total = h.total in
    let room = allows.room in
    let deep = allows.limit in
    let few : length globals ≤ cap = omega arith in
    let long = length-onto globals [] in
    let o = finish_of (outcome script globals board turns depth) in
    let main = subst (λ (k : ℕ). Known script.functions 0 k) (sym h.inputs) ok.main in
    let runs = script_runs script globals board turns depth (sum lengths) spare_words cap ok.proper main h.inputs_fit h.globals_fit total (omega arith) allows.level (omega arith) (omega arith) in
    let holds = (pushed_in_order stack globals (omega arith)).0 h.front in
    let does = translated script cap depth board stack (onto globals []) (resting board turns) o ok.distinct refl (omega arith) room holds runs in
    joined script board turns depth (starting stack (length globals) board turns) (outcome script globals board turns depth) refl
    (caused P cap depth board P (onto globals []) (resting board turns) o runs)
    (subst (λ (s : State). Does P cap depth board s o) (start_is board stack globals turns) does)
