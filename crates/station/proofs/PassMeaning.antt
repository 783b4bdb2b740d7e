-- What a pass does is what the script means.
use Rattle.std.proofs.Common.{◌≡◌, ℕ, ◌≤◌, List, length, get_or, take, drop, ℤ, Some, None, Option, sym, refl, ap, ◌∙◌, subst, arith, length-append, length-drop, length-take}
use Rattle.std.proofs.lemmas.List.{take_at, take-take, length-take-le}
use Rattle.std.proofs.lemmas.Option.{none-some}
use Rattle.answer.specs.Numbers.{ending_number}
use Rattle.answer.specs.declared.Answer.{Answer}
use Rattle.answer.specs.declared.Ending.{Ending}
use Rattle.answer.specs.declared.Ending.TheVariants.{Finished}
use Rattle.answer.specs.declared.Refusal.{Refusal}
use Rattle.board.specs.Meaning.{Means}
use Rattle.effects.specs.Effects.{State as Machine}
use Rattle.machine.specs.declared.Allowance.{Allowance}
use Rattle.machine.specs.Machine.{Setup, Ends}
use Rattle.machine.specs.Execute.{answered}
use Rattle.machine.proofs.Outcome.{one_outcome}
use Rattle.script.specs.Limits.{max_words}
use Rattle.script.specs.Least.{or_else}
use Rattle.script.specs.Fault.{fault}
use Rattle.script.proofs.SoundLaws.{sound}
use Rattle.meaning.specs.Tree.{Script}
use Rattle.meaning.specs.Meaning.{no_function}
use Rattle.meaning.specs.Run.{Record, run}
use Rattle.scheme.specs.Written.{written}
use Rattle.symbolic.specs.Proper.{Fit}
use Rattle.accepted.proofs.Whole.{accepted}
use Rattle.agreement.specs.Agreement.{stack_words, marked, Agreed}
use Rattle.agreement.proofs.Joined.{agreement}
use Rattle.bounds.proofs.Globals.{globals_stay}
use Rattle.history.specs.declared.Said.TheVariants.{Answered}
use Rattle.history.specs.Calls.{Tables, Pass, pass, script_in, pass_refusal}
use Rattle.history.specs.History.{State, kept_by, refusal, of_loaded, loaded_in}
use Rattle.history.specs.Promises.{passes, ran, run_of, stepped}
use Rattle.station.specs.declared.held.Station.{Station}
use Rattle.station.specs.Held.{globals_of, laid, Holds, Loaded, Agrees, NeverFull, Does}
use Rattle.station.specs.Passed.{touched, start_of, Passed}
use Rattle.station.proofs.Agreeing.{kept_loaded, due_agrees, does_by}
use Rattle.station.proofs.Clear.{Clear, no_refusal}

-- two outcomes of one run are one
alike : (t : Setup) (s : Machine) (d e : Ending) (v u : Machine) → Ends t s d v → Ends t s e u → (d ≡ e) × (v ≡ u)
alike t s d e v u p q =
    let o = one_outcome t s in
    let a = o.3 d v p in
    let b = o.3 e u q in
    (a.0 ∙ sym b.0, a.1 ∙ sym b.1)

-- the tables of an accepted load have no fault
pub no_fault : (o p : Option Refusal) → or_else o p ≡ None → o ≡ None
no_fault None p e = refl
no_fault (Some why) p e = absurd (none-some _ (sym e))

-- by an ending only what is written back counts
kept_same : (e : Ending) (new new' old old' : List ℤ) → (e ≡ Finished → new ≡ new') → old ≡ old' → kept_by e new old ≡ kept_by e new' old'
kept_same Finished new new' old old' f q = f refl
kept_same _ new new' old old' f q = q

kept_length : (e : Ending) (new old : List ℤ) → length new ≡ length old → length (kept_by e new old) ≡ length old
kept_length Finished new old l = l
kept_length _ new old l = refl

-- what comes of the machine's run is the record of the script's run under the same allowance
record Same (s : Station) (stack' : List ℤ) (board' : Means) (a : Answer) (r : Record) : Type 0 where
  answer : a ≡ r.answer
  readings : board'.readings ≡ r.readings
  globals : r.answer.ending ≡ Finished → take (length (globals_of s.globals)) stack' ≡ r.globals
  proper : ending_number r.answer.ending ≤ 5

module _ (t : Tables) (s s' : Station) (allowed : Allowance) (stack stack' : List ℤ) (board board' : Means) (a : Answer) (h : Holds t s)
    (due : pass_refusal s.inputs allowed (length stack) (length board.inputs) ≡ None) (gs_fit : Fit (globals_of s.globals)) (in_fit : Fit board.inputs)
    (p : Passed s s' allowed stack stack' board board' a) where
  abbrev gs : List ℤ
  gs = globals_of s.globals

  abbrev k : ℕ
  k = stack_words allowed.depth

  abbrev words : List ℤ
  words = laid gs (touched allowed stack)

  abbrev r : Record
  r = run (script_in t) gs board allowed.turns allowed.depth

  faultless : fault t.functions t.lengths t.nodes ≡ None
  faultless = no_fault _ _ h.accepted

  -- the pass was not refused, so it has all that it asks for
  clear : Clear (get_or (script_in t).functions 0 no_function).parameters allowed (length stack) (length board.inputs)
  clear =
      no_refusal _ allowed (length stack) (length board.inputs)
      (ap (λ (n : Option ℕ). pass_refusal n allowed (length stack) (length board.inputs)) (sym h.inputs) ∙ due)

  few : length gs ≤ max_words
  few = let w = (sound t.functions t.lengths t.nodes faultless).limited.words in let e = h.total in omega arith

  long : length words ≡ k
  long =
      let c = clear.room in
      let m = few in
      let x = length-take k stack in
      simp (length-append, length-drop) (omega arith)

  agreed : Agreed (written (script_in t)) board allowed.depth (start_of s allowed stack board) r
  agreed =
      let c = clear in
      let ready = accepted t.functions t.lengths t.nodes faultless h.constants in
      let some = (sound t.functions t.lengths t.nodes faultless).limited.functions.0 in
      agreement t.functions t.lengths t.nodes gs board words allowed.turns allowed.depth
      (record {
        accepts = faultless;
        constants = h.constants;
        total = h.total;
        globals_fit = gs_fit;
        inputs_fit = in_fit;
        inputs = c.inputs_fit ∙ ready.parameters 0 some;
        front = take_at gs (drop (length gs) (touched allowed stack)) (length gs) refl;
      })
      (record { turn = c.turn; level = c.level; limit = let d = c.depth in omega arith; room = let l = long in omega arith })

  -- the run that the pass made is that run
  once : (p.ran.ending ≡ r.answer.ending) × (p.ran.final ≡ agreed.final)
  once =
      alike _ _ _ _ _ _
      (subst (λ (ws : List ℤ). Ends (record { code = ws; deepest = allowed.depth }) (start_of s allowed stack board) p.ran.ending p.ran.final) h.code p.ran.ends)
      agreed.ends

  same : Same s stack' board' a r
  same =
      let o = once in
      let told = p.told in
      let by = p.ran.answer in
      let marks = h.marks in
      record {
        answer =
            told
            ∙ ap (λ (ms : List ℕ). marked ms p.by_position) marks
            ∙ ap (marked (written (script_in t)).marks) by
            ∙ ap (λ (e : Ending). marked (written (script_in t)).marks (answered allowed.turns e p.ran.final.words p.ran.final.used p.ran.final.registers)) o.0
            ∙ ap (λ (u : Machine). marked (written (script_in t)).marks (answered allowed.turns r.answer.ending u.words u.used u.registers)) o.1
            ∙ agreed.answer;
        readings = ap (λ (m : Means). m.readings) (p.ran.board_left ∙ ap (λ (u : Machine). u.board) o.1 ∙ agreed.board_left);
        globals = λ f.
            let n = globals_stay (script_in t) gs board allowed.turns allowed.depth in
            let m = few in
            let w : touched allowed stack' ≡ agreed.final.words = p.ran.words_left ∙ ap (λ (u : Machine). u.words) o.1 in
            sym (take-take (length gs) k stack' (omega arith)) ∙ ap (take (length gs)) w ∙ ap (λ (x : ℕ). take x agreed.final.words) (sym n) ∙ agreed.globals_left f;
        proper = agreed.proper;
      }

answered-room : (a : Answer) (e : Ending) → a.ending ≡ e → ending_number e ≤ 5 → NeverFull (Answered a)
answered-room a e q h b eq full =
    let same : a ≡ b = cc in
    let n : ending_number e ≡ 8 = ap ending_number (sym q ∙ ap (λ (x : Answer). x.ending) same ∙ full) in
    omega arith

pub passed_does : (s s' : Station) (p : Pass) (stack stack' : List ℤ) (board' : Means) (a : Answer)
    → p.early ≡ None → p.stack ≡ length stack → length stack' ≡ length stack
    → pass_refusal s.inputs p.allowed (length stack) (length p.board.inputs) ≡ None → Fit (globals_of s.globals) → Fit p.board.inputs
    → Passed s s' p.allowed stack stack' p.board board' a
    → (σ : State) → Agrees σ s → Does σ (pass p) (Answered a) board'.readings s'
passed_does s s' p stack stack' board' a early stack_is long-is due gs_fit in_fit passed σ agrees = go σ.script refl agrees.loaded
  where
    due_σ : refusal σ p ≡ None
    due_σ =
        due_agrees σ s p agrees
        ∙ ap (λ (o : Option Refusal). or_else o (pass_refusal s.inputs p.allowed p.stack (length p.board.inputs))) early
        ∙ ap (λ (n : ℕ). pass_refusal s.inputs p.allowed n (length p.board.inputs)) stack_is
        ∙ due

    go : (o : Option Script) → σ.script ≡ o → Loaded o s → Does σ (pass p) (Answered a) board'.readings s'
    go None e h = absurd (none-some _ (sym due ∙ ap (λ (n : Option ℕ). pass_refusal n p.allowed (length stack) (length p.board.inputs)) h.0))
    go (Some script) e h =
        let t = h.0 in
        let hold = h.2 in
        let q = same t s s' p.allowed stack stack' p.board board' a hold due gs_fit in_fit passed in
        let r = run (script_in t) (globals_of s.globals) p.board p.allowed.turns p.allowed.depth in
        let script-is : loaded_in σ ≡ script_in t = ap of_loaded e ∙ h.1 in
        let run_is : run_of σ p p.allowed.turns p.allowed.depth ≡ r =
        ap (λ (x : Script). run x σ.globals p.board p.allowed.turns p.allowed.depth) script-is
        ∙ ap (λ (gs : List ℤ). run (script_in t) gs p.board p.allowed.turns p.allowed.depth) agrees.globals in
        let step_is : stepped σ (pass p) ≡ ran σ r = ap (passes σ p) due_σ ∙ ap (ran σ) run_is in
        let ending : a.ending ≡ r.answer.ending = ap (λ (x : Answer). x.ending) q.answer in
        let m = few t s s' p.allowed stack stack' p.board board' a hold due gs_fit in_fit passed in
        let room = (clear t s s' p.allowed stack stack' p.board board' a hold due gs_fit in_fit passed).room in
        let taken = length-take-le (length (globals_of s.globals)) stack' (omega arith) in
        let size : length (globals_of s'.globals) ≡ length (globals_of s.globals) = ap length passed.globals ∙ kept_length a.ending _ _ taken in
        let left : globals_of s'.globals ≡ kept_by r.answer.ending r.globals σ.globals =
        passed.globals
        ∙ ap (λ (x : Ending). kept_by x (take (length (globals_of s.globals)) stack') (globals_of s.globals)) ending
        ∙ kept_same r.answer.ending _ _ _ _ q.globals (sym agrees.globals) in
        does_by σ (pass p) (Answered a) board'.readings s' (ran σ r) step_is (ap Answered q.answer) q.readings
        (record { loaded = kept_loaded σ.script s s' passed.kept size agrees.loaded; globals = sym left })
        (answered-room a r.answer.ending ending q.proper)
