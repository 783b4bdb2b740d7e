-- A pass, put together from its parts.
use Rattle.std.proofs.Common.{◌≡◌, ℕ, List, ◌++◌, length, take, drop, ℤ, Some, None, Ok, Err, Option, sym, refl, ap, ◌∙◌, subst, arith}
use Rattle.std.proofs.lemmas.List.{take_at, drop_at}
use Rattle.answer.specs.declared.Answer.{Answer}
use Rattle.answer.specs.declared.Ending.{Ending}
use Rattle.answer.specs.declared.Refusal.{Refusal}
use Rattle.board.specs.Meaning.{Means}
use Rattle.machine.specs.declared.Allowance.{Allowance}
use Rattle.machine.specs.Execute.{passes, starting, Ran}
use Rattle.agreement.specs.Agreement.{stack_words, marked}
use Rattle.history.specs.History.{kept_by}
use Rattle.station.specs.declared.held.Station.{Station}
use Rattle.station.specs.Held.{globals_of, laid, code_of, marks_of, Kept}
use Rattle.station.specs.Passed.{setup_of, start_of, Passed}

-- the refusal that a check hands up is the one that is due
pub due_of : (o : Option Refusal) (why : Refusal) → Err why ≡ passes o → o ≡ Some why
due_of None why e = let z : ◌≡◌ {A = ℕ} 0 1 = cc in absurd (omega arith)
due_of (Some x) why e = cc

pub none_due : (o : Option Refusal) → Ok tt ≡ passes o → o ≡ None
none_due None e = refl
none_due (Some x) e = let z : ◌≡◌ {A = ℕ} 0 1 = cc in absurd (omega arith)

pub assembled : (s s' : Station) (allowed : Allowance) (stack part : List ℤ) (board board' : Means) (ended a : Answer) (code gs : List ℤ) (marks : List ℕ) (room : ℕ)
    → code ≡ code_of s → gs ≡ globals_of s.globals → room ≡ stack_words allowed.depth → length part ≡ room
    → Ran (record { code = code; deepest = allowed.depth }) (starting (laid gs (take room stack)) (length gs) board allowed.turns) ended part board'
    → marks ≡ marks_of s' → a ≡ marked marks ended → Kept s s'
    → globals_of s'.globals ≡ kept_by ended.ending (take (length (globals_of s.globals)) (part ++ drop room stack)) (globals_of s.globals)
    → Passed s s' allowed stack (part ++ drop room stack) board board' a
assembled s s' allowed stack part board board' ended a code gs marks room is_code is-gs is-room long ran is-marks told kept globals =
    let depth-room : stack_words allowed.depth ≡ room = sym is-room in
    let same : marks_of s' ≡ marks_of s = cc (kept.marks, kept.start) in
    record {
      by_position = ended;
      ran =
          subst (λ (ws : List ℤ). Ran (setup_of s allowed) (start_of s allowed stack board) ended ws board')
          (sym (take_at part (drop room stack) (stack_words allowed.depth) (omega arith)))
          (subst (λ (n : ℕ). Ran (setup_of s allowed) (starting (laid (globals_of s.globals) (take n stack)) (length (globals_of s.globals)) board allowed.turns) ended part board') is-room
          (subst (λ (xs : List ℤ). Ran (setup_of s allowed) (starting (laid xs (take room stack)) (length xs) board allowed.turns) ended part board') is-gs
          (subst (λ (ws : List ℤ). Ran (record { code = ws; deepest = allowed.depth }) (starting (laid gs (take room stack)) (length gs) board allowed.turns) ended part board') is_code ran)));
      told = told ∙ ap (λ (ms : List ℕ). marked ms ended) (is-marks ∙ same);
      beyond = drop_at part (drop room stack) (stack_words allowed.depth) (omega arith) ∙ ap (λ (n : ℕ). drop n stack) is-room;
      kept = kept;
      globals = globals ∙ ap (λ (e : Ending). kept_by e (take (length (globals_of s.globals)) (part ++ drop room stack)) (globals_of s.globals)) (sym (ap (λ (x : Answer). x.ending) told));
    }
