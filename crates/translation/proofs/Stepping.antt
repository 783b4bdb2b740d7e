-- One step of the machine at an item of symbolic code: what the instruction there sees, and what follows where it may go and where it may not.
use Rattle.std.proofs.Common.{◌≡◌, ℕ, suc, ◌+◌, ◌-◌, ◌<◌, ◌≤◌, Bool, true, false, cond, eqb, List, [], ◌∷◌, length, get_or, set, ℤ, pos, Some, None, Option, unwrap_or, sym, refl, ap, ◌∙◌, subst, arith, le-ltb, lt-ltb, eq-eqb}
use borrow.Author.Tests.{clash}
use Rattle.std.proofs.lemmas.Option.{slice_get-get_or}
use Rattle.answer.specs.Numbers.{no_place, ending_number}
use Rattle.answer.specs.declared.Ending.{Ending}
use Rattle.answer.specs.declared.Ending.TheVariants.{Finished, OutsideCode}
use Rattle.stack.specs.Entries.{top_of}
use Rattle.board.specs.Meaning.{Means, has_room}
use Rattle.rules.specs.declared.View.{View}
use Rattle.rules.specs.declared.Instruction.{Instruction}
use Rattle.rules.specs.Rules.{decode, rule, judged, Rule, words, room, first}
use Rattle.effects.specs.Effects.{State, goes, halts, state, effect, unless, topped, past}
use Rattle.machine.specs.Machine.{here, later, step, view, acted, from_top}
use Rattle.meaning.specs.Meaning.{showing}
use Rattle.scheme.specs.Code.{Code, Item, size, width}
use Rattle.scheme.specs.Written.{code_words, loop_end, entry_end, mark_of, whole_words}
use Rattle.symbolic.specs.Symbolic.{Rest, Finish, finished, failed, Suffix, more, EndsIn}
use Rattle.translation.specs.Translated.{Holds, setup_of, registers_at, state_at, Left, Does}
use Rattle.translation.proofs.Memory.{Kept, kept_set, holds_top, holds_under, holds_push}
use Rattle.scheme.proofs.Scope.{suffix_tail}
use Rattle.scheme.proofs.Lengths.{words_length}
use Rattle.translation.proofs.Positions.{word_at, mark_at}

-- the tests of an instruction, where all but the last pass; and where its own ends the run
passed : (b : Bool) (c : Ending) (r q : Option Ending) → b ≡ false → r ≡ q → cond b (Some c) r ≡ q
passed true c r q e h = absurd (clash (sym e))
passed false c r q e h = h

pub passes : (k : Rule) (v : View) (page : Bool) (r : Option Ending) → k.operands ≤ v.left → k.negative ≡ false → k.takes ≤ v.used
    → first k.own (room k.puts v page) ≡ r → judged k v page ≡ r
passes k v page r o n t h =
    passed _ _ _ r (le-ltb v.left k.operands o) (passed _ _ _ r n (passed _ _ _ r (le-ltb v.used k.takes t) h))

pub roomy : (g : ℕ) (v : View) (page : Bool) → g ≤ v.capacity - v.used → room (words g) v page ≡ None
roomy g v page h = passed _ _ None None (le-ltb (v.capacity - v.used) g h) refl

-- the top word and the one below it, 0 where there is none
abbrev pub topmost : List ℤ → ℤ
topmost [] = pos 0
topmost (x ∷ S) = x

abbrev pub second : List ℤ → ℤ
second [] = pos 0
second (y ∷ S) = topmost S

top_is : (ws S : List ℤ) → Holds ws S → from_top ws (length S) 1 ≡ topmost S
top_is ws [] h = ap (λ (b : Bool). cond b (pos 0) (get_or ws (0 - 1) (pos 0))) (lt-ltb 0 1 (omega arith))
top_is ws (x ∷ S) h =
    let z : suc (length S) - 1 ≡ length S = omega arith in
    ap (λ (b : Bool). cond b (pos 0) (get_or ws (suc (length S) - 1) (pos 0))) (le-ltb (suc (length S)) 1 (omega arith))
    ∙ (ap (λ (n : ℕ). get_or ws n (pos 0)) z ∙ holds_top ws x S h)

second_is : (ws S : List ℤ) → Holds ws S → from_top ws (length S) 2 ≡ second S
second_is ws [] h = ap (λ (b : Bool). cond b (pos 0) (get_or ws (0 - 2) (pos 0))) (lt-ltb 0 2 (omega arith))
second_is ws (y ∷ []) h = ap (λ (b : Bool). cond b (pos 0) (get_or ws (1 - 2) (pos 0))) (lt-ltb 1 2 (omega arith))
second_is ws (y ∷ x ∷ S) h =
    let z : suc (suc (length S)) - 2 ≡ length S = omega arith in
    ap (λ (b : Bool). cond b (pos 0) (get_or ws (suc (suc (length S)) - 2) (pos 0))) (le-ltb (suc (suc (length S))) 2 (omega arith))
    ∙ (ap (λ (n : ℕ). get_or ws n (pos 0)) z ∙ holds_top ws x S (holds_under ws y (x ∷ S) h))

-- whether the page takes one more reading
abbrev pub page : Means → Rest → Bool
page board ρ = has_room (showing board ρ.out)

module _ (P : Code) (cap limit : ℕ) (board : Means) where
  -- words of an end of P
  abbrev pub words_of : Code → List ℤ
  words_of C = code_words (loop_end P) (entry_end P) (size P) C

  -- the ends of P to which calls return
  abbrev pub Backs : List Code → Type 0
  Backs [] = Unit {0}
  Backs (C ∷ K) = Suffix C P × Backs K

  -- the machine stands at position p, where P goes on with C, and its memory holds the words S
  pub record At (C : Code) (ws : List ℤ) (p : ℕ) (S : List ℤ) (ρ : Rest) : Type 0 where
    pub stands : Suffix C P
    pub place : p + size C ≡ size P
    pub backs : Backs ρ.back
    pub holds : Holds ws S
    pub low : length S ≤ cap
    pub high : cap ≤ length ws

  -- what is shown of code that ends within k steps
  abbrev pub Done : ℕ → Type 0
  Done k =
      (C : Code) (ws : List ℤ) (p : ℕ) (S : List ℤ) (ρ : Rest) (o : Finish) → EndsIn P cap limit board k C S ρ o → At C ws p S ρ
      → Does P cap limit board (state_at board ws p S ρ) o

  -- what the instruction at the front of C sees
  abbrev pub seen : Code → List ℤ → ℕ → List ℤ → Rest → View
  seen C ws p S ρ = record {
    left = size P - p - 1;
    x = get_or (words_of C) 1 (pos 0);
    y = get_or (words_of C) 2 (pos 0);
    z = get_or (words_of C) 3 (pos 0);
    used = length S;
    capacity = length ws;
    top = topmost S;
    second = second S;
    inputs = length board.inputs;
    deepest = limit;
    registers = registers_at p ρ;
  }

  view_at : (C : Code) (ws : List ℤ) (p : ℕ) (S : List ℤ) (ρ : Rest) → At C ws p S ρ → view (setup_of P limit) (state_at board ws p S ρ) ≡ seen C ws p S ρ
  view_at C ws p S ρ a =
      let l = words_length (loop_end P) (entry_end P) (size P) P in
      let w : (k : ℕ) → get_or (whole_words P) (p + k) (pos 0) ≡ get_or (words_of C) k (pos 0) = λ k. word_at (loop_end P) (entry_end P) (size P) p k a.stands a.place in
      let x = w 1 in
      let y = w 2 in
      let z = w 3 in
      let t = top_is ws S a.holds in
      let u = second_is ws S a.holds in
      λ j. record {
        left = l j - p - 1;
        x = x j;
        y = y j;
        z = z j;
        used = length S;
        capacity = length ws;
        top = t j;
        second = u j;
        inputs = length board.inputs;
        deepest = limit;
        registers = registers_at p ρ;
      }

  step_at : (C : Code) (ws : List ℤ) (p : ℕ) (S : List ℤ) (ρ : Rest) → At C ws p S ρ → 0 < size C
      → step (setup_of P limit) (state_at board ws p S ρ) ≡ acted (decode (get_or (words_of C) 0 (pos 0))) (seen C ws p S ρ) (state_at board ws p S ρ)
  unfolding step
  step_at C ws p S ρ a w =
      let l = words_length (loop_end P) (entry_end P) (size P) P in
      let e = a.place in
      let z : p ≡ p + 0 = omega arith in
      let q = state_at board ws p S ρ in
      ap (λ (b : Bool). cond b (acted (decode (get_or (whole_words P) p (pos 0))) (view (setup_of P limit) q) q) (halts OutsideCode)) (lt-ltb p (length (whole_words P)) (omega arith))
      ∙ (ap (λ (x : ℤ). acted (decode x) (view (setup_of P limit) q) q) (ap (λ (n : ℕ). get_or (whole_words P) n (pos 0)) z ∙ word_at (loop_end P) (entry_end P) (size P) p 0 a.stands e)
      ∙ ap (λ (v : View). acted (decode (get_or (words_of C) 0 (pos 0))) v q) (view_at C ws p S ρ a))

  -- what a run left is so too for one that came to its start and kept the words from `cap` on
  left_from : (ws us : List ℤ) {e : Ending} {m : ℕ} {x : ℤ} {l d : ℕ} {out : List ℤ} {f : State} → Kept cap ws us
      → Left P cap board us e m x l d out f → Left P cap board ws e m x l d out f
  left_from ws us k h =
      record { place = h.place; value = h.value; turns = h.turns; deepest = h.deepest; board_left = h.board_left; room = h.room ∙ k.0; beyond = h.beyond ∙ k.1 }

  -- a step, and what follows it
  onward : (o : Finish) (s u : State) → step (setup_of P limit) s ≡ goes u → Kept cap s.words u.words → Does P cap limit board u o → Does P cap limit board s o
  onward (finished v left deep out T) s u e k (f, d, l, n, r, h) = (f, later e d, left_from s.words u.words k l, n, r, h)
  onward (failed c m left deep out) s u e k (f, d, l) = (f, later e d, left_from s.words u.words k l)

  module _ (i : Item) (C : Code) (ws : List ℤ) (p : ℕ) (S : List ℤ) (ρ : Rest) (a : At (i ∷ C) ws p S ρ) (w : 0 < width i) where
    abbrev v : View
    v = seen (i ∷ C) ws p S ρ

    abbrev s : State
    s = state_at board ws p S ρ

    acts : (k : Instruction) (j : Option Ending) → decode (get_or (words_of (i ∷ C)) 0 (pos 0)) ≡ Some k → judged (rule k v) v (page board ρ) ≡ j
        → step (setup_of P limit) s ≡ unless j (effect k v s)
    acts k j d h =
        step_at (i ∷ C) ws p S ρ a (omega arith)
        ∙ (ap (λ (x : Option Instruction). acted x v s) d ∙ ap (λ (x : Option Ending). unless x (effect k v s)) h)

    -- an instruction that may go
    pub goes_on : (k : Instruction) (o : Finish) (us : List ℤ) (q : ℕ) (T : List ℤ) (σ : Rest) → decode (get_or (words_of (i ∷ C)) 0 (pos 0)) ≡ Some k
        → judged (rule k v) v (page board ρ) ≡ None → effect k v s ≡ state_at board us q T σ → Kept cap ws us
        → Does P cap limit board (state_at board us q T σ) o → Does P cap limit board s o
    goes_on k o us q T σ d h f m r = onward o s (state_at board us q T σ) (acts k None d h ∙ ap goes f) m r

    -- an instruction that ends the run
    pub ends_at : (k : Instruction) (c : Ending) (o : Finish) (m : ℕ) → decode (get_or (words_of (i ∷ C)) 0 (pos 0)) ≡ Some k
        → judged (rule k v) v (page board ρ) ≡ Some c → eqb (ending_number c) 0 ≡ false → mark_of i ≡ m
        → o ≡ failed c m ρ.left ρ.deep ρ.out → Does P cap limit board s o
    ends_at k c o m d h n f e =
        let z = a.place in
        subst (λ (x : Finish). Does P cap limit board s x) (sym e) (
          s,
          here (acts k (Some c) d h),
          record {
            place = (p, omega arith, refl, mark_at i C P p a.stands a.place w ∙ f);
            value = ap (λ (b : Bool). cond b (unwrap_or (top_of ws (length S)) (pos 0)) (pos 0)) n;
            turns = refl;
            deepest = refl;
            board_left = refl;
            room = refl;
            beyond = refl;
          },
        )

    -- one that finishes it, with the word x on T
    pub finishes : (k : Instruction) (o : Finish) (x : ℤ) (T : List ℤ) → decode (get_or (words_of (i ∷ C)) 0 (pos 0)) ≡ Some k
        → judged (rule k v) v (page board ρ) ≡ Some Finished → mark_of i ≡ no_place → S ≡ x ∷ T
        → o ≡ finished x ρ.left ρ.deep ρ.out T → Does P cap limit board s o
    finishes k o x T d h f e g =
        let z = a.place in
        let l = a.low in
        let y = a.high in
        let q = ap length e in
        let n : length T < length ws = omega arith in
        let b : Holds ws (x ∷ T) = subst (λ (U : List ℤ). Holds ws U) e a.holds in
        subst (λ (r : Finish). Does P cap limit board s r) (sym g) (
          s,
          here (acts k (Some Finished) d h),
          record {
            place = (p, omega arith, refl, mark_at i C P p a.stands a.place w ∙ f);
            value =
                ap (λ (c : Bool). cond c (unwrap_or (top_of ws (length S)) (pos 0)) (pos 0)) (eq-eqb 0 0 refl)
                ∙ (ap (λ (c : ℕ). unwrap_or (top_of ws c) (pos 0)) q
                ∙ (ap (λ (c : Option ℤ). unwrap_or c (pos 0)) (slice_get-get_or ws (length T) (pos 0) n) ∙ holds_top ws x T b));
            turns = refl;
            deepest = refl;
            board_left = refl;
            room = refl;
            beyond = refl;
          },
          q,
          n,
          b,
        )

    -- the end of the code that follows, in another memory
    pub next : (us : List ℤ) (T : List ℤ) (σ : Rest) → Backs σ.back → Holds us T → length T ≤ cap → length us ≡ length ws → At C us (p + width i) T σ
    next us T σ b h l e =
        let z = a.place in
        let y = a.high in
        record { stands = suffix_tail a.stands; place = omega arith; backs = b; holds = h; low = l; high = omega arith }

    -- an instruction that leaves the word x on T, with n operands
    pub tops : (k : Instruction) (o : Finish) (n t : ℕ) (x : ℤ) (T : List ℤ) → decode (get_or (words_of (i ∷ C)) 0 (pos 0)) ≡ Some k
        → judged (rule k v) v (page board ρ) ≡ None → effect k v s ≡ topped s t x (past (registers_at p ρ) n)
        → width i ≡ n + 1 → t ≡ length T → length T < cap → Holds ws T
        → (At C (set ws t x) (p + width i) (x ∷ T) ρ → Does P cap limit board (state_at board (set ws t x) (p + width i) (x ∷ T) ρ) o)
        → Does P cap limit board s o
    tops k o n t x T d h f e u l g r =
        let y = a.high in
        let len = kept_set cap ws t x (omega arith) in
        let used : t + 1 ≡ suc (length T) = omega arith in
        let place : p + (n + 1) ≡ p + width i = omega arith in
        goes_on k o (set ws t x) (p + width i) (x ∷ T) ρ d h
        (f ∙ (λ j. state (set ws t x) (used j) (showing board ρ.out) (record { position = pos (place j); base = pos ρ.base; turns = ρ.left; depth = ρ.depth; deepest = ρ.deep })))
        len
        (r (next (set ws t x) (x ∷ T) ρ a.backs (holds_push ws T t x u (omega arith) g) (omega arith) len.0))
