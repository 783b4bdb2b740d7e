-- From the decision on a number, and what was then performed, to the step of the definition.
use Rattle.std.proofs.Common.{◌≡◌, ℕ, ◌≤◌, Bool, true, false, cond, ltb, length, get_or, ℤ, pos, negsuc, nat_abs, ◌≤ℤ◌, ◌<ℤ◌, Some, None, Ok, Err, Option, Result, sym, refl, ap, ◌∙◌, subst, arith, ltb-false, ltb-true, le-ltb}
use borrow.Author.Tests.{clash}
use Rattle.std.proofs.lemmas.Int.{ints}
use Rattle.answer.specs.declared.Ending.{Ending}
use Rattle.answer.specs.declared.Ending.TheVariants.{OutsideCode, NegativeCount, TooFewWords}
use Rattle.board.specs.Meaning.{has_room}
use Rattle.rules.specs.declared.Registers.{Registers}
use Rattle.rules.specs.declared.View.{View}
use Rattle.rules.specs.declared.Instruction.{Instruction}
use Rattle.rules.specs.Limits.{code_limit}
use Rattle.rules.specs.Rules.{Puts, words, reading, Rule, rule, first, room, judged, verdict, decided, decode, Fits, Ready, among}
use Rattle.effects.specs.Effects.{State, Next, halts, effect, unless, late, performed, Tells}
use Rattle.effects.specs.Seen.{InCode}
use Rattle.machine.specs.Machine.{Setup, view, acted, step}

no_ending : {A : Type 0} {c : Ending} → Some c ≡ None → A
no_ending e = let z : ◌≡◌ {A = ℕ} 0 1 = cc in absurd (omega arith)

pub passed : (b : Bool) (c : Ending) (r : Option Ending) → cond b (Some c) r ≡ None → (b ≡ false) × (r ≡ None)
passed true c r e = no_ending e
passed false c r e = (refl, e)

pub firsts : (a b : Option Ending) → first a b ≡ None → (a ≡ None) × (b ≡ None)
firsts None b e = (refl, e)
firsts (Some c) b e = no_ending e

-- an instruction that passes its tests is ready
fits_of : (p : Puts) (v : View) → room p v true ≡ None → Fits p v
fits_of (words g) v e = ltb-false _ g (passed _ _ _ e).0
fits_of reading v e = tt

ready_of : (k : Rule) (v : View) → judged k v true ≡ None → Ready k v
ready_of k v e =
    let a = passed _ _ _ e in
    let b = passed _ _ _ a.1 in
    let d = passed _ _ _ b.1 in
    let q = firsts _ _ d.1 in
    record { operands = ltb-false v.left k.operands a.0; negative = b.0; takes = ltb-false v.used k.takes d.0; own = q.0; fits = fits_of k.puts v q.1 }

-- for a ready instruction only the page is left to ask
skip : (b : Bool) (c : Ending) (r q : Option Ending) → b ≡ false → r ≡ q → cond b (Some c) r ≡ q
skip true c r q e p = let z : ◌≡◌ {A = ℕ} 0 1 = cc in absurd (omega arith)
skip false c r q e p = p

own_none : (a b q : Option Ending) → a ≡ None → b ≡ q → first a b ≡ q
own_none None b q e p = p
own_none (Some c) b q e p = no_ending e

room-late : (p : Puts) (v : View) (page : Bool) → Fits p v → room p v page ≡ late p page
room-late (words g) v page h = skip _ _ None None (le-ltb _ g h) refl
room-late reading v page h = refl

judged-late : (k : Rule) (v : View) (page : Bool) → Ready k v → judged k v page ≡ late k.puts page
judged-late k v page h =
    skip _ _ _ _ (le-ltb v.left k.operands h.operands)
    (skip _ _ _ _ h.negative
    (skip _ _ _ _ (le-ltb v.used k.takes h.takes)
    (own_none k.own _ _ h.own (room-late k.puts v page h.fits))))

-- an ending that is found before the page is asked stays the same
still : (b : Bool) (d c : Ending) (r q : Option Ending) → (r ≡ Some c → q ≡ Some c) → cond b (Some d) r ≡ Some c → cond b (Some d) q ≡ Some c
still true d c r q h e = e
still false d c r q h e = h e

still_first : (a : Option Ending) (c : Ending) (r q : Option Ending) → (r ≡ Some c → q ≡ Some c) → first a r ≡ Some c → first a q ≡ Some c
still_first None c r q h e = h e
still_first (Some d) c r q h e = e

still_room : (p : Puts) (v : View) (page : Bool) (c : Ending) → room p v true ≡ Some c → room p v page ≡ Some c
still_room (words g) v page c e = e
still_room reading v page c e = no_ending (sym e)

judged_still : (k : Rule) (v : View) (page : Bool) (c : Ending) → judged k v true ≡ Some c → judged k v page ≡ Some c
judged_still k v page c e =
    still (ltb v.left k.operands) OutsideCode c _ _
    (still k.negative NegativeCount c _ _
    (still (ltb v.used k.takes) TooFewWords c _ _
    (still_first k.own c _ _ (still_room k.puts v page c)))) e

verdict_ok : (p o : Instruction) (j : Option Ending) → Ok o ≡ verdict p j → (j ≡ None) × (p ≡ o)
verdict_ok p o None e = (refl, cc)
verdict_ok p o (Some c) e = let z : ◌≡◌ {A = ℕ} 0 1 = cc in absurd (omega arith)

verdict_err : (p : Instruction) (c : Ending) (j : Option Ending) → Err c ≡ verdict p j → j ≡ Some c
verdict_err p c None e = let z : ◌≡◌ {A = ℕ} 0 1 = cc in absurd (omega arith)
verdict_err p c (Some d) e = cc

decided_ok : (d : Option Instruction) (v : View) (o : Instruction) → Ok o ≡ decided d v → (d ≡ Some o) × (judged (rule o v) v true ≡ None)
decided_ok None v o e = let z : ◌≡◌ {A = ℕ} 0 1 = cc in absurd (omega arith)
decided_ok (Some p) v o e =
    let q = verdict_ok p o (judged (rule p v) v true) e in
    (ap Some q.1, subst (λ (i : Instruction). judged (rule i v) v true ≡ None) q.1 q.0)

pub may_go : (d : Option Instruction) (v : View) (o : Instruction) → Ok o ≡ decided d v → Ready (rule o v) v
may_go d v o e = ready_of (rule o v) v (decided_ok d v o e).1

acted_ok : (d : Option Instruction) (o : Instruction) (v : View) (s : State) → Ok o ≡ decided d v → acted d v s ≡ performed o v s
acted_ok d o v s e =
    let q = decided_ok d v o e in
    ap (λ (x : Option Instruction). acted x v s) q.0
    ∙ ap (λ (j : Option Ending). unless j (effect o v s)) (judged-late (rule o v) v (has_room s.board) (ready_of (rule o v) v q.1))

acted_err : (d : Option Instruction) (c : Ending) (v : View) (s : State) → Err c ≡ decided d v → acted d v s ≡ halts c
acted_err None c v s e = cc
acted_err (Some p) c v s e =
    ap (λ (j : Option Ending). unless j (effect p v s)) (judged_still (rule p v) v (has_room s.board) c (verdict_err p c (judged (rule p v) v true) e))

inside : (t : Setup) (s : State) (number : ℤ) → among s.registers.position (length t.code) ≡ true → number ≡ get_or t.code (nat_abs s.registers.position) (pos 0)
    → step t s ≡ acted (decode number) (view t s) s
unfolding step
inside t s number u p =
    ap (λ (b : Bool). cond b (acted (decode (get_or t.code (nat_abs s.registers.position) (pos 0))) (view t s) s) (halts OutsideCode)) u
    ∙ ap (λ (x : ℤ). acted (decode x) (view t s) s) (sym p)

-- the state that a view's registers and a state's words, number in use and board make
abbrev seen_by : View → State → State
seen_by v s = record { words = s.words; used = s.used; board = s.board; registers = v.registers }

module _ (t : Setup) (s : State) (number : ℤ) (u : among s.registers.position (length t.code) ≡ true) (p : number ≡ get_or t.code (nat_abs s.registers.position) (pos 0)) where
  step_at : (o : Instruction) (res : Result Registers Ending) (left : Registers → State) → Ok o ≡ decided (decode number) (view t s)
      → Tells (performed o (view t s) s) res s left → Tells (step t s) res s left
  step_at o res left d h =
      subst (λ (n : Next). Tells n res s left) (sym (inside t s number u p ∙ acted_ok (decode number) o (view t s) s d)) h

  pub step_ok : (v : View) → v ≡ view t s → (o : Instruction) (res : Result Registers Ending) (left : Registers → State) → Ok o ≡ decided (decode number) v
      → Tells (performed o v (seen_by v s)) res (seen_by v s) left → Tells (step t s) res s left
  step_ok v q o res left =
      subst (λ (w : View). Ok o ≡ decided (decode number) w → Tells (performed o w (seen_by w s)) res (seen_by w s) left → Tells (step t s) res s left)
      (sym q) (step_at o res left)

  pub step_err : (v : View) → v ≡ view t s → (c : Ending) → Err c ≡ decided (decode number) v → step t s ≡ halts c
  step_err v q c d = inside t s number u p ∙ acted_err (decode number) c (view t s) s (d ∙ ap (λ (w : View). decided (decode number) w) q)

pub step_out : (t : Setup) (s : State) → among s.registers.position (length t.code) ≡ false → step t s ≡ halts OutsideCode
unfolding step
step_out t s u = ap (λ (b : Bool). cond b (acted (decode (get_or t.code (nat_abs s.registers.position) (pos 0))) (view t s) s) (halts OutsideCode)) u

pub within_code : (a : ℤ) (n : ℕ) → n ≤ code_limit → among a n ≡ true → (pos 0 ≤ℤ a) × (a <ℤ pos code_limit)
within_code (pos k) n h e = let j = ltb-true k n e in (omega (arith, ints), omega (arith, ints))
within_code (negsuc k) n h e = absurd (clash e)

pub ranged : (r : Registers) (n : ℕ) → n ≤ code_limit → among r.position n ≡ true → InCode r
ranged r n h e = record { low = (within_code r.position n h e).0; high = (within_code r.position n h e).1 }
