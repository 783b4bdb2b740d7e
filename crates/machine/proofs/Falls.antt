-- A step that goes on lowers a weight, so that every run ends: turns count most, then depth, then the code that is left.
use Rattle.std.proofs.Common.{◌≡◌, ℕ, suc, ◌+◌, ◌-◌, ◌*◌, ◌<◌, ◌≤◌, Bool, true, false, cond, not, eqb, ltb, length, get_or, ℤ, pos, negsuc, ◌+ℤ◌, nat_abs, Some, None, Option, sym, refl, subst, mul-le-mul_right, add-mul, one-mul, arith, ltb-true, leb-false}
use borrow.Author.Tests.{eqb-false, clash}
use lib.Signed.{le_z}
use Rattle.answer.specs.declared.Ending.{Ending}
use Rattle.answer.specs.declared.Ending.TheVariants.{OutsideCode, NegativeCount, TooFewWords}
use Rattle.board.specs.Meaning.{has_room}
use Rattle.rules.specs.declared.Registers.{Registers}
use Rattle.rules.specs.declared.View.{View}
use Rattle.rules.specs.declared.Instruction.{Instruction}
use Rattle.rules.specs.declared.Instruction.TheVariants.{Csti, Add, Sub, Mul, Div, Mod, Eq, Lt, Not, Dup, Swap, Ldi, Sti, GetBp, GetSp, IncSp, Goto, IfZero, IfNzro, Call, Tcall, Ret, Printi, LdArgs, Stop}
use Rattle.rules.specs.Rules.{decode, among, is_zero, starved, jumps, Rule, rule, judged, room}
use Rattle.effects.specs.Effects.{State, Next, goes, halts, effect, unless, branched}
use Rattle.machine.specs.Machine.{Setup, view, acted, step}
use Rattle.machine.proofs.Steps.{passed, firsts}

-- how many of n words are left from a position
abbrev ahead : ℕ → ℤ → ℕ
ahead n (pos k) = n - k
ahead n (negsuc k) = 0

abbrev weigh : ℕ → ℕ → ℕ → ℤ → ℕ
weigh n turns depth p = (2 * turns + depth) * suc n + ahead n p

-- the weight of the registers, in code of n words
abbrev pub weight : ℕ → Registers → ℕ
weight n r = weigh n r.turns r.depth r.position

ahead_most : (n : ℕ) (p : ℤ) → ahead n p ≤ n
ahead_most n (pos k) = omega arith
ahead_most n (negsuc k) = omega arith

-- one more of what counts outweighs all of the code
outweighs : (x y m : ℕ) → x < y → x * m + m ≤ y * m
outweighs x y m h =
    let k : (x + 1) * m ≤ y * m = mul-le-mul_right m (omega arith) in
    let d = add-mul x 1 m in
    let o = one-mul m in
    omega arith

lower_past : (n t d o : ℕ) (p : ℤ) → among p n ≡ true → weigh n t d (p +ℤ pos (o + 1)) < weigh n t d p
lower_past n t d o (pos k) h = let j = ltb-true k n h in omega arith
lower_past n t d o (negsuc k) h = absurd (clash h)

lower_turn : (n t d e : ℕ) (p q : ℤ) → e ≤ d + 1 → eqb t 0 ≡ false → weigh n (t - 1) e q < weigh n t d p
lower_turn n t d e p q l h =
    let k = eqb-false t 0 h in
    let x = ahead_most n q in
    let y : 0 < t = omega arith in
    let w = outweighs (2 * (t - 1) + e) (2 * t + d) (suc n) (omega arith) in
    omega arith

lower_return : (n t d : ℕ) (p q : ℤ) → eqb d 0 ≡ false → weigh n t (d - 1) q < weigh n t d p
lower_return n t d p q h =
    let k = eqb-false d 0 h in
    let x = ahead_most n q in
    let y : 0 < d = omega arith in
    let w = outweighs (2 * t + (d - 1)) (2 * t + d) (suc n) (omega arith) in
    omega arith

lower_jump : (n : ℕ) (b : Bool) (t d : ℕ) (p q : ℤ) → among p n ≡ true → le_z q p ≡ b → cond b (eqb t 0) false ≡ false → weigh n (cond b (t - 1) t) d q < weigh n t d p
lower_jump n true t d p q u e h = lower_turn n t d d p q (omega arith) h
lower_jump n false t d (negsuc k) q u e h = absurd (clash u)
lower_jump n false t d (pos k) (negsuc m) u e h = absurd (clash (sym e))
lower_jump n false t d (pos k) (pos m) u e h = let i = ltb-true k n u in let j = leb-false m k e in omega arith

module _ (n : ℕ) (v : View) (u : among v.registers.position n ≡ true) where
  on : (o : ℕ) → weigh n v.registers.turns v.registers.depth (v.registers.position +ℤ pos (o + 1)) < weight n v.registers
  on o = lower_past n v.registers.turns v.registers.depth o v.registers.position u

  jump : jumps v ≡ None → weigh n (cond (le_z v.x v.registers.position) (v.registers.turns - 1) v.registers.turns) v.registers.depth v.x < weight n v.registers
  jump e =
      lower_jump n (le_z v.x v.registers.position) v.registers.turns v.registers.depth v.registers.position v.x u refl (passed (starved v) _ _ e).0

  branch : (b : Bool) → cond b (jumps v) None ≡ None → weight n (branched v.registers v.x b) < weight n v.registers
  branch true e = jump e
  branch false e = on 1

  branch_not : (b : Bool) → cond b None (jumps v) ≡ None → weight n (branched v.registers v.x (not b)) < weight n v.registers
  branch_not true e = on 1
  branch_not false e = jump e

  effect_lower : (o : Instruction) (s : State) → (rule o v).own ≡ None → weight n (effect o v s).registers < weight n v.registers
  effect_lower Csti s e = on 1
  effect_lower Add s e = on 0
  effect_lower Sub s e = on 0
  effect_lower Mul s e = on 0
  effect_lower Div s e = on 0
  effect_lower Mod s e = on 0
  effect_lower Eq s e = on 0
  effect_lower Lt s e = on 0
  effect_lower Not s e = on 0
  effect_lower Dup s e = on 0
  effect_lower Swap s e = on 0
  effect_lower Ldi s e = on 0
  effect_lower Sti s e = on 0
  effect_lower GetBp s e = on 0
  effect_lower GetSp s e = on 0
  effect_lower IncSp s e = on 1
  effect_lower Goto s e = jump e
  effect_lower IfZero s e = branch (is_zero v.top) e
  effect_lower IfNzro s e = branch_not (is_zero v.top) e
  effect_lower Call s e = lower_turn n v.registers.turns v.registers.depth (v.registers.depth + 1) v.registers.position v.y (omega arith) (passed _ _ _ e).0
  effect_lower Tcall s e = lower_turn n v.registers.turns v.registers.depth v.registers.depth v.registers.position v.z (omega arith) (passed _ _ _ e).0
  effect_lower Ret s e = lower_return n v.registers.turns v.registers.depth v.registers.position _ (passed _ _ _ e).0
  effect_lower Printi s e = on 0
  effect_lower LdArgs s e = on 0
  effect_lower Stop s e = let z : ◌≡◌ {A = ℕ} 0 1 = cc in absurd (omega arith)

own_of : (k : Rule) (v : View) (page : Bool) → judged k v page ≡ None → k.own ≡ None
own_of k v page e =
    let a = passed (ltb v.left k.operands) OutsideCode _ e in
    let b = passed k.negative NegativeCount _ a.1 in
    let d = passed (ltb v.used k.takes) TooFewWords _ b.1 in
    (firsts k.own (room k.puts v page) d.1).0

unless-goes : (j : Option Ending) (x s : State) → unless j x ≡ goes s → (j ≡ None) × (x ≡ s)
unless-goes None x s e = (refl, cc)
unless-goes (Some c) x s e = let z : ◌≡◌ {A = ℕ} 0 1 = cc in absurd (omega arith)

acted_lower : (n : ℕ) (d : Option Instruction) (v : View) (s s' : State) → among v.registers.position n ≡ true → acted d v s ≡ goes s' → weight n s'.registers < weight n v.registers
acted_lower n None v s s' u e = let z : ◌≡◌ {A = ℕ} 0 1 = cc in absurd (omega arith)
acted_lower n (Some o) v s s' u e =
    let q = unless-goes (judged (rule o v) v (has_room s.board)) (effect o v s) s' e in
    subst (λ (y : State). weight n y.registers < weight n v.registers) q.1 (effect_lower n v u o s (own_of (rule o v) v (has_room s.board) q.0))

both : (b : Bool) (c : Ending) (r : Next) (s : State) → cond b r (halts c) ≡ goes s → (b ≡ true) × (r ≡ goes s)
both true c r s e = (refl, e)
both false c r s e = let z : ◌≡◌ {A = ℕ} 0 1 = cc in absurd (omega arith)

pub falls : (t : Setup) (s s' : State) → step t s ≡ goes s' → weight (length t.code) s'.registers < weight (length t.code) s.registers
unfolding step
falls t s s' e =
    let q = both _ _ _ s' e in
    acted_lower (length t.code) (decode (get_or t.code (nat_abs s.registers.position) (pos 0))) (view t s) s s' q.0 q.1
