-- Symbolic code that ends within some steps: the machine on its words ends so too.
use Rattle.std.proofs.Common.{◌≡◌, ℕ, zero, suc, ◌+◌, ◌-◌, ◌<◌, ◌≤◌, List, [], ◌∷◌, length, ℤ, Some, None, sym, refl, subst, arith}
use lib.Seq.{paste}
use Rattle.answer.specs.declared.Ending.TheVariants.{Finished}
use Rattle.board.specs.Meaning.{Means}
use Rattle.rules.specs.declared.Instruction.TheVariants.{Csti, LdArgs, Stop}
use Rattle.rules.specs.Rules.{words}
use Rattle.rules.specs.Rules
use Rattle.effects.specs.Effects.{state}
use Rattle.meaning.specs.Meaning.{showing}
use Rattle.scheme.specs.Code.{Code, Item, width}
use Rattle.scheme.specs.Code
use Rattle.symbolic.specs.Symbolic.{Rest, Finish, EndsIn, onto}
use Rattle.translation.specs.Translated.{registers_at, state_at, Does}
use Rattle.translation.proofs.Reading.{length-onto}
use Rattle.translation.proofs.Memory.{kept_paste, holds_paste}
use Rattle.scheme.proofs.Scope.{suffix_tail}
use Rattle.translation.proofs.Sound.{Sound}
use Rattle.translation.proofs.Stepping.{page, At, Done, seen, passes, roomy, goes_on, finishes, next, tops}
use Rattle.translation.proofs.Plainly.{plains, pops}
use Rattle.translation.proofs.Jumping.{gotos, ifzeros, ifnzros}
use Rattle.translation.proofs.Calling.{calls, tcalls, rets}

module _ (P : Code) (cap limit : ℕ) (board : Means) where
  -- a label takes no step
  passing : (i : Item) (C : Code) (ws : List ℤ) (p : ℕ) (S : List ℤ) (ρ : Rest) → width i ≡ 0 → At P cap limit board (i ∷ C) ws p S ρ → At P cap limit board C ws p S ρ
  passing i C ws p S ρ w a =
      let e = a.place in
      record { stands = suffix_tail a.stands; place = omega arith; backs = a.backs; holds = a.holds; low = a.low; high = a.high }

  pushes : (k : ℕ) → Done P cap limit board k → (x : ℤ) (m : ℕ) (C : Code) (ws : List ℤ) (p : ℕ) (S : List ℤ) (ρ : Rest) (o : Finish)
      → length S < cap → EndsIn P cap limit board k C (x ∷ S) ρ o → At P cap limit board (Code.csti x m ∷ C) ws p S ρ → Does P cap limit board (state_at board ws p S ρ) o
  pushes k done x m C ws p S ρ o l q a =
      let v = seen P cap limit board (Code.csti x m ∷ C) ws p S ρ in
      let e = a.place in
      let g = a.high in
      tops P cap limit board (Code.csti x m) C ws p S ρ a (omega arith) Csti o 1 (length S) x S refl
      (passes (Rules.plain 1 0 1) v (page board ρ) None (omega arith) refl (omega arith) (roomy 1 v (page board ρ) (omega arith)))
      refl refl refl l a.holds (λ b. done C _ _ _ ρ o q b)

  -- LDARGS
  loads : (k : ℕ) → Done P cap limit board k → (C : Code) (ws : List ℤ) (p : ℕ) (S : List ℤ) (ρ : Rest) (o : Finish)
      → length S + length board.inputs ≤ cap → EndsIn P cap limit board k C (onto board.inputs S) ρ o
      → At P cap limit board (Code.ldargs ∷ C) ws p S ρ → Does P cap limit board (state_at board ws p S ρ) o
  loads k done C ws p S ρ o l q a =
      let v = seen P cap limit board (Code.ldargs ∷ C) ws p S ρ in
      let vs = board.inputs in
      let g = a.high in
      let y = length-onto vs S in
      let us = paste ws (length S) vs (length vs) in
      let kept = kept_paste cap ws (length S) vs (length vs) l g (omega arith) in
      let used : length S + length vs ≡ length (onto vs S) = omega arith in
      goes_on P cap limit board Code.ldargs C ws p S ρ a (omega arith) LdArgs o us (p + 1) (onto vs S) ρ refl
      (passes (Rules.plain 0 0 (length vs)) v (page board ρ) None (omega arith) refl (omega arith) (roomy (length vs) v (page board ρ) (omega arith)))
      (λ j. state us (used j) (showing board ρ.out) (registers_at (p + 1) ρ))
      kept
      (done C us (p + 1) (onto vs S) ρ o q
      (next P cap limit board Code.ldargs C ws p S ρ a (omega arith) us (onto vs S) ρ a.backs
      (holds_paste ws vs vs S (length S) (length vs) refl refl (omega arith) (omega arith) (λ i h. refl) a.holds) (omega arith) kept.0))

  pub running : Sound P → (k : ℕ) → Done P cap limit board k
  unfolding EndsIn
  running sound zero C ws p S ρ o h a = absurd h
  running sound (suc k) [] ws p S ρ o h a = absurd h
  running sound (suc k) (Code.csti x m ∷ C) ws p S ρ o h a = pushes k (running sound k) x m C ws p S ρ o h.0 h.1 a
  running sound (suc k) (Code.plain pl m ∷ C) ws p S ρ o h a = plains P cap limit board k (running sound k) pl m C ws p S ρ o h a
  running sound (suc k) (Code.pop m ∷ C) ws p [] ρ o h a = absurd h
  running sound (suc k) (Code.pop m ∷ C) ws p (x ∷ T) ρ o h a = pops P cap limit board k (running sound k) m C ws p x T ρ o h a
  running sound (suc k) (Code.goto t m ∷ C) ws p S ρ o h a = gotos P cap limit board k (running sound k) sound t m C ws p S ρ o h a
  running sound (suc k) (Code.ifzero t m ∷ C) ws p [] ρ o h a = absurd h
  running sound (suc k) (Code.ifzero t m ∷ C) ws p (x ∷ T) ρ o h a = ifzeros P cap limit board k (running sound k) sound t m C ws p x T ρ o h a
  running sound (suc k) (Code.ifnzro t m ∷ C) ws p [] ρ o h a = absurd h
  running sound (suc k) (Code.ifnzro t m ∷ C) ws p (x ∷ T) ρ o h a = ifnzros P cap limit board k (running sound k) sound t m C ws p x T ρ o h a
  running sound (suc k) (Code.call m f n ∷ C) ws p S ρ o h a =
      subst (λ (U : List ℤ). At P cap limit board (Code.call m f n ∷ C) ws p U ρ → Does P cap limit board (state_at board ws p U ρ) o) (sym h.2)
      (λ b. calls P cap limit board k (running sound k) sound m f n C ws p h.0 h.1 ρ o h.3 b h.4) a
  running sound (suc k) (Code.tcall m j f n ∷ C) ws p S ρ o h a =
      subst (λ (U : List ℤ). At P cap limit board (Code.tcall m j f n ∷ C) ws p U ρ → Does P cap limit board (state_at board ws p U ρ) o) (sym h.3)
      (λ b. tcalls P cap limit board k (running sound k) sound m j f n C ws p h.0 h.1 h.2 ρ o h.4 h.5 h.6 b h.7) a
  running sound (suc k) (Code.ret j m ∷ C) ws p S ρ o h a =
      subst (λ (U : List ℤ). At P cap limit board (Code.ret j m ∷ C) ws p U ρ → Does P cap limit board (state_at board ws p U ρ) o) (sym h.5)
      (λ b. rets P cap limit board k (running sound k) sound j m C ws p h.0 h.1 h.4 h.2 h.3 h.7 ρ o h.6 h.8 b h.9) a
  running sound (suc k) (Code.ldargs ∷ C) ws p S ρ o h a = loads k (running sound k) C ws p S ρ o h.0 h.1 a
  running sound (suc k) (Code.stop ∷ C) ws p [] ρ o h a = absurd h
  running sound (suc k) (Code.stop ∷ C) ws p (x ∷ T) ρ o h a =
      let v = seen P cap limit board (Code.stop ∷ C) ws p (x ∷ T) ρ in
      finishes P cap limit board Code.stop C ws p (x ∷ T) ρ a (omega arith) Stop o x T refl
      (passes (Rules.owning 0 0 (Some Finished)) v (page board ρ) (Some Finished) (omega arith) refl (omega arith) refl) refl refl h
  running sound (suc k) (Code.label ∷ C) ws p S ρ o h a = running sound k C ws p S ρ o h (passing Code.label C ws p S ρ refl a)
  running sound (suc k) (Code.loop_at w ∷ C) ws p S ρ o h a = running sound k C ws p S ρ o h (passing (Code.loop_at w) C ws p S ρ refl a)
  running sound (suc k) (Code.entry f ∷ C) ws p S ρ o h a = running sound k C ws p S ρ o h (passing (Code.entry f) C ws p S ρ refl a)
