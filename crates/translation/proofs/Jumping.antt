-- Jumps: one to a label goes forward and is free; one to the start of a while goes back, or to itself, and is paid.
use Rattle.std.proofs.Common.{◌≡◌, ℕ, zero, suc, ◌+◌, ◌-◌, ◌≤◌, Bool, true, false, cond, not, eqb, leb, List, ◌∷◌, length, get_or, ℤ, pos, Some, None, refl, ap, ◌∙◌, arith, eq-eqb, ne_eqb, le-leb}
use borrow.Author.Tests.{lt-leb}
use lib.Signed.{le_z}
use Rattle.answer.specs.declared.Ending.TheVariants.{NoTurnLeft}
use Rattle.board.specs.Meaning.{Means}
use Rattle.rules.specs.declared.View.{View}
use Rattle.rules.specs.declared.Instruction.{Instruction}
use Rattle.rules.specs.declared.Instruction.TheVariants.{Goto, IfZero, IfNzro}
use Rattle.rules.specs.Rules.{decode, rule, judged, words, room, first}
use Rattle.rules.specs.Rules
use Rattle.effects.specs.Effects.{state, effect, holding, jumped, branched}
use Rattle.meaning.specs.Words.{is_zero}
use Rattle.meaning.specs.Meaning.{showing}
use Rattle.scheme.specs.Code.{Code, Target, Item, size, width}
use Rattle.scheme.specs.Code
use Rattle.scheme.specs.Written.{mark_of, jump_mark, position, loop_end, entry_end}
use Rattle.symbolic.specs.Symbolic.{Rest, Finish, failed, EndsIn, goes, paid, if, Suffix}
use Rattle.symbolic.specs.Symbolic
use Rattle.translation.specs.Translated.{Holds, registers_at, state_at, Does}
use Rattle.translation.proofs.Memory.{kept_same, holds_under}
use Rattle.scheme.proofs.Scope.{suffix_size, suffix_tail}
use Rattle.scheme.specs.Laws.{JumpTo, by_goto, by_ifzero, by_ifnzro}
use Rattle.translation.proofs.Sound.{Sound}
use Rattle.translation.proofs.Truths.{zero_same}
use Rattle.translation.proofs.Stepping.{page, At, Done, seen, words_of, passes, roomy, goes_on, ends_at, next}

-- whether a jump from p to a finds no turn
abbrev starves : ℤ → ℕ → ℕ → Bool
starves a p left = cond (le_z a (pos p)) (eqb left 0) false

module _ (P : Code) (cap limit : ℕ) (board : Means) (k : ℕ) (done : Done P cap limit board k) (sound : Sound P) where
  abbrev sees : Item → Code → List ℤ → ℕ → List ℤ → Rest → View
  sees i C ws p S ρ = seen P cap limit board (i ∷ C) ws p S ρ

  -- the position of a target
  abbrev to : Target → ℤ
  to t = position (loop_end P) (entry_end P) (size P) t

  -- a jump of the words T, taken
  module _ (i : Item) (C : Code) (ws : List ℤ) (p : ℕ) (S T : List ℤ) (ρ : Rest) (o : Finish) (a : At P cap limit board (i ∷ C) ws p S ρ) (w : width i ≡ 2)
      (h : Holds ws T) (l : length T ≤ cap) (x : Instruction) (d : decode (get_or (words_of P cap limit board (i ∷ C)) 0 (pos 0)) ≡ Some x) where
    taken : (t : Target) (m : ℕ) → JumpTo t i → mark_of i ≡ jump_mark t m
        → ((b : Bool) → starves (to t) p ρ.left ≡ b → judged (rule x (sees i C ws p S ρ)) (sees i C ws p S ρ) (page board ρ) ≡ cond b (Some NoTurnLeft) None)
        → effect x (sees i C ws p S ρ) (state_at board ws p S ρ) ≡ holding (state_at board ws p S ρ) ws (length T) (jumped (registers_at p ρ) (to t))
        → goes P cap limit board t ρ o (λ D ρ'. EndsIn P cap limit board k D T ρ' o) → Does P cap limit board (state_at board ws p S ρ) o
    taken (Code.behind n) m j mk asks does q =
        let e = a.place in
        let f = sound.ahead n i C j a.stands in
        let g = suffix_size q.1 in
        let z = q.2 in
        let free : leb (size P - n) p ≡ false = lt-leb (size P - n) p (omega arith) in
        goes_on P cap limit board i C ws p S ρ a (omega arith) x o ws (size P - n) T ρ d
        (asks false (ap (λ (b : Bool). cond b (eqb ρ.left 0) false) free))
        (does ∙ (λ y. state ws (length T) (showing board ρ.out)
        (record { position = pos (size P - n); base = pos ρ.base; turns = cond (free y) (ρ.left - 1) ρ.left; depth = ρ.depth; deepest = ρ.deep })))
        (kept_same cap ws)
        (done q.0 ws (size P - n) T ρ o q.3
        (record { stands = q.1; place = omega arith; backs = a.backs; holds = h; low = l; high = a.high }))
    taken (Code.loop u) m j mk asks does q = go ρ.left refl q
      where
        back : leb (size P - loop_end P u) p ≡ true
        back = let e = a.place in let f = sound.around u i C j a.stands in le-leb (size P - loop_end P u) p (omega arith)

        go : (n : ℕ) → ρ.left ≡ n
            → elim n as (λ _. Type 0) [
              | zero ↦ o ≡ failed NoTurnLeft u ρ.left ρ.deep ρ.out
              | suc n₁ ↦ (D : Code) × Suffix (Code.loop_at u ∷ D) P × EndsIn P cap limit board k D T (paid ρ n₁) o
            ]
            → Does P cap limit board (state_at board ws p S ρ) o
        go zero e r =
            ends_at P cap limit board i C ws p S ρ a (omega arith) x NoTurnLeft o u d
            (asks true (ap (λ (b : Bool). cond b (eqb ρ.left 0) false) back ∙ eq-eqb ρ.left 0 e)) refl mk r
        go (suc n) e r =
            let f = sound.loops u r.0 r.1 in
            let g = suffix_size r.1 in
            let one : ρ.left - 1 ≡ n = omega arith in
            let turns : cond (leb (size P - loop_end P u) p) (ρ.left - 1) ρ.left ≡ n = ap (λ (b : Bool). cond b (ρ.left - 1) ρ.left) back ∙ one in
            goes_on P cap limit board i C ws p S ρ a (omega arith) x o ws (size P - loop_end P u) T (paid ρ n) d
            (asks false (ap (λ (b : Bool). cond b (eqb ρ.left 0) false) back ∙ ne_eqb ρ.left 0 (λ z. omega arith)))
            (does ∙ (λ y. state ws (length T) (showing board ρ.out)
            (record { position = pos (size P - loop_end P u); base = pos ρ.base; turns = turns y; depth = ρ.depth; deepest = ρ.deep })))
            (kept_same cap ws)
            (done r.0 ws (size P - loop_end P u) T (paid ρ n) o r.2
            (record { stands = suffix_tail r.1; place = omega arith; backs = a.backs; holds = h; low = l; high = a.high }))

  -- what a starved jump's tests say
  told : (b : Bool) (v : View) (g : Bool) → first (cond b (Some NoTurnLeft) None) (room (words 0) v g) ≡ cond b (Some NoTurnLeft) None
  told true v g = refl
  told false v g = roomy 0 v g (omega arith)

  pub gotos : (t : Target) (m : ℕ) (C : Code) (ws : List ℤ) (p : ℕ) (S : List ℤ) (ρ : Rest) (o : Finish)
      → goes P cap limit board t ρ o (λ D ρ'. EndsIn P cap limit board k D S ρ' o) → At P cap limit board (Code.goto t m ∷ C) ws p S ρ
      → Does P cap limit board (state_at board ws p S ρ) o
  gotos t m C ws p S ρ o q a =
      let v = sees (Code.goto t m) C ws p S ρ in
      let e = a.place in
      taken (Code.goto t m) C ws p S S ρ o a refl a.holds a.low Goto refl t m (by_goto m) refl
      (λ b f. passes (rule Goto v) v (page board ρ) (cond b (Some NoTurnLeft) None) (omega arith) refl (omega arith)
      (ap (λ (c : Bool). first (cond c (Some NoTurnLeft) None) (room (words 0) v (page board ρ))) f ∙ told b v (page board ρ)))
      refl q

  -- a conditional jump, by what its test says of the word on top
  module _ (t : Target) (m : ℕ) (C : Code) (ws : List ℤ) (p : ℕ) (x : ℤ) (T : List ℤ) (ρ : Rest) (o : Finish) where
    abbrev Goes : Type 0
    Goes = goes P cap limit board t ρ o (λ D ρ'. EndsIn P cap limit board k D T ρ' o)

    abbrev Falls : Type 0
    Falls = EndsIn P cap limit board k C T ρ o

    abbrev Result : Type 0
    Result = Does P cap limit board (state_at board ws p (x ∷ T) ρ) o

    fewer : suc (length T) - 1 ≡ length T
    fewer = omega arith

    pub ifzeros : if (is_zero x) Goes Falls → At P cap limit board (Code.ifzero t m ∷ C) ws p (x ∷ T) ρ → Result
    ifzeros q a = go (is_zero x) (zero_same x) q
      where
        go : (b : Bool) → Rules.is_zero x ≡ b → if b Goes Falls → Result
        go true z r =
            let v = sees (Code.ifzero t m) C ws p (x ∷ T) ρ in
            let e = a.place in
            let l = a.low in
            taken (Code.ifzero t m) C ws p (x ∷ T) T ρ o a refl (holds_under ws x T a.holds) (omega arith) IfZero refl t m (by_ifzero m) refl
            (λ b f. passes (rule IfZero v) v (page board ρ) (cond b (Some NoTurnLeft) None) (omega arith) refl (omega arith)
            ((λ j. first (cond (z j) (cond (f j) (Some NoTurnLeft) None) None) (room (words 0) v (page board ρ))) ∙ told b v (page board ρ)))
            (λ j. holding (state_at board ws p (x ∷ T) ρ) ws (fewer j) (branched (registers_at p ρ) (to t) (z j))) r
        go false z r =
            let v = sees (Code.ifzero t m) C ws p (x ∷ T) ρ in
            let e = a.place in
            let l = a.low in
            goes_on P cap limit board (Code.ifzero t m) C ws p (x ∷ T) ρ a (omega arith) IfZero o ws (p + 2) T ρ refl
            (passes (rule IfZero v) v (page board ρ) None (omega arith) refl (omega arith)
            (ap (λ (b : Bool). first (cond b (Rules.jumps v) None) (room (words 0) v (page board ρ))) z ∙ roomy 0 v (page board ρ) (omega arith)))
            (λ j. holding (state_at board ws p (x ∷ T) ρ) ws (fewer j) (branched (registers_at p ρ) (to t) (z j)))
            (kept_same cap ws)
            (done C ws (p + 2) T ρ o r (next P cap limit board (Code.ifzero t m) C ws p (x ∷ T) ρ a (omega arith) ws T ρ a.backs (holds_under ws x T a.holds) (omega arith) refl))

    pub ifnzros : if (is_zero x) Falls Goes → At P cap limit board (Code.ifnzro t m ∷ C) ws p (x ∷ T) ρ → Result
    ifnzros q a = go (is_zero x) (zero_same x) q
      where
        go : (b : Bool) → Rules.is_zero x ≡ b → if b Falls Goes → Result
        go false z r =
            let v = sees (Code.ifnzro t m) C ws p (x ∷ T) ρ in
            let e = a.place in
            let l = a.low in
            taken (Code.ifnzro t m) C ws p (x ∷ T) T ρ o a refl (holds_under ws x T a.holds) (omega arith) IfNzro refl t m (by_ifnzro m) refl
            (λ b f. passes (rule IfNzro v) v (page board ρ) (cond b (Some NoTurnLeft) None) (omega arith) refl (omega arith)
            ((λ j. first (cond (z j) None (cond (f j) (Some NoTurnLeft) None)) (room (words 0) v (page board ρ))) ∙ told b v (page board ρ)))
            (λ j. holding (state_at board ws p (x ∷ T) ρ) ws (fewer j) (branched (registers_at p ρ) (to t) (not (z j)))) r
        go true z r =
            let v = sees (Code.ifnzro t m) C ws p (x ∷ T) ρ in
            let e = a.place in
            let l = a.low in
            goes_on P cap limit board (Code.ifnzro t m) C ws p (x ∷ T) ρ a (omega arith) IfNzro o ws (p + 2) T ρ refl
            (passes (rule IfNzro v) v (page board ρ) None (omega arith) refl (omega arith)
            (ap (λ (b : Bool). first (cond b None (Rules.jumps v)) (room (words 0) v (page board ρ))) z ∙ roomy 0 v (page board ρ) (omega arith)))
            (λ j. holding (state_at board ws p (x ∷ T) ρ) ws (fewer j) (branched (registers_at p ρ) (to t) (not (z j))))
            (kept_same cap ws)
            (done C ws (p + 2) T ρ o r (next P cap limit board (Code.ifnzro t m) C ws p (x ∷ T) ρ a (omega arith) ws T ρ a.backs (holds_under ws x T a.holds) (omega arith) refl))
