-- CALL, TCALL and RET: the shape of the stack that symbolic code has there is what the machine finds, moves and leaves.
use Rattle.std.proofs.Common.{◌≡◌, ℕ, zero, suc, ◌+◌, ◌-◌, ◌<◌, ◌≤◌, max, Bool, true, false, cond, eqb, ltb, leb, List, [], ◌∷◌, length, get_or, set, ℤ, pos, Some, None, Option, sym, refl, ap, ◌∙◌, arith, ltb-false, ltb-true, le-ltb, eq-eqb, ne_eqb, le-leb}
use native.Mathlib.Nat.{max_comm}
use borrow.Author.Tests.{lt-leb}
use Rattle.answer.specs.declared.Ending.{Ending}
use Rattle.answer.specs.declared.Ending.TheVariants.{NoTurnLeft, TooDeep, NoCaller}
use Rattle.stack.specs.Entries.{opened, closed}
use Rattle.board.specs.Meaning.{Means}
use Rattle.rules.specs.declared.View.{View}
use Rattle.rules.specs.declared.Instruction.TheVariants.{Call, Tcall, Ret}
use Rattle.rules.specs.Rules.{rule, judged, words, room, first, either_negative, framed}
use Rattle.effects.specs.Effects.{State, state}
use Rattle.meaning.specs.Meaning.{showing}
use Rattle.scheme.specs.Code.{Code, size}
use Rattle.scheme.specs.Code
use Rattle.scheme.specs.Written.{entry_end}
use Rattle.symbolic.specs.Symbolic.{Rest, Finish, failed, EndsIn, onto, paid, if, Suffix, return_to}
use Rattle.translation.specs.Translated.{state_at, Does}
use Rattle.translation.proofs.Reading.{length-onto}
use Rattle.translation.proofs.Memory.{kept_set, holds_top, holds_under, holds-below, holds_push, holds_opened, kept_opened, holds_closed, kept_closed}
use Rattle.scheme.proofs.Scope.{suffix_size, suffix_tail}
use Rattle.translation.proofs.Sound.{Sound}
use Rattle.translation.proofs.Stepping.{page, At, Done, Backs, seen, passes, roomy, goes_on, ends_at}

-- numbers are not negative
none_negative : (m n : ℕ) → either_negative (pos m) (pos n) ≡ false
unfolding either_negative
none_negative m n = (λ j. cond (le-ltb m 0 (omega arith) j) true (le-ltb n 0 (omega arith) j))

frame_is : (m n : ℕ) → framed (pos m) (pos n) ≡ m + n + 2
unfolding framed
frame_is m n = refl

module _ (P : Code) (cap limit : ℕ) (board : Means) (k : ℕ) (done : Done P cap limit board k) (sound : Sound P) where
  -- where the code of the function f starts
  abbrev start : ℕ → ℕ
  start f = size P - entry_end P f

  -- a call of f with the arguments vs
  module _ (m f n : ℕ) (C : Code) (ws : List ℤ) (p : ℕ) (vs T : List ℤ) (ρ : Rest) (o : Finish) (len : length vs ≡ m)
      (a : At P cap limit board (Code.call m f n ∷ C) ws p (onto vs T) ρ) where
    abbrev call_sees : View
    call_sees = seen P cap limit board (Code.call m f n ∷ C) ws p (onto vs T) ρ

    abbrev call_from : State
    call_from = state_at board ws p (onto vs T) ρ

    abbrev linked : List ℤ
    linked = onto vs (pos ρ.base ∷ pos (size P - size C) ∷ T)

    abbrev inside : ℕ → Rest
    inside l = record { base = suc (suc (length T)); left = l; depth = suc ρ.depth; deep = max (suc ρ.depth) ρ.deep; out = ρ.out; back = C ∷ ρ.back }

    -- the tests of CALL, by what turns and depth say
    asked : (b c : Bool) (r : Option Ending) → eqb ρ.left 0 ≡ b → leb limit ρ.depth ≡ c
        → first (cond b (Some NoTurnLeft) (cond c (Some TooDeep) None)) (room (words 2) call_sees (page board ρ)) ≡ r → judged (rule Call call_sees) call_sees (page board ρ) ≡ r
    asked b c r d e h =
        let z = a.place in
        let y = length-onto vs T in
        passes (rule Call call_sees) call_sees (page board ρ) r (omega arith) (le-ltb m 0 (omega arith)) (omega arith)
        ((λ j. first (cond (d j) (Some NoTurnLeft) (cond (e j) (Some TooDeep) None)) (room (words 2) call_sees (page board ρ))) ∙ h)

    enters : (l : ℕ) → ρ.left ≡ suc l → ρ.depth < limit → length (onto vs T) + 2 ≤ cap → (D : Code) → Suffix (Code.entry f ∷ D) P
        → EndsIn P cap limit board k D linked (inside l) o → Does P cap limit board call_from o
    enters l e lt rm D s q =
        let z = a.place in
        let g = a.high in
        let y = length-onto vs T in
        let y₂ = length-onto vs (pos ρ.base ∷ pos (size P - size C) ∷ T) in
        let en = sound.entries f D s in
        let sz = suffix_size s in
        let used = length (onto vs T) in
        let back : p + 3 ≡ size P - size C = omega arith in
        let us = opened ws used m (pos (size P - size C)) (pos ρ.base) in
        let kept = kept_opened ws vs T m (length T) (pos (size P - size C)) (pos ρ.base) refl (sym len) (omega arith) cap used (omega arith) rm g in
        let len₂ = kept.0 in
        let more : used + 2 ≡ length linked = omega arith in
        let base : used - m + 2 ≡ suc (suc (length T)) = omega arith in
        let turns : ρ.left - 1 ≡ l = omega arith in
        let deeper : ρ.depth + 1 ≡ suc ρ.depth = omega arith in
        let deep : max ρ.deep (ρ.depth + 1) ≡ max (suc ρ.depth) ρ.deep = max_comm ρ.deep (ρ.depth + 1) ∙ ap (λ (x : ℕ). max x ρ.deep) deeper in
        goes_on P cap limit board (Code.call m f n) C ws p (onto vs T) ρ a (omega arith) Call o us (start f) linked (inside l) refl
        (asked false false None (ne_eqb ρ.left 0 (λ x. omega arith)) (lt-leb limit ρ.depth lt) (roomy 2 call_sees (page board ρ) (omega arith)))
        (λ j. state (opened ws used m (pos (back j)) (pos ρ.base)) (more j) (showing board ρ.out)
        (record { position = pos (start f); base = pos (base j); turns = turns j; depth = deeper j; deepest = deep j }))
        kept
        (done D us (start f) linked (inside l) o q
        (record {
          stands = suffix_tail s;
          place = omega arith;
          backs = (suffix_tail a.stands, a.backs);
          holds = holds_opened ws vs T m (length T) (pos (size P - size C)) (pos ρ.base) refl (sym len) (omega arith) used (omega arith) a.holds;
          low = omega arith;
          high = omega arith;
        }))

    abbrev Called : ℕ → Type 0
    Called l =
        if (ltb ρ.depth limit)
        ((length (onto vs T) + 2 ≤ cap) × (D : Code) × Suffix (Code.entry f ∷ D) P × EndsIn P cap limit board k D linked (inside l) o)
        (o ≡ failed TooDeep n ρ.left ρ.deep ρ.out)

    pub calls : elim ρ.left as (λ _. Type 0) [ zero ↦ o ≡ failed NoTurnLeft n ρ.left ρ.deep ρ.out | suc l ↦ Called l ] → Does P cap limit board call_from o
    calls q = go ρ.left refl q
      where
        deeper : (l : ℕ) → ρ.left ≡ suc l → (b : Bool) → ltb ρ.depth limit ≡ b
            → if b ((length (onto vs T) + 2 ≤ cap) × (D : Code) × Suffix (Code.entry f ∷ D) P × EndsIn P cap limit board k D linked (inside l) o)
            (o ≡ failed TooDeep n ρ.left ρ.deep ρ.out)
            → Does P cap limit board call_from o
        deeper l e true t h = enters l e (ltb-true ρ.depth limit t) h.0 h.1 h.2 h.3
        deeper l e false t h =
            ends_at P cap limit board (Code.call m f n) C ws p (onto vs T) ρ a (omega arith) Call TooDeep o n refl
            (asked false true (Some TooDeep) (ne_eqb ρ.left 0 (λ x. omega arith)) (le-leb limit ρ.depth (ltb-false ρ.depth limit t)) refl) refl refl h

        go : (l : ℕ) → ρ.left ≡ l → elim l as (λ _. Type 0) [ zero ↦ o ≡ failed NoTurnLeft n ρ.left ρ.deep ρ.out | suc l₁ ↦ Called l₁ ] → Does P cap limit board call_from o
        go zero e h =
            ends_at P cap limit board (Code.call m f n) C ws p (onto vs T) ρ a (omega arith) Call NoTurnLeft o n refl
            (asked true (leb limit ρ.depth) (Some NoTurnLeft) (eq-eqb ρ.left 0 e) refl refl) refl refl h
        go (suc l) e h = deeper l e (ltb ρ.depth limit) refl h

  -- a replacing call of f with the arguments vs, over the words L of its caller
  module _ (m j f n : ℕ) (C : Code) (ws : List ℤ) (p : ℕ) (vs L T : List ℤ) (ρ : Rest) (o : Finish) (len : length vs ≡ m) (lem : length L ≡ j) (two : 2 ≤ length T)
      (a : At P cap limit board (Code.tcall m j f n ∷ C) ws p (onto vs (onto L T)) ρ) where
    abbrev tcall_sees : View
    tcall_sees = seen P cap limit board (Code.tcall m j f n ∷ C) ws p (onto vs (onto L T)) ρ

    abbrev tcall_from : State
    tcall_from = state_at board ws p (onto vs (onto L T)) ρ

    enough : framed (pos m) (pos j) ≤ length (onto vs (onto L T))
    enough = let x = frame_is m j in let y = length-onto vs (onto L T) in let z = length-onto L T in omega arith

    replaces : (b : Bool) (r : Option Ending) → eqb ρ.left 0 ≡ b → first (cond b (Some NoTurnLeft) None) (room (words 0) tcall_sees (page board ρ)) ≡ r
        → judged (rule Tcall tcall_sees) tcall_sees (page board ρ) ≡ r
    replaces b r d h =
        let z = a.place in
        passes (rule Tcall tcall_sees) tcall_sees (page board ρ) r (omega arith) (none_negative m j) enough
        (ap (λ (c : Bool). first (cond c (Some NoTurnLeft) None) (room (words 0) tcall_sees (page board ρ))) d ∙ h)

    pub tcalls : elim ρ.left as (λ _. Type 0) [
      | zero ↦ o ≡ failed NoTurnLeft n ρ.left ρ.deep ρ.out
      | suc l ↦ (D : Code) × Suffix (Code.entry f ∷ D) P × EndsIn P cap limit board k D (onto vs T) (paid ρ l) o
    ] → Does P cap limit board tcall_from o
    tcalls q = go ρ.left refl q
      where
        go : (l : ℕ) → ρ.left ≡ l
            → elim l as (λ _. Type 0) [
              | zero ↦ o ≡ failed NoTurnLeft n ρ.left ρ.deep ρ.out
              | suc l₁ ↦ (D : Code) × Suffix (Code.entry f ∷ D) P × EndsIn P cap limit board k D (onto vs T) (paid ρ l₁) o
            ] → Does P cap limit board tcall_from o
        go zero e h =
            ends_at P cap limit board (Code.tcall m j f n) C ws p (onto vs (onto L T)) ρ a (omega arith) Tcall NoTurnLeft o n refl
            (replaces true (Some NoTurnLeft) (eq-eqb ρ.left 0 e) refl) refl refl h
        go (suc l) e h =
            let z = a.place in
            let g = a.high in
            let w = a.low in
            let y = length-onto vs (onto L T) in
            let y₂ = length-onto L T in
            let y₃ = length-onto vs T in
            let en = sound.entries f h.0 h.1 in
            let sz = suffix_size h.1 in
            let used = length (onto vs (onto L T)) in
            let us = closed ws used m j in
            let kept = kept_closed ws vs L T used m j (length T) refl (sym len) (sym lem) (omega arith) (omega arith) cap (omega arith) g in
            let len₂ = kept.0 in
            let fewer : used - j ≡ length (onto vs T) = omega arith in
            let turns : ρ.left - 1 ≡ l = omega arith in
            goes_on P cap limit board (Code.tcall m j f n) C ws p (onto vs (onto L T)) ρ a (omega arith) Tcall o us (start f) (onto vs T) (paid ρ l) refl
            (replaces false None (ne_eqb ρ.left 0 (λ x. omega arith)) (roomy 0 tcall_sees (page board ρ) (omega arith)))
            (λ i. state us (fewer i) (showing board ρ.out)
            (record { position = pos (start f); base = pos ρ.base; turns = turns i; depth = ρ.depth; deepest = ρ.deep }))
            kept
            (done h.0 us (start f) (onto vs T) (paid ρ l) o h.2
            (record {
              stands = suffix_tail h.1;
              place = omega arith;
              backs = a.backs;
              holds = holds_closed ws vs L T used m j (length T) refl (sym len) (sym lem) (omega arith) (omega arith) a.holds;
              low = omega arith;
              high = omega arith;
            }))

  -- a return of v over the words L, to position r with base b
  module _ (j m : ℕ) (C : Code) (ws : List ℤ) (p : ℕ) (v : ℤ) (L T : List ℤ) (b r d : ℕ) (ρ : Rest) (o : Finish) (len : length L ≡ j) (deep : ρ.depth ≡ suc d)
      (a : At P cap limit board (Code.ret j m ∷ C) ws p (v ∷ onto L (pos b ∷ pos r ∷ T)) ρ) where
    abbrev ret_sees : View
    ret_sees = seen P cap limit board (Code.ret j m ∷ C) ws p (v ∷ onto L (pos b ∷ pos r ∷ T)) ρ

    abbrev ret_from : State
    ret_from = state_at board ws p (v ∷ onto L (pos b ∷ pos r ∷ T)) ρ

    abbrev outside : List Code → Rest
    outside K = record { base = b; left = ρ.left; depth = d; deep = ρ.deep; out = ρ.out; back = K }

    leaves : (D : Code) (K : List Code) → Suffix D P → Backs P cap limit board K → r ≡ size P - size D → EndsIn P cap limit board k D (v ∷ T) (outside K) o → Does P cap limit board ret_from o
    leaves D K s bk e q =
        let z = a.place in
        let g = a.high in
        let w = a.low in
        let sz = suffix_size s in
        let y = length-onto L (pos b ∷ pos r ∷ T) in
        let used = suc (length (onto L (pos b ∷ pos r ∷ T))) in
        let n = used - (j + 3) in
        let at : n ≡ length T = omega arith in
        let at₂ : used - (j + 2) ≡ suc (length T) = omega arith in
        let us = set ws n v in
        let kept = kept_set cap ws n v (omega arith) in
        let len₂ = kept.0 in
        let under = holds-below ws L (pos b ∷ pos r ∷ T) (holds_under ws v (onto L (pos b ∷ pos r ∷ T)) a.holds) in
        let position : get_or ws n (pos 0) ≡ pos r = ap (λ (x : ℕ). get_or ws x (pos 0)) at ∙ holds_top ws (pos r) T (holds_under ws (pos b) (pos r ∷ T) under) in
        let base : get_or ws (used - (j + 2)) (pos 0) ≡ pos b = ap (λ (x : ℕ). get_or ws x (pos 0)) at₂ ∙ holds_top ws (pos b) (pos r ∷ T) under in
        let more : n + 1 ≡ suc (length T) = omega arith in
        let depth : ρ.depth - 1 ≡ d = omega arith in
        goes_on P cap limit board (Code.ret j m) C ws p (v ∷ onto L (pos b ∷ pos r ∷ T)) ρ a (omega arith) Ret o us r (v ∷ T) (outside K) refl
        (passes (rule Ret ret_sees) ret_sees (page board ρ) None (omega arith) (le-ltb j 0 (omega arith)) (omega arith)
        (ap (λ (c : Bool). first (cond c (Some NoCaller) None) (room (words 0) ret_sees (page board ρ))) (ne_eqb ρ.depth 0 (λ x. omega arith)) ∙ roomy 0 ret_sees (page board ρ) (omega arith)))
        (λ i. state us (more i) (showing board ρ.out) (record { position = position i; base = base i; turns = ρ.left; depth = depth i; deepest = ρ.deep }))
        kept
        (done D us r (v ∷ T) (outside K) o q
        (record {
          stands = s;
          place = omega arith;
          backs = bk;
          holds = holds_push ws T n v at (omega arith) (holds_under ws (pos r) T (holds_under ws (pos b) (pos r ∷ T) under));
          low = omega arith;
          high = omega arith;
        }))

    pub rets : return_to ρ.back (λ D K. (r ≡ size P - size D) × EndsIn P cap limit board k D (v ∷ T) (outside K) o) → Does P cap limit board ret_from o
    rets q = go ρ.back q a.backs
      where
        go : (Ks : List Code) → return_to Ks (λ D K. (r ≡ size P - size D) × EndsIn P cap limit board k D (v ∷ T) (outside K) o) → Backs P cap limit board Ks → Does P cap limit board ret_from o
        go [] h bk = absurd h
        go (D ∷ K) h bk = leaves D K bk.0 bk.1 h.0 h.1
