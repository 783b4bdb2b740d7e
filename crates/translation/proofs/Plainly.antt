-- The instructions without operands that stand for parts of a script, and the drop of a word.
use Rattle.std.proofs.Common.{◌≡◌, ℕ, suc, ◌+◌, ◌-◌, ◌<◌, ◌≤◌, Bool, true, false, cond, List, [], ◌∷◌, ◌++◌, length, get_or, set, ℤ, pos, negsuc, Some, None, sym, refl, ap, ◌∙◌, subst, arith, lt-ltb}
use lib.Signed.{lt_z}
use Rattle.std.proofs.lemmas.List.Edits.{paste_none}
use Rattle.answer.specs.declared.Ending.TheVariants.{DivisorZero, IndexOutside, PageFull}
use Rattle.board.specs.Meaning.{Means}
use Rattle.rules.specs.declared.View.{View}
use Rattle.rules.specs.declared.Instruction.{Instruction}
use Rattle.rules.specs.declared.Instruction.TheVariants.{Add, Sub, Mul, Div, Mod, Eq, Lt, Not, Dup, Swap, Ldi, Sti, GetBp, IncSp, Printi}
use Rattle.rules.specs.Rules.{decode, rule, judged, Rule, words, room, first, divides}
use Rattle.rules.specs.Rules
use Rattle.effects.specs.Effects.{State, state, effect, topped, past, quotient}
use Rattle.meaning.specs.Words.{is_zero, flag, eq_z, apply}
use Rattle.meaning.specs.Words
use Rattle.meaning.specs.Meaning.{showing}
use Rattle.scheme.specs.Code.{Code, Plain, Item}
use Rattle.scheme.specs.Code
use Rattle.symbolic.specs.Symbolic.{Rest, Finish, failed, EndsIn, plainly, fetch, store, if}
use Rattle.translation.specs.Translated.{registers_at, state_at, Does}
use Rattle.translation.proofs.Reading.{fetch_under, length-store}
use Rattle.translation.proofs.Memory.{kept_same, kept_set, kept_trans, holds_under, holds_push, holds-store}
use Rattle.translation.proofs.Truths.{zero_same, flag_same, equal_same}
use Rattle.translation.proofs.Stepping.{page, At, Done, seen, words_of, passes, roomy, goes_on, ends_at, next, tops}

module _ (P : Code) (cap limit : ℕ) (board : Means) (k : ℕ) (done : Done P cap limit board k) where
  abbrev sees : Item → Code → List ℤ → ℕ → List ℤ → Rest → View
  sees i C ws p S ρ = seen P cap limit board (i ∷ C) ws p S ρ

  -- the tests of an instruction that asks for words and room only
  clear : (i : Item) (C : Code) (ws : List ℤ) (p : ℕ) (S : List ℤ) (ρ : Rest) (t g : ℕ) → t ≤ length S → g ≤ length ws - length S
      → judged (Rules.plain 0 t g) (sees i C ws p S ρ) (page board ρ) ≡ None
  clear i C ws p S ρ t g h r = passes (Rules.plain 0 t g) (sees i C ws p S ρ) (page board ρ) None (omega arith) refl h (roomy g (sees i C ws p S ρ) (page board ρ) r)

  -- the tests of one that reaches to an address
  reached : (i : Item) (C : Code) (ws : List ℤ) (p : ℕ) (S : List ℤ) (ρ : Rest) (t j : ℕ) → t ≤ length S → j < length S
      → judged (Rules.owning 0 t (Rules.reaches (pos j) (sees i C ws p S ρ))) (sees i C ws p S ρ) (page board ρ) ≡ None
  reached i C ws p S ρ t j h r =
      let v = sees i C ws p S ρ in
      passes (Rules.owning 0 t (Rules.reaches (pos j) v)) v (page board ρ) None (omega arith) refl h
      (ap (λ (b : Bool). first (cond b None (Some IndexOutside)) (room (words 0) v (page board ρ))) (lt-ltb j (length S) r) ∙ roomy 0 v (page board ρ) (omega arith))

  -- an instruction that takes two words and puts one, and asks no more of them
  module _ (pl : Plain) (m : ℕ) (C : Code) (ws : List ℤ) (p : ℕ) (x y : ℤ) (T : List ℤ) (ρ : Rest) (o : Finish)
      (a : At P cap limit board (Code.plain pl m ∷ C) ws p (y ∷ x ∷ T) ρ) (i : Instruction)
      (d : decode (get_or (words_of P cap limit board (Code.plain pl m ∷ C)) 0 (pos 0)) ≡ Some i) where
    abbrev v : View
    v = sees (Code.plain pl m) C ws p (y ∷ x ∷ T) ρ

    abbrev s : State
    s = state_at board ws p (y ∷ x ∷ T) ρ

    two : (z : ℤ) → judged (rule i v) v (page board ρ) ≡ None
        → effect i v s ≡ topped s (suc (suc (length T)) - 2) z (past (registers_at p ρ) 0) → EndsIn P cap limit board k C (z ∷ T) ρ o → Does P cap limit board s o
    two z h f q =
        let l = a.low in
        tops P cap limit board (Code.plain pl m) C ws p (y ∷ x ∷ T) ρ a (omega arith) i o 0 (suc (suc (length T)) - 2) z T d h f
        refl (omega arith) (omega arith) (holds_under ws x T (holds_under ws y (x ∷ T) a.holds)) (λ b. done C _ _ _ ρ o q b)

    both : (z : ℤ) → rule i v ≡ Rules.plain 0 2 0 → effect i v s ≡ topped s (suc (suc (length T)) - 2) z (past (registers_at p ρ) 0)
        → EndsIn P cap limit board k C (z ∷ T) ρ o → Does P cap limit board s o
    both z r f q = two z (ap (λ (u : Rule). judged u v (page board ρ)) r ∙ clear (Code.plain pl m) C ws p (y ∷ x ∷ T) ρ 2 0 (omega arith) (omega arith)) f q

    -- and one that divides by the second of them
    divided : (z : ℤ) → rule i v ≡ Rules.owning 0 2 (divides v) → effect i v s ≡ topped s (suc (suc (length T)) - 2) z (past (registers_at p ρ) 0)
        → if (is_zero y) (o ≡ failed DivisorZero m ρ.left ρ.deep ρ.out) (EndsIn P cap limit board k C (z ∷ T) ρ o) → Does P cap limit board s o
    divided z r f q = go (is_zero y) (zero_same y) q
      where
        go : (b : Bool) → Rules.is_zero y ≡ b → if b (o ≡ failed DivisorZero m ρ.left ρ.deep ρ.out) (EndsIn P cap limit board k C (z ∷ T) ρ o) → Does P cap limit board s o
        go true e h =
            ends_at P cap limit board (Code.plain pl m) C ws p (y ∷ x ∷ T) ρ a (omega arith) i DivisorZero o m d
            (ap (λ (u : Rule). judged u v (page board ρ)) r ∙ passes (Rules.owning 0 2 (divides v)) v (page board ρ) (Some DivisorZero) (omega arith) refl (omega arith)
            (ap (λ (b : Bool). first (cond b (Some DivisorZero) None) (room (words 0) v (page board ρ))) e))
            refl refl h
        go false e h =
            two z
            (ap (λ (u : Rule). judged u v (page board ρ)) r ∙ passes (Rules.owning 0 2 (divides v)) v (page board ρ) None (omega arith) refl (omega arith)
            (ap (λ (b : Bool). first (cond b (Some DivisorZero) None) (room (words 0) v (page board ρ))) e ∙ roomy 0 v (page board ρ) (omega arith)))
            f h

  -- one that takes a word and puts one in its place
  one : (pl : Plain) (m : ℕ) (C : Code) (ws : List ℤ) (p : ℕ) (x : ℤ) (T : List ℤ) (ρ : Rest) (o : Finish)
      → At P cap limit board (Code.plain pl m ∷ C) ws p (x ∷ T) ρ → (i : Instruction)
      → decode (get_or (words_of P cap limit board (Code.plain pl m ∷ C)) 0 (pos 0)) ≡ Some i → (z : ℤ)
      → judged (rule i (sees (Code.plain pl m) C ws p (x ∷ T) ρ)) (sees (Code.plain pl m) C ws p (x ∷ T) ρ) (page board ρ) ≡ None
      → effect i (sees (Code.plain pl m) C ws p (x ∷ T) ρ) (state_at board ws p (x ∷ T) ρ)
      ≡ topped (state_at board ws p (x ∷ T) ρ) (suc (length T) - 1) z (past (registers_at p ρ) 0)
      → EndsIn P cap limit board k C (z ∷ T) ρ o → Does P cap limit board (state_at board ws p (x ∷ T) ρ) o
  one pl m C ws p x T ρ o a i d z h f q =
      let l = a.low in
      tops P cap limit board (Code.plain pl m) C ws p (x ∷ T) ρ a (omega arith) i o 0 (suc (length T) - 1) z T d h f
      refl (omega arith) (omega arith) (holds_under ws x T a.holds) (λ b. done C _ _ _ ρ o q b)

  -- STI, its address a number
  stores : (m : ℕ) (C : Code) (ws : List ℤ) (p : ℕ) (x : ℤ) (j : ℕ) (T : List ℤ) (ρ : Rest) (o : Finish) → j < length T
      → EndsIn P cap limit board k C (x ∷ store T j x) ρ o → At P cap limit board (Code.plain Code.sti m ∷ C) ws p (x ∷ pos j ∷ T) ρ
      → Does P cap limit board (state_at board ws p (x ∷ pos j ∷ T) ρ) o
  stores m C ws p x j T ρ o lt q a =
      let l = a.low in
      let g = a.high in
      let len = length-store T j x in
      let n = suc (suc (length T)) - 2 in
      let us = set (set ws j x) n x in
      let e = kept_trans cap ws (set ws j x) us (kept_set cap ws j x (omega arith)) (kept_set cap (set ws j x) n x (omega arith)) in
      let f = (kept_set cap ws j x (omega arith)).0 in
      let used : suc (suc (length T)) - 1 ≡ suc (length (store T j x)) = omega arith in
      goes_on P cap limit board (Code.plain Code.sti m) C ws p (x ∷ pos j ∷ T) ρ a (omega arith) Sti o us (p + 1) (x ∷ store T j x) ρ refl
      (reached (Code.plain Code.sti m) C ws p (x ∷ pos j ∷ T) ρ 2 j (omega arith) (omega arith))
      (λ i. state us (used i) (showing board ρ.out) (registers_at (p + 1) ρ))
      e
      (done C us (p + 1) (x ∷ store T j x) ρ o q
      (next P cap limit board (Code.plain Code.sti m) C ws p (x ∷ pos j ∷ T) ρ a (omega arith) us (x ∷ store T j x) ρ a.backs
      (holds_push (set ws j x) (store T j x) n x (omega arith) (omega arith)
      (holds-store ws T j x lt (omega arith) (holds_under ws (pos j) T (holds_under ws x (pos j ∷ T) a.holds))))
      (omega arith) e.0))

  swaps : (m : ℕ) (C : Code) (ws : List ℤ) (p : ℕ) (x y : ℤ) (T : List ℤ) (ρ : Rest) (o : Finish) → EndsIn P cap limit board k C (x ∷ y ∷ T) ρ o
      → At P cap limit board (Code.plain Code.swap m ∷ C) ws p (y ∷ x ∷ T) ρ → Does P cap limit board (state_at board ws p (y ∷ x ∷ T) ρ) o
  swaps m C ws p x y T ρ o q a =
      let l = a.low in
      let g = a.high in
      let n = suc (suc (length T)) - 2 in
      let us = set (set ws n y) (suc (suc (length T)) - 1) x in
      let f = kept_set cap ws n y (omega arith) in
      let e = kept_trans cap ws (set ws n y) us f (kept_set cap (set ws n y) (suc (suc (length T)) - 1) x (omega arith)) in
      let f0 = f.0 in
      goes_on P cap limit board (Code.plain Code.swap m) C ws p (y ∷ x ∷ T) ρ a (omega arith) Swap o us (p + 1) (x ∷ y ∷ T) ρ refl
      (clear (Code.plain Code.swap m) C ws p (y ∷ x ∷ T) ρ 2 0 (omega arith) (omega arith))
      refl e
      (done C us (p + 1) (x ∷ y ∷ T) ρ o q
      (next P cap limit board (Code.plain Code.swap m) C ws p (y ∷ x ∷ T) ρ a (omega arith) us (x ∷ y ∷ T) ρ a.backs
      (holds_push (set ws n y) (y ∷ T) (suc (suc (length T)) - 1) x (omega arith) (omega arith)
      (holds_push ws T n y (omega arith) (omega arith) (holds_under ws x T (holds_under ws y (x ∷ T) a.holds))))
      (omega arith) e.0))

  abbrev printing : Rest → ℤ → Rest
  printing ρ x = record { base = ρ.base; left = ρ.left; depth = ρ.depth; deep = ρ.deep; out = ρ.out ++ x ∷ []; back = ρ.back }

  prints : (m : ℕ) (C : Code) (ws : List ℤ) (p : ℕ) (x : ℤ) (T : List ℤ) (ρ : Rest) (o : Finish) (b : Bool) → page board ρ ≡ b
      → if b (EndsIn P cap limit board k C (x ∷ T) (printing ρ x) o) (o ≡ failed PageFull m ρ.left ρ.deep ρ.out)
      → At P cap limit board (Code.plain Code.printi m ∷ C) ws p (x ∷ T) ρ → Does P cap limit board (state_at board ws p (x ∷ T) ρ) o
  prints m C ws p x T ρ o b e q a = go b e q
    where
      asked : judged (rule Printi (sees (Code.plain Code.printi m) C ws p (x ∷ T) ρ)) (sees (Code.plain Code.printi m) C ws p (x ∷ T) ρ) (page board ρ)
          ≡ cond (page board ρ) None (Some PageFull)
      asked =
          let v = sees (Code.plain Code.printi m) C ws p (x ∷ T) ρ in
          passes (rule Printi v) v (page board ρ) (cond (page board ρ) None (Some PageFull)) (omega arith) refl (omega arith) refl

      go : (c : Bool) → page board ρ ≡ c
          → if c (EndsIn P cap limit board k C (x ∷ T) (printing ρ x) o) (o ≡ failed PageFull m ρ.left ρ.deep ρ.out)
          → Does P cap limit board (state_at board ws p (x ∷ T) ρ) o
      go true f h =
          goes_on P cap limit board (Code.plain Code.printi m) C ws p (x ∷ T) ρ a (omega arith) Printi o ws (p + 1) (x ∷ T) (printing ρ x) refl
          (asked ∙ ap (λ (c : Bool). cond c None (Some PageFull)) f) refl (kept_same cap ws)
          (done C ws (p + 1) (x ∷ T) (printing ρ x) o h
          (next P cap limit board (Code.plain Code.printi m) C ws p (x ∷ T) ρ a (omega arith) ws (x ∷ T) (printing ρ x) a.backs a.holds a.low refl))
      go false f h =
          ends_at P cap limit board (Code.plain Code.printi m) C ws p (x ∷ T) ρ a (omega arith) Printi PageFull o m refl
          (asked ∙ ap (λ (c : Bool). cond c None (Some PageFull)) f) refl refl h

  pub plains : (pl : Plain) (m : ℕ) (C : Code) (ws : List ℤ) (p : ℕ) (S : List ℤ) (ρ : Rest) (o : Finish)
      → plainly P cap limit board pl m S ρ o (λ T ρ'. EndsIn P cap limit board k C T ρ' o) → At P cap limit board (Code.plain pl m ∷ C) ws p S ρ
      → Does P cap limit board (state_at board ws p S ρ) o
  unfolding quotient
  plains Code.add m C ws p [] ρ o h a = absurd h
  plains Code.add m C ws p (y ∷ []) ρ o h a = absurd h
  plains Code.add m C ws p (y ∷ x ∷ T) ρ o h a = both Code.add m C ws p x y T ρ o a Add refl (apply Words.add x y) refl refl h.1
  plains Code.sub m C ws p [] ρ o h a = absurd h
  plains Code.sub m C ws p (y ∷ []) ρ o h a = absurd h
  plains Code.sub m C ws p (y ∷ x ∷ T) ρ o h a = both Code.sub m C ws p x y T ρ o a Sub refl (apply Words.sub x y) refl refl h.1
  plains Code.mul m C ws p [] ρ o h a = absurd h
  plains Code.mul m C ws p (y ∷ []) ρ o h a = absurd h
  plains Code.mul m C ws p (y ∷ x ∷ T) ρ o h a = both Code.mul m C ws p x y T ρ o a Mul refl (apply Words.mul x y) refl refl h.1
  plains Code.div m C ws p [] ρ o h a = absurd h
  plains Code.div m C ws p (y ∷ []) ρ o h a = absurd h
  plains Code.div m C ws p (y ∷ x ∷ T) ρ o h a = divided Code.div m C ws p x y T ρ o a Div refl (apply Words.div x y) refl refl h.1
  plains Code.rem m C ws p [] ρ o h a = absurd h
  plains Code.rem m C ws p (y ∷ []) ρ o h a = absurd h
  plains Code.rem m C ws p (y ∷ x ∷ T) ρ o h a = divided Code.rem m C ws p x y T ρ o a Mod refl (apply Words.rem x y) refl refl h
  plains Code.eq m C ws p [] ρ o h a = absurd h
  plains Code.eq m C ws p (y ∷ []) ρ o h a = absurd h
  plains Code.eq m C ws p (y ∷ x ∷ T) ρ o h a =
      both Code.eq m C ws p x y T ρ o a Eq refl (flag (eq_z x y)) refl
      (ap (λ (z : ℤ). topped (state_at board ws p (y ∷ x ∷ T) ρ) (suc (suc (length T)) - 2) z (past (registers_at p ρ) 0)) (flag_same _ ∙ ap flag (equal_same x y))) h
  plains Code.lt m C ws p [] ρ o h a = absurd h
  plains Code.lt m C ws p (y ∷ []) ρ o h a = absurd h
  plains Code.lt m C ws p (y ∷ x ∷ T) ρ o h a =
      both Code.lt m C ws p x y T ρ o a Lt refl (flag (lt_z x y)) refl
      (ap (λ (z : ℤ). topped (state_at board ws p (y ∷ x ∷ T) ρ) (suc (suc (length T)) - 2) z (past (registers_at p ρ) 0)) (flag_same (lt_z x y))) h
  plains Code.not m C ws p [] ρ o h a = absurd h
  plains Code.not m C ws p (x ∷ T) ρ o h a =
      one Code.not m C ws p x T ρ o a Not refl (flag (is_zero x)) (clear (Code.plain Code.not m) C ws p (x ∷ T) ρ 1 0 (omega arith) (omega arith))
      (ap (λ (z : ℤ). topped (state_at board ws p (x ∷ T) ρ) (suc (length T) - 1) z (past (registers_at p ρ) 0)) (flag_same _ ∙ ap flag (zero_same x))) h
  plains Code.dup m C ws p [] ρ o h a = absurd h
  plains Code.dup m C ws p (x ∷ T) ρ o h a =
      let l = h.0 in
      let g = a.high in
      tops P cap limit board (Code.plain Code.dup m) C ws p (x ∷ T) ρ a (omega arith) Dup o 0 (suc (length T)) x (x ∷ T) refl
      (clear (Code.plain Code.dup m) C ws p (x ∷ T) ρ 1 1 (omega arith) (omega arith)) refl refl refl l a.holds (λ b. done C _ _ _ ρ o h.1 b)
  plains Code.swap m C ws p [] ρ o h a = absurd h
  plains Code.swap m C ws p (y ∷ []) ρ o h a = absurd h
  plains Code.swap m C ws p (y ∷ x ∷ T) ρ o h a = swaps m C ws p x y T ρ o h a
  plains Code.ldi m C ws p [] ρ o h a = absurd h
  plains Code.ldi m C ws p (pos j ∷ T) ρ o h a =
      let l = h.0 in
      one Code.ldi m C ws p (pos j) T ρ o a Ldi refl (fetch T j) (reached (Code.plain Code.ldi m) C ws p (pos j ∷ T) ρ 1 j (omega arith) (omega arith))
      (ap (λ (z : ℤ). topped (state_at board ws p (pos j ∷ T) ρ) (suc (length T) - 1) z (past (registers_at p ρ) 0))
      (a.holds j (omega arith) ∙ fetch_under (pos j) T j l)) h.1
  plains Code.ldi m C ws p (negsuc j ∷ T) ρ o h a =
      ends_at P cap limit board (Code.plain Code.ldi m) C ws p (negsuc j ∷ T) ρ a (omega arith) Ldi IndexOutside o m refl
      (passes (Rules.owning 0 1 (Some IndexOutside)) (sees (Code.plain Code.ldi m) C ws p (negsuc j ∷ T) ρ) (page board ρ) (Some IndexOutside) (omega arith) refl (omega arith) refl) refl refl h
  plains Code.sti m C ws p [] ρ o h a = absurd h
  plains Code.sti m C ws p (x ∷ []) ρ o h a = absurd h
  plains Code.sti m C ws p (x ∷ y ∷ T) ρ o h a =
      subst (λ (z : ℤ). At P cap limit board (Code.plain Code.sti m ∷ C) ws p (x ∷ z ∷ T) ρ → Does P cap limit board (state_at board ws p (x ∷ z ∷ T) ρ) o)
      (sym h.1) (stores m C ws p x h.0 T ρ o h.2 h.3) a
  plains Code.getbp m C ws p S ρ o h a =
      let l = h.0 in
      let g = a.high in
      tops P cap limit board (Code.plain Code.getbp m) C ws p S ρ a (omega arith) GetBp o 0 (length S) (pos ρ.base) S refl
      (clear (Code.plain Code.getbp m) C ws p S ρ 0 1 (omega arith) (omega arith)) refl refl refl l a.holds (λ b. done C _ _ _ ρ o h.1 b)
  plains Code.printi m C ws p [] ρ o h a = absurd h
  plains Code.printi m C ws p (x ∷ T) ρ o h a = prints m C ws p x T ρ o (page board ρ) refl h a

  -- INCSP -1
  pub pops : (m : ℕ) (C : Code) (ws : List ℤ) (p : ℕ) (x : ℤ) (T : List ℤ) (ρ : Rest) (o : Finish) → EndsIn P cap limit board k C T ρ o
      → At P cap limit board (Code.pop m ∷ C) ws p (x ∷ T) ρ → Does P cap limit board (state_at board ws p (x ∷ T) ρ) o
  pops m C ws p x T ρ o q a =
      let e = a.place in
      let l = a.low in
      let used : suc (length T) + 0 - 1 ≡ length T = omega arith in
      let same = sym (paste_none ws (suc (length T)) []) in
      goes_on P cap limit board (Code.pop m) C ws p (x ∷ T) ρ a (omega arith) IncSp o ws (p + 2) T ρ refl
      (passes (Rules.plain 1 1 0) (sees (Code.pop m) C ws p (x ∷ T) ρ) (page board ρ) None (omega arith) refl (omega arith) (roomy 0 (sees (Code.pop m) C ws p (x ∷ T) ρ) (page board ρ) (omega arith)))
      (λ i. state (same i) (used i) (showing board ρ.out) (registers_at (p + 2) ρ))
      (kept_same cap ws)
      (done C ws (p + 2) T ρ o q
      (next P cap limit board (Code.pop m) C ws p (x ∷ T) ρ a (omega arith) ws T ρ a.backs (holds_under ws x T a.holds) (omega arith) refl))
