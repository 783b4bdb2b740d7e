-- Turns and depth, where the second run of a part goes past the first.
use Rattle.std.proofs.Common.{◌≡◌, ℕ, suc, ◌+◌, ◌-◌, ◌<◌, ◌≤◌, Bool, true, false, ltb, ◌⊎◌, List, [], ◌++◌, ℤ, sym, refl, ap, ◌∙◌, inl, inr, append-nil, arith}
use Rattle.std.proofs.lemmas.Bool.{ltb-true, ltb-false}
use Rattle.answer.specs.declared.Ending.TheVariants.{NoTurnLeft, TooDeep}
use Rattle.meaning.specs.Steps.{State, Out, fine, ◌then◌, guard, spend, descend, with_left, with_depth}
use Rattle.meaning.proofs.Follows.{Wider, Past, Follows, stops, short, Keeps}
use Rattle.meaning.proofs.Onward.{final, Short, Onward, quietly, stay, on, Grows}

module _ {w : Wider} where
  -- the second run went on alone from a state in which it had used more
  past_by : {A : Type 0} (s t : State) (m : Out A) → Onward w.high t (final m) → t.readings ≡ s.readings → (0 < w.extra) ⊎ (w.low < w.high) → (t.left < w.extra) ⊎ (w.low < t.deepest) → Past w s m
  past_by s t m h same roomier used =
      record { roomier = roomier; later = h.later; readings = h.readings ∙ ap (λ (rs : List ℤ). rs ++ h.later) same; used = go used h.turns h.depth }
    where
      go : (t.left < w.extra) ⊎ (w.low < t.deepest) → (final m).left ≤ t.left → t.deepest ≤ (final m).deepest → ((final m).left < w.extra) ⊎ ((w.low < (final m).deepest) ⊎ Short m)
      go (inl u) a b = inl (omega arith)
      go (inr u) a b = inr (inl (omega arith))

  module _ {A : Type 0} (b n : ℕ) {g g' : State → Out A} (p : Keeps w b g g') where
    -- after a turn, which may be the first's last
    abbrev Paid : Bool → (State → Out A) → State → Out A
    Paid t f s = guard t NoTurnLeft n s then (λ _ s₁. fine (tt {0}) (with_left s₁ (s₁.left - 1))) then λ _ s₁. f s₁

    grows_paid : (limit : ℕ) (f : State → Out A) → Grows limit f → (s : State) (t : Bool) → Onward limit s (final (Paid t f s))
    grows_paid limit f h s false = stay
    grows_paid limit f h s true = on (quietly (omega arith) (omega arith) (λ q. q) refl) (h (with_left s (s.left - 1)))

    follows_paid : (s : State) (l : ℕ) → s.left < suc b → l ≡ s.left + w.extra → (t t' : Bool) → ltb 0 s.left ≡ t → ltb 0 l ≡ t' → Follows w (Paid t g s) (Paid t' g' (with_left s l))
    follows_paid s l lt e true true x y = let h = ltb-true 0 s.left x in p.pair (with_left s (s.left - 1)) (l - 1) (omega arith) (omega arith)
    follows_paid s l lt e true false x y = let h = ltb-true 0 s.left x in let h' = ltb-false 0 l y in absurd (omega arith)
    follows_paid s l lt e false false x y = stops l e
    follows_paid s l lt e false true x y =
        let h = ltb-false 0 s.left x in
        let h' = ltb-true 0 l y in
        short (inl refl) (past_by s (with_left s (l - 1)) _ (p.second (with_left s (l - 1))) refl (inl (omega arith)) (inl (omega arith)))

    pub spends : Keeps w (suc b) (λ s. spend n s then λ _ s₁. g s₁) (λ s. spend n s then λ _ s₁. g' s₁)
    spends =
        record {
          first = λ s. grows_paid w.low g p.first s (ltb 0 s.left);
          second = λ s. grows_paid w.high g' p.second s (ltb 0 s.left);
          pair = λ s l lt e. follows_paid s l lt e (ltb 0 s.left) (ltb 0 l) refl refl;
        }

    -- after a turn and one deeper
    abbrev Deeper : Bool → Bool → ℕ → (State → Out A) → State → Out A
    Deeper t r d f s =
        guard t NoTurnLeft n s then (λ _ s₁. guard r TooDeep n s₁ then λ _ s₂. fine (tt {0}) (with_depth (with_left s₂ (s₂.left - 1)) (suc d)))
        then λ _ s₁. f s₁

    grows_deeper : (limit d : ℕ) (f : State → Out A) → Grows limit f → (s : State) (t r : Bool) → ltb d limit ≡ r → Onward limit s (final (Deeper t r d f s))
    grows_deeper limit d f h s false r x = stay
    grows_deeper limit d f h s true false x = stay
    grows_deeper limit d f h s true true x =
        let q = ltb-true d limit x in
        on (quietly (omega arith) (omega arith) (λ h₁. omega arith) refl)
        (h (with_depth (with_left s (s.left - 1)) (suc d)))

    follows_deeper : (d : ℕ) (s : State) (l : ℕ) → s.left < suc b → l ≡ s.left + w.extra → (t t' r r' : Bool) → ltb 0 s.left ≡ t → ltb 0 l ≡ t' → ltb d w.low ≡ r → ltb d w.high ≡ r'
        → Follows w (Deeper t r d g s) (Deeper t' r' d g' (with_left s l))
    follows_deeper d s l lt e true false r r' x y z z' = let h = ltb-true 0 s.left x in let h' = ltb-false 0 l y in absurd (omega arith)
    follows_deeper d s l lt e false false r r' x y z z' = stops l e
    follows_deeper d s l lt e false true r false x y z z' =
        let h = ltb-false 0 s.left x in
        let h' = ltb-true 0 l y in
        short (inl refl) (record { roomier = inl (omega arith); later = []; readings = sym (append-nil s.readings); used = inr (inr (inr refl)) })
    follows_deeper d s l lt e false true r true x y z z' =
        let h = ltb-false 0 s.left x in
        let h' = ltb-true 0 l y in
        let t = with_depth (with_left s (l - 1)) (suc d) in
        short (inl refl) (past_by s t _ (p.second t) refl (inl (omega arith)) (inl (omega arith)))
    follows_deeper d s l lt e true true false false x y z z' = stops l e
    follows_deeper d s l lt e true true true false x y z z' = let h = ltb-true d w.low z in let h' = ltb-false d w.high z' in absurd (omega arith)
    follows_deeper d s l lt e true true false true x y z z' =
        let h = ltb-false d w.low z in
        let h' = ltb-true d w.high z' in
        let t = with_depth (with_left s (l - 1)) (suc d) in
        short (inr refl) (past_by s t _ (p.second t) refl (inr (omega arith)) (inr (omega arith)))
    follows_deeper d s l lt e true true true true x y z z' =
        let h = ltb-true 0 s.left x in
        p.pair (with_depth (with_left s (s.left - 1)) (suc d)) (l - 1) (omega arith) (omega arith)

    pub descends : (d : ℕ) → Keeps w (suc b) (λ s. descend w.low d n s then λ _ s₁. g s₁) (λ s. descend w.high d n s then λ _ s₁. g' s₁)
    descends d =
        record {
          first = λ s. grows_deeper w.low d g p.first s (ltb 0 s.left) (ltb d w.low) refl;
          second = λ s. grows_deeper w.high d g' p.second s (ltb 0 s.left) (ltb d w.high) refl;
          pair = λ s l lt e. follows_deeper d s l lt e (ltb 0 s.left) (ltb 0 l) (ltb d w.low) (ltb d w.high) refl refl refl refl;
        }
