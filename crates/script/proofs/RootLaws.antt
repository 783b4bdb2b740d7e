-- Climbing from a node to the top of its tree.
use Rattle.std.proofs.Common.{◌≡◌, ℕ, zero, suc, ◌<◌, ◌≤◌, List, length, ℤ, pos, Some, None, Option, sym, refl, ap, ◌∙◌, ⊎_elim, arith}
use native.Mathlib.Decide.{le_ind}
use Rattle.std.proofs.lemmas.Bool.{cond-true, cond-false, eq-eqb, ne_eqb, lt-ltb, le-ltb, cases_lt}
use Rattle.script.specs.declared.Node.{Node}
use Rattle.script.specs.declared.kinds.Sort.{Sort}
use Rattle.script.specs.Kinds.{node_at}
use Rattle.script.specs.Scope.{climbed, climb, root_of}
use Rattle.script.specs.Shaped.{Child, Children}
use Rattle.script.specs.Sound.{ChildOf, by_a, by_b, by_c}
use Rattle.script.specs.Uses.{uses, child_uses}

-- a field that is the child m counts it
use_counts : (w : Option Sort) (x : ℤ) (s : Sort) (m : ℕ) → w ≡ Some s → x ≡ pos m → uses w x m ≡ 1
use_counts w x s m e q = ap (λ o. uses o x m) e ∙ ap (λ z. uses (Some s) z m) q ∙ cond-true _ _ _ (eq-eqb m m refl)

pub child-counts : (xs : List Node) (n m : ℕ) → ChildOf xs n m → 0 < child_uses (node_at xs n) m
unfolding child_uses
child-counts xs n m (by_a s e q) = omega (arith, use_counts _ _ s m e q)
child-counts xs n m (by_b s e q) = omega (arith, use_counts _ _ s m e q)
child-counts xs n m (by_c s e q) = omega (arith, use_counts _ _ s m e q)

-- a field whose child is below q does not count a node from q on
use_below : (xs : List Node) (q : ℕ) (w : Option Sort) (x : ℤ) (m : ℕ) → ((s : Sort) → w ≡ Some s → Child xs q x s) → q ≤ m → uses w x m ≡ 0
use_below xs q None x m h l = refl
use_below xs q (Some s) x m h l =
    let k = h s refl in
    ap (λ z. uses (Some s) z m) k.1 ∙ cond-false _ _ _ (ne_eqb k.0 m (λ e. omega (arith, k.2, e)))

module _ (xs : List Node) (children : Children xs) where
  -- no node has a child from its own number on
  pub none_above : (q m : ℕ) → q < length xs → q ≤ m → child_uses (node_at xs q) m ≤ 0
  unfolding child_uses
  none_above q m h l =
      omega (arith, use_below xs q _ (node_at xs q).a m (children.in_a q h) l, use_below xs q _ (node_at xs q).b m (children.in_b q h) l, use_below xs q _ (node_at xs q).c m (children.in_c q h) l)

module _ (xs : List Node) where
  climb_moves : (n k r : ℕ) → climb xs n k ≡ r → 0 < child_uses (node_at xs k) r → climb xs n (suc k) ≡ k
  unfolding climb
  climb_moves n k r e h = ap (climbed (node_at xs k) k) e ∙ cond-true _ _ _ (lt-ltb _ _ h)

  climb_stays : (n k r : ℕ) → climb xs n k ≡ r → child_uses (node_at xs k) r ≤ 0 → climb xs n (suc k) ≡ r
  unfolding climb
  climb_stays n k r e h = ap (climbed (node_at xs k) k) e ∙ cond-false _ _ _ (le-ltb _ _ h)

  climb_starts : (n : ℕ) → climb xs n 0 ≡ n
  unfolding climb
  climb_starts n = refl

  -- nothing on the way has the node as a child
  pub climb_rests : (n k : ℕ) → ((q : ℕ) → q < k → child_uses (node_at xs q) n ≤ 0) → climb xs n k ≡ n
  climb_rests n zero h = climb_starts n
  climb_rests n (suc k) h = climb_stays n k n (climb_rests n k (λ q l. h q (omega arith))) (h k (omega arith))

  -- two climbs that have met go on together
  climb_together : (m n i : ℕ) → climb xs m i ≡ climb xs n i → (k : ℕ) → i ≤ k → climb xs m k ≡ climb xs n k
  unfolding climb
  climb_together m n i e k h = le_ind (λ j. climb xs m j ≡ climb xs n j) e (λ j l q. ap (climbed (node_at xs j) j) q) k h

  -- a child's climb and its parent's meet at the parent
  pub climb_meets : (children : Children xs) (n m : ℕ) → n < length xs → 0 < child_uses (node_at xs n) m → ((q : ℕ) → q < n → child_uses (node_at xs q) m ≤ 0) → root_of xs m ≡ root_of xs n
  climb_meets children n m h u alone =
      let a = climb_moves m n m (climb_rests m n alone) u in
      let b = climb_rests n (suc n) (λ q l. none_above xs children q n (omega arith) (omega arith)) in
      climb_together m n (suc n) (a ∙ sym b) (length xs) h

  -- where a climb has come to, no node on the way has as a child
  pub climb_leaves : (children : Children xs) (n k : ℕ) → k ≤ length xs → (q : ℕ) → q < k → child_uses (node_at xs q) (climb xs n k) ≤ 0
  climb_leaves children n zero h q l = absurd (omega arith)
  climb_leaves children n (suc k) h q l =
      ⊎_elim
      (λ u. rw (climb_moves n k (climb xs n k) refl u) (none_above xs children q k (omega arith) (omega arith)))
      (λ u. rw (climb_stays n k (climb xs n k) refl u)
      (⊎_elim (λ z. climb_leaves children n k (omega arith) q z) (λ z. let e : q ≡ k = omega arith in rw e u) (cases_lt q k)))
      (cases_lt 0 (child_uses (node_at xs k) (climb xs n k)))

  -- a climb stays in the table
  pub climb_within : (n k : ℕ) → n < length xs → k ≤ length xs → climb xs n k < length xs
  climb_within n zero h l = rw (climb_starts n) h
  climb_within n (suc k) h l =
      ⊎_elim
      (λ u. rw (climb_moves n k (climb xs n k) refl u) (omega arith))
      (λ u. rw (climb_stays n k (climb xs n k) refl u) (climb_within n k h (omega arith)))
      (cases_lt 0 (child_uses (node_at xs k) (climb xs n k)))
