-- What each way of writing to the stack memory leaves: which words it holds then, and that the words from `cap` on stay.
use Rattle.std.proofs.Common.{◌≡◌, ℕ, ◌+◌, ◌-◌, ◌<◌, ◌≤◌, ◌⊎◌, List, ◌∷◌, length, get_or, take, drop, set, ℤ, pos, sym, refl, ap, ◌∙◌, subst, inl, inr, arith}
use lib.Seq.{paste}
use Rattle.std.proofs.lemmas.Bool.{cases_lt, cases_eq}
use Rattle.std.proofs.lemmas.List.{length-set, length-drop, length-take-le, get_or-set_same, get_or-set_other, get_or-take, get_or-drop, get_or_append_left, get_or-append_right, drop-set-lt, drop-drop}
use Rattle.std.proofs.lemmas.List.Edits.{length-paste, take-paste, drop-paste}
use Rattle.stack.specs.Entries.{opened, closed}
use Rattle.symbolic.specs.Symbolic.{onto, fetch, store}
use Rattle.translation.specs.Translated.{Holds}
use Rattle.translation.proofs.Reading.{fetch_top, fetch_under, length-onto, fetch-below, fetch_pushed, length-store, fetch_stored, fetch_apart}

-- memory of the same length, with the same words from `cap` on
abbrev pub Kept : ℕ → List ℤ → List ℤ → Type 0
Kept cap ws us = (length us ≡ length ws) × (drop cap us ≡ drop cap ws)

pub kept_same : (cap : ℕ) (ws : List ℤ) → Kept cap ws ws
kept_same cap ws = (refl, refl)

pub kept_trans : (cap : ℕ) (ws us vs : List ℤ) → Kept cap ws us → Kept cap us vs → Kept cap ws vs
kept_trans cap ws us vs h g = (g.0 ∙ h.0, g.1 ∙ h.1)

pub kept_set : (cap : ℕ) (ws : List ℤ) (a : ℕ) (x : ℤ) → a < cap → Kept cap ws (set ws a x)
kept_set cap ws a x h = (length-set ws a x, drop-set-lt cap ws a x h)

pub kept_paste : (cap : ℕ) (ws : List ℤ) (at : ℕ) (s : List ℤ) (n : ℕ) → at + n ≤ cap → cap ≤ length ws → n ≤ length s → Kept cap ws (paste ws at s n)
kept_paste cap ws at s n h l m =
    let e : (at + n) + (cap - (at + n)) ≡ cap = omega arith in (
      length-paste ws at s n (omega arith) m,
      subst (λ (c : ℕ). drop c (paste ws at s n) ≡ drop c ws) e
          (sym (drop-drop (cap - (at + n)) (at + n) (paste ws at s n))
          ∙ (ap (drop (cap - (at + n))) (drop-paste ws at s n (omega arith) m) ∙ drop-drop (cap - (at + n)) (at + n) ws)),
    )

-- a word written at n is read there, and nowhere else
set_same : (ws : List ℤ) (n a : ℕ) (x : ℤ) → a ≡ n → n < length ws → get_or (set ws n x) a (pos 0) ≡ x
set_same ws n a x e h = ap (λ (b : ℕ). get_or (set ws n x) b (pos 0)) e ∙ get_or-set_same ws n x (pos 0) h

-- what is read from a pasted block, and before it
paste_before : (ws : List ℤ) (at : ℕ) (s : List ℤ) (n a : ℕ) → at + n ≤ length ws → n ≤ length s → a < at → get_or (paste ws at s n) a (pos 0) ≡ get_or ws a (pos 0)
paste_before ws at s n a h m l =
    let t = length-take-le at ws (omega arith) in
    sym (get_or-take (at + n) (paste ws at s n) a (pos 0) (omega arith))
    ∙ (ap (λ (us : List ℤ). get_or us a (pos 0)) (take-paste ws at s n (omega arith) m)
    ∙ (get_or_append_left (take at ws) (take n s) (pos 0) a (omega arith) ∙ get_or-take at ws a (pos 0) l))

paste_inside : (ws : List ℤ) (at : ℕ) (s : List ℤ) (n k a : ℕ) → at + n ≤ length ws → n ≤ length s → a ≡ at + k → k < n → get_or (paste ws at s n) a (pos 0) ≡ get_or s k (pos 0)
paste_inside ws at s n k a h m e l =
    let t = length-take-le at ws (omega arith) in
    let z : a - at ≡ k = omega arith in
    sym (get_or-take (at + n) (paste ws at s n) a (pos 0) (omega arith))
    ∙ (ap (λ (us : List ℤ). get_or us a (pos 0)) (take-paste ws at s n (omega arith) m)
    ∙ (get_or-append_right (take at ws) (take n s) at a (pos 0) t (omega arith)
    ∙ (ap (λ (b : ℕ). get_or (take n s) b (pos 0)) z ∙ get_or-take n s k (pos 0) l)))

-- the top word, and the words under it
pub holds_top : (ws : List ℤ) (x : ℤ) (T : List ℤ) → Holds ws (x ∷ T) → get_or ws (length T) (pos 0) ≡ x
holds_top ws x T h = h (length T) (omega arith) ∙ fetch_top x T (length T) refl

pub holds_under : (ws : List ℤ) (x : ℤ) (T : List ℤ) → Holds ws (x ∷ T) → Holds ws T
holds_under ws x T h a l = h a (omega arith) ∙ fetch_under x T a l

pub holds-below : (ws vs T : List ℤ) → Holds ws (onto vs T) → Holds ws T
holds-below ws vs T h a l = h a (let z = length-onto vs T in omega arith) ∙ fetch-below vs T a l

pub holds_pushed : (ws vs T : List ℤ) (k a : ℕ) → Holds ws (onto vs T) → a ≡ length T + k → k < length vs → get_or ws a (pos 0) ≡ get_or vs k (pos 0)
holds_pushed ws vs T k a h e l = h a (let z = length-onto vs T in omega arith) ∙ fetch_pushed vs T k a e l

-- a word pushed
pub holds_push : (ws T : List ℤ) (n : ℕ) (x : ℤ) → n ≡ length T → n < length ws → Holds ws T → Holds (set ws n x) (x ∷ T)
holds_push ws T n x e l h a k = go (cases_eq a n)
  where
    go : (a ≡ n) ⊎ (a ≡ n → ⊥) → get_or (set ws n x) a (pos 0) ≡ fetch (x ∷ T) a
    go (inl q) = set_same ws n a x q l ∙ sym (fetch_top x T a (omega arith))
    go (inr q) = get_or-set_other ws n a x (pos 0) q ∙ (h a (omega arith) ∙ sym (fetch_under x T a (omega arith)))

-- a word stored
pub holds-store : (ws S : List ℤ) (a : ℕ) (v : ℤ) → a < length S → length S ≤ length ws → Holds ws S → Holds (set ws a v) (store S a v)
holds-store ws S a v l m h b k = go (cases_eq b a) (length-store S a v)
  where
    go : (b ≡ a) ⊎ (b ≡ a → ⊥) → length (store S a v) ≡ length S → get_or (set ws a v) b (pos 0) ≡ fetch (store S a v) b
    go (inl q) z = set_same ws a b v q (omega arith) ∙ (sym (fetch_stored S a v l) ∙ ap (fetch (store S a v)) (sym q))
    go (inr q) z = get_or-set_other ws a b v (pos 0) q ∙ (h b (omega arith) ∙ sym (fetch_apart S a b v q (omega arith)))

-- a block pasted on top
pub holds_paste : (ws s vs T : List ℤ) (n m : ℕ) → n ≡ length T → m ≡ length vs → n + m ≤ length ws → m ≤ length s
    → ((k : ℕ) → k < m → get_or s k (pos 0) ≡ get_or vs k (pos 0)) → Holds ws T → Holds (paste ws n s m) (onto vs T)
holds_paste ws s vs T n m e f l ms r h a k = go (cases_lt a n) (length-onto vs T)
  where
    go : (a < n) ⊎ (n ≤ a) → length (onto vs T) ≡ length vs + length T → get_or (paste ws n s m) a (pos 0) ≡ fetch (onto vs T) a
    go (inl q) z = paste_before ws n s m a l ms q ∙ (h a (omega arith) ∙ sym (fetch-below vs T a (omega arith)))
    go (inr q) z =
        paste_inside ws n s m (a - n) a l ms (omega arith) (omega arith)
        ∙ (r (a - n) (omega arith) ∙ sym (fetch_pushed vs T (a - n) a (omega arith) (omega arith)))

-- a call: two words put in under its arguments
opened_at : (ws : List ℤ) (used m n : ℕ) (x y : ℤ) → used - m ≡ n → opened ws used m x y ≡ set (set (paste ws (n + 2) (drop n ws) m) n x) (n + 1) y
unfolding opened
opened_at ws used m n x y e = ap (λ (b : ℕ). set (set (paste ws (b + 2) (drop b ws) m) b x) (b + 1) y) e

module _ (ws vs T : List ℤ) (m n : ℕ) (x y : ℤ) (e : n ≡ length T) (f : m ≡ length vs) (l : n + m + 2 ≤ length ws) where
  abbrev spread : List ℤ
  spread = paste ws (n + 2) (drop n ws) m

  length_spread : length spread ≡ length ws
  length_spread = length-paste ws (n + 2) (drop n ws) m (omega arith) (let z = length-drop n ws in omega arith)

  -- away from the two words, the set of both changes nothing
  apart : (a : ℕ) → (a ≡ n → ⊥) → (a ≡ n + 1 → ⊥) → get_or (set (set spread n x) (n + 1) y) a (pos 0) ≡ get_or spread a (pos 0)
  apart a p q = get_or-set_other (set spread n x) (n + 1) a y (pos 0) q ∙ get_or-set_other spread n a x (pos 0) p

  holds_spread : Holds ws (onto vs T) → Holds (set (set spread n x) (n + 1) y) (onto vs (y ∷ x ∷ T))
  holds_spread h a k = go (cases_lt a n) (cases_eq a n) (cases_eq a (n + 1)) (length-onto vs (y ∷ x ∷ T)) (length-onto vs T) (length-drop n ws) length_spread
    where
      deep : a < n → fetch (onto vs (y ∷ x ∷ T)) a ≡ fetch T a
      deep p = fetch-below vs (y ∷ x ∷ T) a (omega arith) ∙ (fetch_under y (x ∷ T) a (omega arith) ∙ fetch_under x T a (omega arith))

      go : (a < n) ⊎ (n ≤ a) → (a ≡ n) ⊎ (a ≡ n → ⊥) → (a ≡ n + 1) ⊎ (a ≡ n + 1 → ⊥)
          → length (onto vs (y ∷ x ∷ T)) ≡ length vs + length (y ∷ x ∷ T) → length (onto vs T) ≡ length vs + length T
          → length (drop n ws) ≡ length ws - n → length spread ≡ length ws
          → get_or (set (set spread n x) (n + 1) y) a (pos 0) ≡ fetch (onto vs (y ∷ x ∷ T)) a
      go (inl p) q r z u d s =
          apart a (λ i. omega arith) (λ i. omega arith)
          ∙ (paste_before ws (n + 2) (drop n ws) m a (omega arith) (omega arith) (omega arith)
          ∙ (holds-below ws vs T h a (omega arith) ∙ sym (deep p)))
      go (inr p) (inl q) r z u d s =
          get_or-set_other (set spread n x) (n + 1) a y (pos 0) (λ i. omega arith)
          ∙ (set_same spread n a x q (omega arith)
          ∙ sym (fetch-below vs (y ∷ x ∷ T) a (omega arith) ∙ (fetch_under y (x ∷ T) a (omega arith) ∙ fetch_top x T a (omega arith))))
      go (inr p) (inr q) (inl r) z u d s =
          let v = length-set spread n x in
          set_same (set spread n x) (n + 1) a y r (omega arith)
          ∙ sym (fetch-below vs (y ∷ x ∷ T) a (omega arith) ∙ fetch_top y (x ∷ T) a (omega arith))
      go (inr p) (inr q) (inr r) z u d s =
          let b : (a ≡ n → ⊥) = q in
          let c : (a ≡ n + 1 → ⊥) = r in
          let j : a ≡ (n + 2) + (a - (n + 2)) = omega arith in
          apart a q r
          ∙ (paste_inside ws (n + 2) (drop n ws) m (a - (n + 2)) a (omega arith) (omega arith) j (omega arith)
          ∙ (get_or-drop n ws (a - (n + 2)) (pos 0)
          ∙ (holds_pushed ws vs T (a - (n + 2)) (n + (a - (n + 2))) h (omega arith) (omega arith)
          ∙ sym (fetch_pushed vs (y ∷ x ∷ T) (a - (n + 2)) a (omega arith) (omega arith)))))

  pub holds_opened : (used : ℕ) → used ≡ n + m → Holds ws (onto vs T) → Holds (opened ws used m x y) (onto vs (y ∷ x ∷ T))
  holds_opened used u h = subst (λ (us : List ℤ). Holds us (onto vs (y ∷ x ∷ T))) (sym (opened_at ws used m n x y (omega arith))) (holds_spread h)

  pub kept_opened : (cap used : ℕ) → used ≡ n + m → used + 2 ≤ cap → cap ≤ length ws → Kept cap ws (opened ws used m x y)
  kept_opened cap used u c d =
      let z = length-drop n ws in
      subst (Kept cap ws) (sym (opened_at ws used m n x y (omega arith)))
      (kept_trans cap ws spread _ (kept_paste cap ws (n + 2) (drop n ws) m (omega arith) d (omega arith))
      (kept_trans cap spread (set spread n x) _ (kept_set cap spread n x (omega arith)) (kept_set cap (set spread n x) (n + 1) y (omega arith))))

-- a replacing call: its arguments moved down over the words of its caller
closed_at : (ws : List ℤ) (used m j n : ℕ) → used ≡ n + j + m → closed ws used m j ≡ paste ws n (drop (n + j) ws) m
unfolding closed
closed_at ws used m j n e =
    let p : used - m - j ≡ n = omega arith in
    let q : used - m ≡ n + j = omega arith in
    ap (λ (b : ℕ). paste ws b (drop (used - m) ws) m) p ∙ ap (λ (b : ℕ). paste ws n (drop b ws) m) q

module _ (ws vs L T : List ℤ) (used m j n : ℕ) (e : n ≡ length T) (f : m ≡ length vs) (g : j ≡ length L) (u : used ≡ n + j + m) (l : used ≤ length ws) where
  pub holds_closed : Holds ws (onto vs (onto L T)) → Holds (closed ws used m j) (onto vs T)
  holds_closed h =
      let z = length-drop (n + j) ws in
      let y = length-onto L T in
      subst (λ (us : List ℤ). Holds us (onto vs T)) (sym (closed_at ws used m j n u))
      (holds_paste ws (drop (n + j) ws) vs T n m e f (omega arith) (omega arith)
      (λ k q. get_or-drop (n + j) ws k (pos 0) ∙ holds_pushed ws vs (onto L T) k (n + j + k) h (omega arith) (omega arith))
      (holds-below ws L T (holds-below ws vs (onto L T) h)))

  pub kept_closed : (cap : ℕ) → used ≤ cap → cap ≤ length ws → Kept cap ws (closed ws used m j)
  kept_closed cap c d =
      let z = length-drop (n + j) ws in
      subst (Kept cap ws) (sym (closed_at ws used m j n u)) (kept_paste cap ws n (drop (n + j) ws) m (omega arith) d (omega arith))
