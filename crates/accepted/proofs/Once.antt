-- No two whiles have one number: every node is used once, so that a climb from the while w passes one node at a time.
use Rattle.std.proofs.Common.{◌≡◌, ℕ, zero, suc, ◌+◌, ◌<◌, ◌≤◌, true, eqb, List, [], ◌∷◌, length, get_or, ℤ, pos, sym, refl, ap, ◌∙◌, ⊎_elim, arith}
use Rattle.std.proofs.lemmas.List.Sums.{get_or-le-sum_by}
use Rattle.std.proofs.lemmas.Bool.{cases_eq, cases_lt, cases_Bool, eqb-true, eq-eqb, cond-true}
use Rattle.script.specs.declared.Function.{Function as Row}
use Rattle.script.specs.declared.Node.{Node}
use Rattle.script.specs.Kinds.{no_node, node_at, kind_at, want_a, want_b, want_c}
use Rattle.script.specs.Scope.{climb, root_of, function_at, no_function}
use Rattle.script.specs.Sound.{ChildOf, by_a, by_b, by_c, Sound}
use Rattle.script.specs.Uses.{uses, child_uses}
use Rattle.script.proofs.RootLaws.{child-counts}
use Rattle.meaning.specs.Tree.{Function}
use Rattle.meaning.specs.Tables.{stmt_at, script_of}
use Rattle.meaning.specs.Meaning.{no_function as nothing}
use Rattle.meaning.proofs.Decodes
use Rattle.symbolic.specs.Proper.{plus, whiles, all_whiles, Distinct}
use Rattle.accepted.proofs.Kids.{pick_statement, is_statement}
use Rattle.accepted.proofs.Climbs.{moves, to_parent, to_body, at_itself}
use Rattle.accepted.proofs.Names.{as_many}

-- a sum of which at most one counts, and that one once
module _ (w : ℕ) where
  abbrev hits_of : Function → ℕ
  hits_of fn = whiles (eqb w) fn.body

  none_hit : (fns : List Function) → ((f : ℕ) → f < length fns → hits_of (get_or fns f nothing) ≤ 0) → all_whiles (eqb w) fns ≤ 0
  none_hit [] h = omega arith
  none_hit (fn ∷ fns) h = omega (arith, h 0 (omega arith), none_hit fns (λ f l. h (suc f) (omega arith)))

  one_hit : (fns : List Function) → ((f : ℕ) → f < length fns → hits_of (get_or fns f nothing) ≤ 1)
      → ((f g : ℕ) → f < length fns → g < length fns → 0 < hits_of (get_or fns f nothing) → 0 < hits_of (get_or fns g nothing) → f ≡ g) → all_whiles (eqb w) fns ≤ 1
  one_hit [] h alone = omega arith
  one_hit (fn ∷ fns) h alone =
      ⊎_elim
      (λ z. let rest = none_hit fns (λ f l. ⊎_elim (λ p. absurd (omega (arith, alone 0 (suc f) (omega arith) (omega arith) z p))) (λ p. p) (cases_lt 0 (hits_of (get_or fns f nothing)))) in omega (arith, h 0 (omega arith), rest))
      (λ z. omega (arith, z, one_hit fns (λ f l. h (suc f) (omega arith)) (λ f g l q a b. let e = alone (suc f) (suc g) (omega arith) (omega arith) a b in omega (arith, e))))
      (cases_lt 0 (hits_of fn))

module _ (fs : List Row) (gs : List ℕ) (xs : List Node) (sound : Sound fs gs xs) (w : ℕ) where
  abbrev hits : ℕ → ℕ
  hits n = whiles (eqb w) (stmt_at xs n)

  -- at most one while under n has the number w, and where there is one, the climb from w comes to n
  abbrev Once : ℕ → ℕ → Type 0
  Once n h = (h ≤ 1) × (0 < h → climb xs w (suc n) ≡ n)

  module _ (n : ℕ) (here : n < length xs) (below : (m : ℕ) → m < n → is_statement (kind_at xs m) ≡ true → Once m (hits m)) where
    abbrev Kid : ℤ → Type 0
    Kid x = (m : ℕ) × (x ≡ pos m) × (m < n) × (hits m ≤ 1) × (0 < hits m → climb xs w n ≡ m) × ChildOf xs n m

    kid : (x : ℤ) → ((m : ℕ) → x ≡ pos m → ChildOf xs n m) → ((m : ℕ) × (x ≡ pos m) × (m < n) × (is_statement (kind_at xs m) ≡ true)) → Kid x
    kid x c k =
        let child = c k.0 k.1 in
        let o = below k.0 k.2 k.3 in
        (k.0, k.1, k.2, o.0, λ p. to_parent fs gs xs sound w n k.0 here k.2 child (o.1 p), child)

    in_a : want_a (kind_at xs n) ≡ want_a 16 → Kid (node_at xs n).a
    in_a e = kid (node_at xs n).a (λ m q. by_a _ e q) (sound.shaped.children.in_a n here _ e)

    in_b : want_b (kind_at xs n) ≡ want_b 16 → Kid (node_at xs n).b
    in_b e = kid (node_at xs n).b (λ m q. by_b _ e q) (sound.shaped.children.in_b n here _ e)

    in_c : want_c (kind_at xs n) ≡ want_c 18 → Kid (node_at xs n).c
    in_c e = kid (node_at xs n).c (λ m q. by_c _ e q) (sound.shaped.children.in_c n here _ e)

    -- two fields of one node do not hold one child
    twice : (m : ℕ) → m < n → 2 ≤ child_uses (node_at xs n) m → ⊥
    twice m l two = omega (arith, two, get_or-le-sum_by (λ x. child_uses x m) xs n no_node here, sound.used m (omega arith))

    twice_ab : (m : ℕ) → m < n → kind_at xs n ≡ 16 → (node_at xs n).a ≡ pos m → (node_at xs n).b ≡ pos m → ⊥
    unfolding child_uses
    twice_ab m l k p q =
        let one = cond-true {A = ℕ} (eqb m m) 1 0 (eq-eqb m m refl) in
        let x : uses (want_a (kind_at xs n)) (node_at xs n).a m ≡ 1 = rw (k, p) one in
        let y : uses (want_b (kind_at xs n)) (node_at xs n).b m ≡ 1 = rw (k, q) one in
        twice m l (omega (arith, x, y))

    twice_bc : (m : ℕ) → m < n → kind_at xs n ≡ 18 → (node_at xs n).b ≡ pos m → (node_at xs n).c ≡ pos m → ⊥
    unfolding child_uses
    twice_bc m l k p q =
        let one = cond-true {A = ℕ} (eqb m m) 1 0 (eq-eqb m m refl) in
        let x : uses (want_b (kind_at xs n)) (node_at xs n).b m ≡ 1 = rw (k, p) one in
        let y : uses (want_c (kind_at xs n)) (node_at xs n).c m ≡ 1 = rw (k, q) one in
        twice m l (omega (arith, x, y))

    up : (y : ℤ) (b : Kid y) → 0 < hits b.0 → climb xs w (suc n) ≡ n
    up y b p = moves xs w n b.0 (b.4 p) (child-counts xs n b.0 b.5)

    -- two statements one after the other
    joined : (x y : ℤ) (a : Kid x) (b : Kid y) → (a.0 ≡ b.0 → ⊥) → Once n (hits a.0 + hits b.0)
    joined x y a b apart =
        ⊎_elim
        (λ p. ⊎_elim (λ q. absurd (apart (sym (a.4 p) ∙ b.4 q))) (λ q. (omega (arith, a.3, q), λ _. up x a p)) (cases_lt 0 (hits b.0)))
        (λ p. (omega (arith, b.3, p), λ z. up y b (omega (arith, z, p))))
        (cases_lt 0 (hits a.0))

    -- the while w itself: no other under it has its number, since the climb from w has not come to a child of w
    itself : (y : ℤ) (b : Kid y) → w ≡ n → Once n (suc (hits b.0))
    itself y b e =
        let still = at_itself xs sound.shaped.children n here in
        let rest : climb xs w n ≡ n = ap (λ (v : ℕ). climb xs v n) e ∙ still.0 in
        let quiet : hits b.0 ≤ 0 = ⊎_elim (λ p. absurd (omega (arith, b.4 p, rest, b.2))) (λ p. p) (cases_lt 0 (hits b.0)) in
        (omega (arith, quiet), λ _. ap (λ (v : ℕ). climb xs v (suc n)) e ∙ still.1)

    looped : (y : ℤ) (b : Kid y) → Once n (plus (eqb w n) (hits b.0))
    looped y b = ⊎_elim (λ t. rw t (itself y b (eqb-true w n t))) (λ t. rw t (b.3, up y b)) (cases_Bool (eqb w n))

    quiet : hits n ≡ 0 → Once n (hits n)
    quiet e = rw e (omega arith, λ z. absurd (omega (arith, z)))

    empty : kind_at xs n ≡ 15 → Once n (hits n)
    empty k = quiet (ap (whiles (eqb w)) (Decodes.stmt_nothing xs n here k))

    chain : kind_at xs n ≡ 16 → Once n (hits n)
    chain k =
        let a = in_a (ap want_a k) in
        let b = in_b (ap want_b k) in
        rw (Decodes.stmt_chain xs n here a.0 b.0 k (a.1, a.2) (b.1, b.2))
        (joined _ _ a b (λ e. twice_ab b.0 b.2 k (a.1 ∙ ap pos e) b.1))

    discard : kind_at xs n ≡ 17 → Once n (hits n)
    discard k =
        let a = sound.shaped.children.in_a n here _ (ap want_a k) in
        quiet (ap (whiles (eqb w)) (Decodes.stmt_discard xs n here a.0 k (a.1, a.2)))

    if : kind_at xs n ≡ 18 → Once n (hits n)
    if k =
        let a = sound.shaped.children.in_a n here _ (ap want_a k) in
        let b = in_b (ap want_b k) in
        let c = in_c (ap want_c k) in
        rw (Decodes.stmt_if xs n here a.0 b.0 c.0 k (a.1, a.2) (b.1, b.2) (c.1, c.2))
        (joined _ _ b c (λ e. twice_bc c.0 c.2 k (b.1 ∙ ap pos e) c.1))

    while : kind_at xs n ≡ 19 → Once n (hits n)
    while k =
        let a = sound.shaped.children.in_a n here _ (ap want_a k) in
        let b = in_b (ap want_b k) in
        rw (Decodes.stmt_while xs n here a.0 b.0 k (a.1, a.2) (b.1, b.2)) (looped _ b)

    return : kind_at xs n ≡ 20 → Once n (hits n)
    return k =
        let a = sound.shaped.children.in_a n here _ (ap want_a k) in
        let there : a.0 < length xs = omega (arith, a.2) in
        ⊎_elim
        (λ c. let b = sound.shaped.children.in_b a.0 there _ (ap want_b c) in
        quiet (ap (whiles (eqb w)) (Decodes.stmt_replace xs n here a.0 k (a.1, a.2) b.0 c (b.1, b.2))))
        (λ o. quiet (ap (whiles (eqb w)) (Decodes.stmt_return xs n here a.0 k (a.1, a.2) o)))
        (cases_eq (kind_at xs a.0) 12)

    node_once : is_statement (kind_at xs n) ≡ true → Once n (hits n)
    node_once e = pick_statement (kind_at xs n) e (Once n (hits n)) (empty, (chain, (discard, (if, (while, (return, tt))))))

  once_below : (k n : ℕ) → n < k → n < length xs → is_statement (kind_at xs n) ≡ true → Once n (hits n)
  once_below zero n l here e = absurd (omega arith)
  once_below (suc k) n l here e = node_once n here (λ m h. once_below k m (omega arith) (omega arith)) e

  body_once : (f : ℕ) → f < length fs → Once (function_at fs f).body (hits (function_at fs f).body)
  body_once f h = let b = (function_at fs f).body in once_below (suc b) b (omega arith) (sound.limited.body f h) (sound.body f h)

  body_is : (f : ℕ) → f < length fs → hits_of w (get_or (script_of fs gs xs).functions f nothing) ≡ hits (function_at fs f).body
  body_is f h = ap (hits_of w) (Decodes.function_is fs gs xs f no_function h)

  -- a while with the number w is in the function whose body the climb comes to
  at_root : (f : ℕ) → f < length fs → 0 < hits_of w (get_or (script_of fs gs xs).functions f nothing) → root_of xs w ≡ (function_at fs f).body
  at_root f h p = to_body fs gs xs sound w f h ((body_once f h).1 (omega (arith, p, body_is f h)))

pub distinct : (fs : List Row) (gs : List ℕ) (xs : List Node) → Sound fs gs xs → Distinct (script_of fs gs xs).functions
distinct fs gs xs sound w =
    let same = as_many fs gs xs in
    one_hit w (script_of fs gs xs).functions
    (λ f h. omega (arith, body_is fs gs xs sound w f (omega (arith, h, same)), (body_once fs gs xs sound w f (omega (arith, h, same))).0))
    (λ f g h l p q. let r = at_root fs gs xs sound w in sound.rooted.alone f g (omega (arith, h, same)) (omega (arith, l, same)) (sym (r f (omega (arith, h, same)) p) ∙ r g (omega (arith, l, same)) q))
