-- No more loops are open at once than there are nodes: a loop's body has a smaller number than the loop.
use Rattle.std.proofs.Common.{◌≡◌, ℕ, zero, suc, ◌+◌, ◌<◌, ◌≤◌, true, List, length, nat_abs, refl, ap, inl, inr, arith}
use Rattle.std.proofs.lemmas.Bool.{cases_eq}
use Rattle.std.proofs.lemmas.Bool.Decides.{nat_tests}
use Rattle.script.specs.declared.Node.{Node}
use Rattle.script.specs.declared.kinds.Sort.TheVariants.{Expression, Arguments, Statement}
use Rattle.script.specs.Kinds.{node_at, kind_at, is_of}
use Rattle.script.specs.Shaped.{Children}
use Rattle.script.specs.Scope.{function_at}
use Rattle.meaning.specs.Tables.{stmt_at}
use Rattle.meaning.proofs.Decodes.{stmt_nothing, stmt_chain, stmt_discard, stmt_if, stmt_while, stmt_return, stmt_replace}
use Rattle.reading.specs.Nodes.{whiles}
use Rattle.reading.proofs.ReadLaws.{kid_a, kid_b, kid_c}
use Rattle.room.specs.Bound.{LoopsHaveRoom}

module _ (xs : List Node) (children : Children xs) where
  -- what is to be shown of the node n
  abbrev Shallow : ℕ → Type 0
  Shallow n = n < length xs → is_of Statement (kind_at xs n) ≡ true → whiles (stmt_at xs n) ≤ n + 1

  module _ (n : ℕ) (here : n < length xs) (less : (m : ℕ) → m < n → Shallow m) where
    chained : kind_at xs n ≡ 16 → whiles (stmt_at xs n) ≤ n + 1
    chained k =
        let a = kid_a xs children n here 16 k Statement _ refl refl in
        let b = kid_b xs children n here 16 k Statement _ refl refl in
        omega (arith, ap whiles (stmt_chain xs n here _ _ k a.0 b.0), a.1.0, b.1.0, less _ a.1.0 (omega (arith, a.1.0)) a.1.1, less _ b.1.0 (omega (arith, b.1.0)) b.1.1)

    discarded : kind_at xs n ≡ 17 → whiles (stmt_at xs n) ≤ n + 1
    discarded k = let a = kid_a xs children n here 17 k Expression _ refl refl in omega (arith, ap whiles (stmt_discard xs n here _ k a.0))

    chosen : kind_at xs n ≡ 18 → whiles (stmt_at xs n) ≤ n + 1
    chosen k =
        let a = kid_a xs children n here 18 k Expression _ refl refl in
        let b = kid_b xs children n here 18 k Statement _ refl refl in
        let c = kid_c xs children n here 18 k Statement _ refl refl in
        omega (arith, ap whiles (stmt_if xs n here _ _ _ k a.0 b.0 c.0), b.1.0, c.1.0, less _ b.1.0 (omega (arith, b.1.0)) b.1.1, less _ c.1.0 (omega (arith, c.1.0)) c.1.1)

    looped : kind_at xs n ≡ 19 → whiles (stmt_at xs n) ≤ n + 1
    looped k =
        let a = kid_a xs children n here 19 k Expression _ refl refl in
        let b = kid_b xs children n here 19 k Statement _ refl refl in
        omega (arith, ap whiles (stmt_while xs n here _ _ k a.0 b.0), b.1.0, less _ b.1.0 (omega (arith, b.1.0)) b.1.1)

    returned : kind_at xs n ≡ 20 → whiles (stmt_at xs n) ≤ n + 1
    returned k =
        let m = nat_abs (node_at xs n).a in
        let a = kid_a xs children n here 20 k Expression m refl refl in
        let below : m < length xs = omega (arith, a.1.0, here) in
        elim (cases_eq (kind_at xs m) 12) [
          | inl q ↦ (let b = kid_b xs children m below 12 q Arguments _ refl refl in omega (arith, ap whiles (stmt_replace xs n here m k a.0 _ q b.0)))
          | inr q ↦ omega (arith, ap whiles (stmt_return xs n here m k a.0 q))
        ]

    none : kind_at xs n ≡ 15 → whiles (stmt_at xs n) ≤ n + 1
    none k = omega (arith, ap whiles (stmt_nothing xs n here k))

  -- the six kinds of statements
  six : (k : ℕ) (P : Type 0) → is_of Statement k ≡ true → (k ≡ 15 → P) → (k ≡ 16 → P) → (k ≡ 17 → P) → (k ≡ 18 → P) → (k ≡ 19 → P) → (k ≡ 20 → P) → P
  six k P e a b c d f g = elim (cases_eq k 15) [ inl q ↦ a q | inr q ↦ elim (cases_eq k 16) [ inl r ↦ b r | inr r ↦ elim (cases_eq k 17) [ inl s ↦ c s | inr s ↦ elim (cases_eq k 18) [ inl t ↦ d t | inr t ↦ elim (cases_eq k 19) [ inl u ↦ f u | inr u ↦ g (grind (arith, nat_tests)) ] ] ] ] ]

  shallow : (fuel n : ℕ) → n < fuel → Shallow n
  shallow zero n l here e = absurd (omega arith)
  shallow (suc fuel) n l here e =
      let less = λ (m : ℕ) (k : m < n). shallow fuel m (omega arith) in
      six (kind_at xs n) (whiles (stmt_at xs n) ≤ n + 1) e (none n here less) (chained n here less) (discarded n here less) (chosen n here less) (looped n here less) (returned n here less)

pub loops_fit : LoopsHaveRoom
loops_fit fs gs xs sound f h =
    let b = sound.limited.body f h in
    omega (arith, b, sound.limited.nodes.1, shallow xs sound.shaped.children (suc (function_at fs f).body) (function_at fs f).body (omega arith) b (sound.body f h))
