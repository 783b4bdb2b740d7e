-- The children of a node, field by field.
use Rattle.std.proofs.Common.{◌≡◌, ℕ, ◌<◌, Bool, true, false, ◌&&◌, List, [], ◌∷◌, length, ℤ, pos, nat_abs, Some, Option, sym, refl, ap, ◌∙◌, arith}
use Rattle.std.specs.List.{list_all}
use Rattle.script.specs.declared.Node.{Node}
use Rattle.script.specs.declared.kinds.Sort.{Sort}
use Rattle.script.specs.Kinds.{node_at, kind_at, is_of, want_a, want_b, want_c}
use Rattle.script.specs.Shape.{child_fits, children_fit}
use Rattle.script.specs.Shaped.{Child, Children}

-- the field is the number r, which names a node below the node n, of the sort s
abbrev pub Named : List Node → ℕ → Sort → ℤ → ℕ → Type 0
Named xs n s x r = ((x ≡ pos r) × (r < n)) × ((r < n) × (is_of s (kind_at xs r) ≡ true))

named_child : (xs : List Node) (n : ℕ) (s : Sort) (x : ℤ) (r : ℕ) → Child xs n x s → r ≡ nat_abs x → Named xs n s x r
named_child xs n s x r k e =
    let i : r ≡ k.0 = e ∙ ap nat_abs k.1 in
    let l : r < n = omega (arith, i, k.2) in
    ((k.1 ∙ ap pos (sym i), l), (l, ap (λ (m : ℕ). is_of s (kind_at xs m)) i ∙ k.3))

module _ (xs : List Node) (children : Children xs) (n : ℕ) (here : n < length xs) (k : ℕ) (kind : kind_at xs n ≡ k) (s : Sort) (r : ℕ) where
  pub kid_a : want_a k ≡ Some s → r ≡ nat_abs (node_at xs n).a → Named xs n s (node_at xs n).a r
  kid_a w e = named_child xs n s _ r (children.in_a n here s (ap want_a kind ∙ w)) e

  pub kid_b : want_b k ≡ Some s → r ≡ nat_abs (node_at xs n).b → Named xs n s (node_at xs n).b r
  kid_b w e = named_child xs n s _ r (children.in_b n here s (ap want_b kind ∙ w)) e

  pub kid_c : want_c k ≡ Some s → r ≡ nat_abs (node_at xs n).c → Named xs n s (node_at xs n).c r
  kid_c w e = named_child xs n s _ r (children.in_c n here s (ap want_c kind ∙ w)) e

all_three : (a b c : Bool) → (a && (b && (c && true))) ≡ (a && (b && c))
all_three true true true = refl
all_three true true false = refl
all_three true false c = refl
all_three false b c = refl

-- every field fits
pub fields_fit : (xs : List Node) (i : ℕ) (x : Node) → list_all {X = ℤ × Option Sort} (λ f. child_fits xs i f.0 f.1) ((x.a, want_a x.kind) ∷ (x.b, want_b x.kind) ∷ (x.c, want_c x.kind) ∷ []) ≡ children_fit xs i x
fields_fit xs i x = all_three (child_fits xs i x.a (want_a x.kind)) (child_fits xs i x.b (want_b x.kind)) (child_fits xs i x.c (want_c x.kind))
