-- What accepted tables say of the fields of a node.
use Rattle.std.proofs.Common.{◌≡◌, ℕ, zero, suc, ◌<◌, true, List, length, ℤ, pos, nat_abs, Some, sym, refl, ap, ◌∙◌, inl, inr, arith}
use Rattle.std.proofs.lemmas.Bool.{cases_eq}
use Rattle.std.proofs.lemmas.Bool.Decides.{nat_tests}
use Rattle.script.specs.declared.Function.{Function}
use Rattle.script.specs.declared.Node.{Node}
use Rattle.script.specs.declared.kinds.Sort.{Sort}
use Rattle.script.specs.declared.kinds.Sort.TheVariants.{Expression, Arguments}
use Rattle.script.specs.Kinds.{binary_kind, call_kind, operators, node_at, kind_at, is_of, want_a, want_b, want_c}
use Rattle.script.specs.Numbering.{number_at, numbers_below}
use Rattle.script.specs.Scope.{arguments_by, arguments_of, function_at, names_local}
use Rattle.script.specs.Shape.{names_global}
use Rattle.script.specs.Shaped.{Number, Children}
use Rattle.script.specs.Sound.{Sound}
use Rattle.script.proofs.ShapedLaws.{Named}
pub use Rattle.script.proofs.ShapedLaws.{kid_a, kid_b, kid_c}
use Rattle.script.proofs.ScopeLaws.{arguments_none, arguments_of_call, arguments_of_list}
use Rattle.meaning.specs.Tables.{args_at}
use Rattle.meaning.proofs.Decodes.{args_none, args_also}
use Rattle.scheme.specs.Scheme.{count}
use Rattle.reading.specs.Nodes.{Natural, CallParts}

-- a list has as many arguments as its nodes count
module _ (xs : List Node) (children : Children xs) (l : ℕ) (here : l < length xs) where
  longer : ((m : ℕ) → m < l → m < length xs → is_of Arguments (kind_at xs m) ≡ true → count (args_at xs m) ≡ arguments_of xs m) → kind_at xs l ≡ 14 → count (args_at xs l) ≡ arguments_of xs l
  longer rest q =
      let a = kid_a xs children l here 14 q Expression _ refl refl in
      let b = kid_b xs children l here 14 q Arguments _ refl refl in
      let e = ap count (args_also xs l here _ _ q a.0 b.0) in
      let r = rest _ b.1.0 (omega (arith, b.1.0)) b.1.1 in
      omega (arith, e, r, arguments_of_list xs l _ b.0.0 b.0.1 q)

  empty : is_of Arguments (kind_at xs l) ≡ true → (kind_at xs l ≡ 14 → ⊥) → count (args_at xs l) ≡ arguments_of xs l
  empty e q =
      let k : kind_at xs l ≡ 13 = grind (arith, nat_tests) in
      ap count (args_none xs l here k) ∙ arguments_none (node_at xs l) (number_at (numbers_below arguments_by xs l)) 0 q (λ z. omega (arith, z, k))

list_count : (xs : List Node) → Children xs → (fuel l : ℕ) → l < fuel → l < length xs → is_of Arguments (kind_at xs l) ≡ true → count (args_at xs l) ≡ arguments_of xs l
list_count xs children zero l h here e = absurd (omega arith)
list_count xs children (suc fuel) l h here e =
    elim (cases_eq (kind_at xs l) 14) [
      | inl q ↦ longer xs children l here (λ m k. list_count xs children fuel m (omega arith)) q
      | inr q ↦ empty xs children l here e q
    ]

module _ (fs : List Function) (gs : List ℕ) (xs : List Node) (sound : Sound fs gs xs) (n : ℕ) (here : n < length xs) where
  module _ (k : ℕ) (kind : kind_at xs n ≡ k) (sort : Sort) (r : ℕ) where
    pub child_a : want_a k ≡ Some sort → r ≡ nat_abs (node_at xs n).a → Named xs n sort (node_at xs n).a r
    child_a w e = kid_a xs sound.shaped.children n here k kind sort r w e

    pub child_b : want_b k ≡ Some sort → r ≡ nat_abs (node_at xs n).b → Named xs n sort (node_at xs n).b r
    child_b w e = kid_b xs sound.shaped.children n here k kind sort r w e

    pub child_c : want_c k ≡ Some sort → r ≡ nat_abs (node_at xs n).c → Named xs n sort (node_at xs n).c r
    child_c w e = kid_c xs sound.shaped.children n here k kind sort r w e

  -- a field that names something, by its number
  named : (x : ℤ) (m r : ℕ) → Number x m → r ≡ nat_abs x → (x ≡ pos r) × (r < m)
  named x m r k e = let i : r ≡ k.0 = e ∙ ap nat_abs k.1 in (k.1 ∙ ap pos (sym i), omega (arith, i, k.2))

  pub global_in : (k : ℕ) → kind_at xs n ≡ k → names_global k ≡ true → (r : ℕ) → r ≡ nat_abs (node_at xs n).a → r < length gs
  global_in k kind w r e = (named _ (length gs) r (sound.shaped.global n here (ap names_global kind ∙ w)) e).1

  pub operator_in : kind_at xs n ≡ binary_kind → (r : ℕ) → r ≡ nat_abs (node_at xs n).c → r < operators
  operator_in kind r e = (named _ operators r (sound.shaped.operator n here kind) e).1

  pub local_in : (k : ℕ) → kind_at xs n ≡ k → names_local k ≡ true → Natural (node_at xs n).a
  local_in k kind w =
      let f = sound.rooted.body n here in
      let m = sound.local n f.0 here f.1 f.2 (ap names_local kind ∙ w) in
      m.1 ∙ sym (ap (λ (z : ℤ). pos (nat_abs z)) m.1)

  pub function_in : kind_at xs n ≡ call_kind → (r : ℕ) → r ≡ nat_abs (node_at xs n).a → r < length fs
  function_in kind r e = (named _ (length fs) r (sound.shaped.callees n here kind) e).1

  pub call_in : kind_at xs n ≡ call_kind → (f l : ℕ) → f ≡ nat_abs (node_at xs n).a → l ≡ nat_abs (node_at xs n).b → CallParts fs xs n f (function_at fs f).parameters l
  call_in kind f l e g =
      let p = named _ (length fs) f (sound.shaped.callees n here kind) e in
      let b = child_b 12 kind Arguments l refl g in (
        p.1,
        sym (sound.arguments n f here kind p.0) ∙ arguments_of_call xs n l b.0.0 b.0.1 kind ∙ sym (list_count xs sound.shaped.children (suc l) l (omega arith) (omega (arith, b.1.0)) b.1.1),
        b.1,
      )
