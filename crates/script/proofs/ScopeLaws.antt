-- How the count of arguments follows from that of the rest of the list, and one step of a climb.
use Rattle.std.proofs.Common.{◌≡◌, ℕ, ◌+◌, ◌<◌, ◌≤◌, Bool, true, false, cond, Some, Option, List, [], ◌∷◌, ℤ, pos, sym, refl, ap, ◌∙◌, add-one}
use Rattle.std.specs.Prelude.{◌==◌, find, MatchOption}
use Rattle.std.proofs.lemmas.Bool.{cond-true, cond-false, eq-eqb, ne_eqb, lt-ltb, le-ltb}
use Rattle.script.specs.declared.Function.{Function}
use Rattle.script.specs.declared.Node.{Node}
use Rattle.script.specs.Kinds.{call_kind, argument_kind, node_at, kind_at}
use Rattle.script.specs.Limits.{locals_of}
use Rattle.script.specs.Numbering.{number_at, numbers_below}
use Rattle.script.specs.Scope.{arguments_by, arguments_of, climb, locals_under}
use Rattle.script.specs.Uses.{child_uses}
use Rattle.script.proofs.NumberingLaws.{number_of_child}

module _ (x : Node) (at : ℤ → ℕ) (r : ℕ) where
  pub arguments_more : x.kind ≡ 14 → r ≡ at x.b → 1 + r ≡ arguments_by x at
  unfolding arguments_by
  arguments_more k e = ap (λ m. 1 + m) e ∙ sym (cond-true _ _ _ (eq-eqb _ _ k))

  pub arguments_call : x.kind ≡ 12 → r ≡ at x.b → r ≡ arguments_by x at
  unfolding arguments_by
  arguments_call k e = e ∙ rw k

  pub arguments_none : (x.kind ≡ 14 → ⊥) → (x.kind ≡ 12 → ⊥) → 0 ≡ arguments_by x at
  unfolding arguments_by
  arguments_none k l = rw (ne_eqb _ _ k, ne_eqb _ _ l)

-- the same, node by node: a call has the arguments of its list, and a list one more than the list after it
module _ (xs : List Node) (n m : ℕ) (e : (node_at xs n).b ≡ pos m) (h : m < n) where
  pub arguments_of_call : kind_at xs n ≡ call_kind → arguments_of xs n ≡ arguments_of xs m
  arguments_of_call k =
      let at = number_at (numbers_below arguments_by xs n) in
      sym (arguments_call (node_at xs n) at (at (node_at xs n).b) k refl) ∙ number_of_child arguments_by xs n (node_at xs n).b m e h

  pub arguments_of_list : kind_at xs n ≡ argument_kind → arguments_of xs n ≡ 1 + arguments_of xs m
  arguments_of_list k =
      let at = number_at (numbers_below arguments_by xs n) in
      sym (arguments_more (node_at xs n) at (at (node_at xs n).b) k refl) ∙ ap (λ j. 1 + j) (number_of_child arguments_by xs n (node_at xs n).b m e h)

module _ (xs : List Node) (n k r : ℕ) where
  pub climb_on : r ≡ climb xs n k → 0 < child_uses (node_at xs k) r → k ≡ climb xs n (k + 1)
  unfolding climb
  climb_on e h = rw (add-one, ← e) (sym (cond-true _ _ _ (lt-ltb _ _ h)))

  pub climb_stays : r ≡ climb xs n k → child_uses (node_at xs k) r ≤ 0 → r ≡ climb xs n (k + 1)
  unfolding climb
  climb_stays e h = rw (add-one, ← e) (sym (cond-false _ _ _ (le-ltb _ _ h)))

-- what the first function of a list adds, where it has that body, and where not
first_or_rest : (b : Bool) (f : Function) (o : Option Function) (m rest : ℕ) → MatchOption (cond b (Some f) o) (m ≡ 0) (λ g. m ≡ locals_of g) → (MatchOption o (m ≡ 0) (λ g. m ≡ locals_of g) → m ≡ rest) → m ≡ cond b (locals_of f) rest
first_or_rest true f o m rest h k = h
first_or_rest false f o m rest h k = k h

-- the first function with that body
pub locals_of_first : (fs : List Function) (r m : ℕ) → MatchOption (find (λ f. f.body == r) fs) (m ≡ 0) (λ f. m ≡ locals_of f) → m ≡ locals_under fs r
locals_of_first [] r m h = h
locals_of_first (f ∷ fs) r m h = first_or_rest (f.body == r) f (find (λ g. g.body == r) fs) m (locals_under fs r) h (locals_of_first fs r m)
