-- What is proved of a node, by its sort, and what its fields then give.
use Rattle.std.proofs.Common.{◌≡◌, ℕ, ◌+◌, ◌<◌, ◌≤◌, Bool, true, List, length, get_or, ℤ, pos, nat_abs, sum, sym, ◌∙◌, arith}
use Rattle.script.specs.declared.Function.{Function as Row}
use Rattle.script.specs.declared.Node.{Node}
use Rattle.script.specs.Kinds.{call_kind, node_at, kind_at, want_a, want_b, want_c}
use Rattle.script.specs.Limits.{locals_of}
use Rattle.script.specs.Nesting.{nesting_of}
use Rattle.script.specs.Numbering.{number_at, numbers_below}
use Rattle.script.specs.Scope.{arguments_by, arguments_of, function_at, names_local, root_of}
use Rattle.script.specs.Shape.{names_global}
use Rattle.script.specs.Sound.{ChildOf, by_a, by_b, by_c, Sound}
use Rattle.script.proofs.NumberingLaws.{number_of_child}
use Rattle.meaning.specs.Tree.{Function}
use Rattle.meaning.specs.Tables.{expr_at, args_at, stmt_at, script_of}
use Rattle.meaning.specs.Meaning.{first_word}
use Rattle.meaning.proofs.Decodes.{Names}
use Rattle.scheme.specs.Scheme.{count}
use Rattle.symbolic.specs.Proper.{OkE, OkA, OkS, Known}
use Rattle.accepted.specs.Accepted.{ConstantsFit, spare_words}
use Rattle.accepted.proofs.Kids.{is_expression, is_list, is_statement, no_statement, deeper}
use Rattle.accepted.proofs.Names.{words_end, known}

module _ (fs : List Row) (gs : List ℕ) (xs : List Node) (f : ℕ) where
  abbrev pub functions : List Function
  functions = (script_of fs gs xs).functions

  abbrev pub total : ℕ
  total = locals_of (function_at fs f)

  -- in the function f an expression has room, and its names are in range
  abbrev pub GoodE : ℕ → Type 0
  GoodE n = (r : ℕ) → nesting_of xs n < r → OkE gs total (sum gs) (Known functions) (expr_at xs n) r

  abbrev pub GoodA : ℕ → Type 0
  GoodA n = ((r : ℕ) → nesting_of xs n < r → OkA gs total (sum gs) (Known functions) (args_at xs n) r) × (count (args_at xs n) ≡ arguments_of xs n)

  abbrev pub GoodS : ℕ → Type 0
  GoodS n = OkS gs total (sum gs) spare_words (Known functions) (stmt_at xs n)

  -- the node, read as what its kind says
  abbrev pub Good : ℕ → Type 0
  Good n = (is_expression (kind_at xs n) ≡ true → GoodE n) × (is_list (kind_at xs n) ≡ true → GoodA n) × (is_statement (kind_at xs n) ≡ true → GoodS n)

  -- a field of the node n holds a child of that sort
  abbrev Field : ℕ → ℤ → (ℕ → Bool) → Type 0
  Field n x p = (m : ℕ) × (x ≡ pos m) × (m < n) × (p (kind_at xs m) ≡ true)

  -- and the child is good
  abbrev pub Kid : ℕ → ℤ → (ℕ → Bool) → (ℕ → Type 0) → Type 0
  Kid n x p G = (m : ℕ) × Names n x m × G m × (nesting_of xs m < nesting_of xs n) × (p (kind_at xs m) ≡ true)

  -- the node is part of the function's tree
  abbrev pub Inside : ℕ → Type 0
  Inside n = root_of xs n ≡ (function_at fs f).body

-- a node of the function f, with those below it known to be good
pub record Spot (fs : List Row) (gs : List ℕ) (xs : List Node) (f n : ℕ) : Type 0 where
  pub sound : Sound fs gs xs
  pub fit : ConstantsFit xs
  pub within : f < length fs
  pub here : n < length xs
  pub inside : Inside fs gs xs f n
  pub below : (m : ℕ) → m < n → Inside fs gs xs f m → Good fs gs xs f m

module _ {fs : List Row} {gs : List ℕ} {xs : List Node} {f n : ℕ} (at : Spot fs gs xs f n) where
  kid : (x : ℤ) (p : ℕ → Bool) (G : ℕ → Type 0) → ((m : ℕ) → Good fs gs xs f m → p (kind_at xs m) ≡ true → G m) → ((m : ℕ) → x ≡ pos m → ChildOf xs n m) → Field fs gs xs f n x p → Kid fs gs xs f n x p G
  kid x p G read c k =
      let child = c k.0 k.1 in
      let good = at.below k.0 k.2 (at.sound.rooted.of_child n k.0 at.here child ∙ at.inside) in
      (k.0, (k.1, k.2), read k.0 good k.3, deeper xs n k.0 child k.2, k.3)

  -- The sorts have no names outside the check: a field of this node wants what the same field of a node of a known kind wants, as that of a negation, 7, an expression.
  pub expr_a : want_a (kind_at xs n) ≡ want_a 7 → Kid fs gs xs f n (node_at xs n).a is_expression (GoodE fs gs xs f)
  expr_a e = kid (node_at xs n).a is_expression (GoodE fs gs xs f) (λ m g. g.0) (λ m q. by_a _ e q) (at.sound.shaped.children.in_a n at.here _ e)

  pub expr_b : want_b (kind_at xs n) ≡ want_b 3 → Kid fs gs xs f n (node_at xs n).b is_expression (GoodE fs gs xs f)
  expr_b e = kid (node_at xs n).b is_expression (GoodE fs gs xs f) (λ m g. g.0) (λ m q. by_b _ e q) (at.sound.shaped.children.in_b n at.here _ e)

  pub expr_c : want_c (kind_at xs n) ≡ want_c 6 → Kid fs gs xs f n (node_at xs n).c is_expression (GoodE fs gs xs f)
  expr_c e = kid (node_at xs n).c is_expression (GoodE fs gs xs f) (λ m g. g.0) (λ m q. by_c _ e q) (at.sound.shaped.children.in_c n at.here _ e)

  pub list_b : want_b (kind_at xs n) ≡ want_b 12 → Kid fs gs xs f n (node_at xs n).b is_list (GoodA fs gs xs f)
  list_b e = kid (node_at xs n).b is_list (GoodA fs gs xs f) (λ m g. g.1) (λ m q. by_b _ e q) (at.sound.shaped.children.in_b n at.here _ e)

  pub stmt_a : want_a (kind_at xs n) ≡ want_a 16 → Kid fs gs xs f n (node_at xs n).a is_statement (GoodS fs gs xs f)
  stmt_a e = kid (node_at xs n).a is_statement (GoodS fs gs xs f) (λ m g. g.2) (λ m q. by_a _ e q) (at.sound.shaped.children.in_a n at.here _ e)

  pub stmt_b : want_b (kind_at xs n) ≡ want_b 16 → Kid fs gs xs f n (node_at xs n).b is_statement (GoodS fs gs xs f)
  stmt_b e = kid (node_at xs n).b is_statement (GoodS fs gs xs f) (λ m g. g.2) (λ m q. by_b _ e q) (at.sound.shaped.children.in_b n at.here _ e)

  pub stmt_c : want_c (kind_at xs n) ≡ want_c 18 → Kid fs gs xs f n (node_at xs n).c is_statement (GoodS fs gs xs f)
  stmt_c e = kid (node_at xs n).c is_statement (GoodS fs gs xs f) (λ m g. g.2) (λ m q. by_c _ e q) (at.sound.shaped.children.in_c n at.here _ e)

  -- an expression that a statement holds has the spare words
  pub roomy : {x : ℤ} (k : Kid fs gs xs f n x is_expression (GoodE fs gs xs f)) → OkE gs (total fs gs xs f) (sum gs) (Known (functions fs gs xs f)) (expr_at xs k.0) spare_words
  roomy k = k.2 spare_words (omega (arith, at.sound.nesting k.0 (omega (arith, k.1.1, at.here)) (no_statement (kind_at xs k.0) k.4)))

  pub of_global : names_global (kind_at xs n) ≡ true → (first_word gs (nat_abs (node_at xs n).a) < sum gs) × (first_word gs (nat_abs (node_at xs n).a) + get_or gs (nat_abs (node_at xs n).a) 0 ≤ sum gs)
  of_global e =
      let g = at.sound.shaped.global n at.here e in
      let end = words_end gs g.0 g.2 in
      rw g.1 (omega (arith, end, (at.sound.limited.global g.0 g.2).0), end)

  pub of_local : names_local (kind_at xs n) ≡ true → nat_abs (node_at xs n).a < total fs gs xs f
  of_local e = let k = at.sound.local n f at.here at.within (sym at.inside) e in rw k.1 k.2

  pub of_call : kind_at xs n ≡ call_kind → (c : ℕ) → c ≡ arguments_of xs n → Known (functions fs gs xs f) (nat_abs (node_at xs n).a) c
  of_call k c e =
      let g = at.sound.shaped.callees n at.here k in
      rw g.1 (known fs gs xs g.0 g.2 c (sym (e ∙ at.sound.arguments n g.0 at.here k g.1)))

  -- the number of the list that a field names
  pub listed : (x : ℤ) (m : ℕ) → Names n x m → arguments_of xs m ≡ number_at (numbers_below arguments_by xs n) x
  listed x m k = sym (number_of_child arguments_by xs n x m k.0 k.1)
