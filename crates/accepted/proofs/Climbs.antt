-- Climbing from the node w to the top of its tree, as it passes a node and its children.
use Rattle.std.proofs.Common.{◌≡◌, ℕ, suc, ◌<◌, ◌≤◌, eqb, List, length, refl, ap, ◌∙◌, arith}
use native.Mathlib.Decide.{le_ind}
use Rattle.std.proofs.lemmas.List.Sums.{get_or-le-sum_by}
use Rattle.std.proofs.lemmas.Bool.{cond-true, cond-false, eq-eqb, lt-ltb, le-ltb}
use Rattle.script.specs.declared.Function.{Function as Row}
use Rattle.script.specs.declared.Node.{Node}
use Rattle.script.specs.Kinds.{no_node, node_at}
use Rattle.script.specs.Scope.{climbed, climb, root_of, function_at, no_function}
use Rattle.script.specs.Shaped.{Children}
use Rattle.script.specs.Sound.{ChildOf, Sound}
use Rattle.script.specs.Uses.{child_uses}
use Rattle.script.proofs.CountLaws.{sum_of_two, count_has}
use Rattle.script.proofs.RootLaws.{child-counts, climb_rests, none_above}

module _ (xs : List Node) (w : ℕ) where
  -- at a node whose child it has come to, a climb moves on to that node
  pub moves : (n m : ℕ) → climb xs w n ≡ m → 0 < child_uses (node_at xs n) m → climb xs w (suc n) ≡ n
  unfolding climb
  moves n m e h = ap (climbed (node_at xs n) n) e ∙ cond-true _ _ _ (lt-ltb _ _ h)

  stays_once : (k m : ℕ) → climb xs w k ≡ m → child_uses (node_at xs k) m ≤ 0 → climb xs w (suc k) ≡ m
  unfolding climb
  stays_once k m e h = ap (climbed (node_at xs k) k) e ∙ cond-false _ _ _ (le-ltb _ _ h)

  -- past nodes whose child it is not, it stays
  stays : (i n m : ℕ) → climb xs w i ≡ m → i ≤ n → ((q : ℕ) → i ≤ q → q < n → child_uses (node_at xs q) m ≤ 0) → climb xs w n ≡ m
  stays i n m e l none =
      le_ind (λ j. j ≤ n → climb xs w j ≡ m) (λ _. e) (λ j h t z. stays_once j m (t (omega arith)) (none j h (omega arith))) n l (omega arith)

module _ (fs : List Row) (gs : List ℕ) (xs : List Node) (sound : Sound fs gs xs) (w : ℕ) where
  -- from a child the climb comes to its parent
  pub to_parent : (n m : ℕ) → n < length xs → m < n → ChildOf xs n m → climb xs w (suc m) ≡ m → climb xs w n ≡ m
  to_parent n m here l child e =
      let u = child-counts xs n m child in
      stays xs w (suc m) n m e l (λ q _ z. omega (arith, sum_of_two (λ x. child_uses x m) no_node xs q n z here, sound.used m (omega arith), u))

  -- from a body it stays
  pub to_body : (f : ℕ) → f < length fs → climb xs w (suc (function_at fs f).body) ≡ (function_at fs f).body → root_of xs w ≡ (function_at fs f).body
  to_body f within e =
      let b = (function_at fs f).body in
      let l = sound.limited.body f within in
      let once = sound.used b l in
      let body = count_has (λ x. eqb x.body b) no_function fs f within (eq-eqb b b refl) in
      stays xs w (suc b) (length xs) b e l (λ q _ z. omega (arith, get_or-le-sum_by (λ x. child_uses x b) xs q no_node z, once, body))

-- a climb has not left its own node before the next
pub at_itself : (xs : List Node) → Children xs → (n : ℕ) → n < length xs → (climb xs n n ≡ n) × (climb xs n (suc n) ≡ n)
at_itself xs children n here =
    (climb_rests xs n n (λ q l. none_above xs children q n (omega arith) (omega arith)), climb_rests xs n (suc n) (λ q l. none_above xs children q n (omega arith) (omega arith)))
