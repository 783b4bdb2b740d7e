-- Accepted tables are sound.
use Rattle.std.proofs.Common.{◌≡◌, ℕ, zero, suc, ◌+◌, ◌<◌, ◌≤◌, Bool, true, false, cond, ◌&&◌, ◌||◌, eqb, List, [], ◌∷◌, length, pos, Some, None, Option, sym, refl, ap, ◌∙◌, ⊎_elim, arith}
use Rattle.std.proofs.lemmas.List.Sums.{get_or-le-sum_by, sum_by-cons}
use Rattle.std.proofs.lemmas.Bool.{cases_Bool, cases_order, cond-true, cond-false, not-false, or_parts, and_cases, ltb-false, eq-eqb, eqb-true, both_ways}
use Rattle.std.proofs.lemmas.Bool.Decides.{nat_tests}
use Rattle.std.proofs.lemmas.Option.{none-some}
use Rattle.answer.specs.declared.Reason.{Reason}
use Rattle.script.specs.declared.Function.{Function}
use Rattle.script.specs.declared.Node.{Node}
use Rattle.script.specs.declared.Script.{Script}
use Rattle.script.specs.declared.kinds.Sort.TheVariants.{Expression, Arguments, Statement}
use Rattle.script.specs.Fault.{fault_at, limits_fault, shape_fault, uses_fault, scope_fault, nesting_fault, nodes_fault}
use Rattle.script.specs.Kinds.{last_kind, no_node, node_at, kind_at, is_of}
use Rattle.script.specs.Least.{or_else, least_below}
use Rattle.script.specs.Limits.{max_nesting, locals_of, within_limits}
use Rattle.script.specs.Nesting.{nesting_of, too_deep}
use Rattle.script.specs.Scope.{arguments_of, no_function, function_at, parameters_of, names_local, root_of, locals_under, local_missing, arguments_wrong, out_of_scope}
use Rattle.script.specs.Shaped.{Number, Children, Shaped}
use Rattle.script.specs.Sound.{ChildOf, by_a, by_b, by_c, Limited, Rooted, Sound, NodesHaveOneFunction, AcceptedAreSound}
use Rattle.script.specs.Uses.{child_uses, uses_as_child, uses_as_body, misused}
use Rattle.script.proofs.CountLaws.{sum_of_two, sum_of_none, count_has, count_of_two, some_counted}
use Rattle.script.proofs.LeastLaws.{least_clear}
use Rattle.script.proofs.LimitsLaws.{limited}
use Rattle.script.proofs.RootLaws.{child-counts, climb_rests, climb_meets, climb_leaves, climb_within}
use Rattle.script.proofs.ShapeLaws.{number_from, shaped}

-- the locals under a body are those of its one function
pub locals_of_lem : (fs : List Function) (r f : ℕ) → f < length fs → (function_at fs f).body ≡ r → uses_as_body fs r ≤ 1 → locals_under fs r ≡ locals_of (function_at fs f)
locals_of_lem [] r f h e l = absurd (omega arith)
locals_of_lem (g ∷ fs) r zero h e l = cond-true _ _ _ (eq-eqb _ _ e)
locals_of_lem (g ∷ fs) r (suc f) h e l =
    let rest = count_has (λ x. eqb x.body r) no_function fs f (omega arith) (eq-eqb _ _ e) in
    let all = sum_by-cons (λ x. cond (eqb x.body r) 1 0) g fs in
    ⊎_elim
    (λ t. absurd (omega (arith, rest, all, l, cond-true {A = ℕ} (eqb g.body r) 1 0 t)))
    (λ t. cond-false _ _ _ t ∙ locals_of_lem fs r f (omega arith) e (omega (arith, all, l)))
    (cases_Bool (eqb g.body r))

-- every node is used once
module _ (fs : List Function) (xs : List Node) (once : (n : ℕ) → n < length xs → uses_as_child xs n + uses_as_body fs n ≡ 1) where
  body-counts : (f r : ℕ) → f < length fs → (function_at fs f).body ≡ r → 1 ≤ uses_as_body fs r
  body-counts f r h e = count_has (λ x. eqb x.body r) no_function fs f h (eq-eqb _ _ e)

  module _ (bodies : (f : ℕ) → f < length fs → (function_at fs f).body < length xs) (children : Children xs) where
    of_body : (f : ℕ) → f < length fs → root_of xs (function_at fs f).body ≡ (function_at fs f).body
    of_body f h =
        let b = (function_at fs f).body in
        climb_rests xs b (length xs) (λ q l. omega (arith, get_or-le-sum_by (λ x. child_uses x b) xs q no_node l, once b (bodies f h), body-counts f b h refl))

    of_child : (n m : ℕ) → n < length xs → ChildOf xs n m → m < length xs → root_of xs m ≡ root_of xs n
    of_child n m h k l =
        let u = child-counts xs n m k in
        climb_meets xs children n m h u (λ q z. omega (arith, sum_of_two (λ x. child_uses x m) no_node xs q n z h, once m l, u))

    some_body : (n : ℕ) → n < length xs → (f : ℕ) × (f < length fs) × ((function_at fs f).body ≡ root_of xs n)
    some_body n h =
        let r = root_of xs n in
        let free = sum_of_none (λ x. child_uses x r) no_node xs (climb_leaves xs children n (length xs) (omega arith)) in
        let w = climb_within xs n (length xs) h (omega arith) in
        let s = some_counted (λ x. eqb x.body r) no_function fs (omega (arith, once r w, free)) in
        (s.0, s.1, eqb-true _ _ s.2)

    before : (f g : ℕ) → f < g → g < length fs → (function_at fs f).body ≡ (function_at fs g).body → ⊥
    before f g h l e =
        let r = (function_at fs g).body in
        let two = count_of_two (λ x. eqb x.body r) no_function fs f g h l (eq-eqb _ _ e) (eq-eqb r r refl) in
        omega (arith, two, once r (bodies g l))

    alone : (f g : ℕ) → f < length fs → g < length fs → (function_at fs f).body ≡ (function_at fs g).body → f ≡ g
    alone f g h l e = ⊎_elim (λ q. q) (λ q. absurd (⊎_elim (λ z. before f g z l e) (λ z. before g f z h (sym e)) q)) (cases_order f g)

clash : {X : Type 0} {x : X} {P : Type 0} → Some x ≡ None → P
clash e = absurd (none-some _ (sym e))

neither : {X : Type 0} (a b : Option X) → or_else a b ≡ None → (a ≡ None) × (b ≡ None)
neither None b e = (refl, e)
neither (Some x) b e = clash e

nowhere : (why : Reason) (o : Option ℕ) → fault_at why o ≡ None → o ≡ None
nowhere why None e = refl
nowhere why (Some n) e = clash e

within : (fs : List Function) (gs : List ℕ) (xs : List Node) → limits_fault fs gs xs ≡ None → within_limits fs gs xs ≡ true
within fs gs xs e =
    ⊎_elim (λ t. t) (λ t. clash (sym (cond-false (within_limits fs gs xs) _ _ t) ∙ e)) (cases_Bool (within_limits fs gs xs))

child-below : (xs : List Node) (children : Children xs) (n m : ℕ) → n < length xs → ChildOf xs n m → m < n
child-below xs children n m h (by_a s e q) = let k = children.in_a n h s e in let z : k.0 ≡ m = cc in omega (arith, k.2, z)
child-below xs children n m h (by_b s e q) = let k = children.in_b n h s e in let z : k.0 ≡ m = cc in omega (arith, k.2, z)
child-below xs children n m h (by_c s e q) = let k = children.in_c n h s e in let z : k.0 ≡ m = cc in omega (arith, k.2, z)

-- what is left of a row of tests that failed, where the first passed
second_fails : (t rest : Bool) → (t && rest) ≡ false → t ≡ true → rest ≡ false
second_fails t rest e q = ⊎_elim (λ z. absurd (both_ways t z q)) (λ z. z) (and_cases t rest e)

not_statement : (k : ℕ) → k ≤ last_kind → is_of Statement k ≡ false → (is_of Expression k || is_of Arguments k) ≡ true
not_statement k h e = grind (arith, nat_tests)

module _ (fs : List Function) (gs : List ℕ) (xs : List Node) (scoped : least_below (out_of_scope fs xs) (length xs) ≡ None) (n : ℕ) (h : n < length xs) where
  in_scope : (local_missing fs xs n ≡ false) × (arguments_wrong fs xs n ≡ false)
  unfolding out_of_scope
  in_scope = or_parts (local_missing fs xs n) (arguments_wrong fs xs n) (least_clear (out_of_scope fs xs) (length xs) scoped n h)

  local_there : names_local (kind_at xs n) ≡ true → Number (node_at xs n).a (locals_under fs (root_of xs n))
  local_there k = number_from _ _ (not-false _ (second_fails (names_local (kind_at xs n)) _ in_scope.0 k))

  arguments_there : (f : ℕ) → kind_at xs n ≡ 12 → (node_at xs n).a ≡ pos f → arguments_of xs n ≡ (function_at fs f).parameters
  arguments_there f k e =
      eqb-true _ _ (not-false _ (second_fails (eqb (kind_at xs n) 12) _ in_scope.1 (eq-eqb _ _ k))) ∙ ap (parameters_of fs) e

nesting-within : (xs : List Node) → least_below (too_deep xs) (length xs) ≡ None → (n : ℕ) → n < length xs → (is_of Expression (kind_at xs n) || is_of Arguments (kind_at xs n)) ≡ true → nesting_of xs n ≤ max_nesting
unfolding too_deep
nesting-within xs clear n h k = ltb-false _ _ (second_fails (is_of Expression (kind_at xs n) || is_of Arguments (kind_at xs n)) _ (least_clear (too_deep xs) (length xs) clear n h) k)

used_once : (fs : List Function) (xs : List Node) → least_below (misused fs xs) (length xs) ≡ None → (n : ℕ) → n < length xs → uses_as_child xs n + uses_as_body fs n ≡ 1
used_once fs xs unique n h = eqb-true _ _ (not-false _ (least_clear (misused fs xs) (length xs) unique n h))

rooted_from : (fs : List Function) (gs : List ℕ) (xs : List Node) → Limited fs gs xs → Shaped fs gs xs → least_below (misused fs xs) (length xs) ≡ None → Rooted fs xs
rooted_from fs gs xs l s unique =
    let kids = s.children in
    let once = used_once fs xs unique in
    record {
      of_body = of_body fs xs once l.body kids;
      of_child = λ n m h k. of_child fs xs once l.body kids n m h k (omega (arith, child-below xs kids n m h k));
      body = some_body fs xs once l.body kids;
      alone = alone fs xs once l.body kids;
    }

sound_from : (fs : List Function) (gs : List ℕ) (xs : List Node) → Limited fs gs xs → Shaped fs gs xs → least_below (misused fs xs) (length xs) ≡ None → least_below (out_of_scope fs xs) (length xs) ≡ None → least_below (too_deep xs) (length xs) ≡ None → Sound fs gs xs
sound_from fs gs xs l s unique scoped flat =
    let once = used_once fs xs unique in
    record {
      limited = l;
      shaped = s;
      body = λ f h. s.body (function_at fs f).body (l.body f h) (λ z. omega (arith, z, body-counts fs xs once f (function_at fs f).body h refl));
      used = once;
      rooted = rooted_from fs gs xs l s unique;
      local = λ n f h q e k. rw (← locals_of_lem fs (root_of xs n) f q e (omega (arith, once (root_of xs n) (climb_within xs n (length xs) h (omega arith))))) (local_there fs gs xs scoped n h k);
      arguments = λ n f h k e. arguments_there fs gs xs scoped n h f k e;
      nesting = λ n h k. nesting-within xs flat n h (not_statement (kind_at xs n) (s.kind n h) k);
    }

pub rooted : NodesHaveOneFunction
rooted fs gs xs a b c = rooted_from fs gs xs (limited fs gs xs (within fs gs xs a)) (shaped fs gs xs (nowhere _ _ b)) (nowhere _ _ c)

pub sound : AcceptedAreSound
unfolding nodes_fault
sound fs gs xs e =
    let a = neither (limits_fault fs gs xs) (nodes_fault fs gs xs) e in
    let b = neither (shape_fault fs gs xs) _ a.1 in
    let c = neither (uses_fault fs xs) _ b.1 in
    let d = neither (scope_fault fs xs) (nesting_fault xs) c.1 in
    sound_from fs gs xs (limited fs gs xs (within fs gs xs a.0)) (shaped fs gs xs (nowhere _ _ b.0)) (nowhere _ _ c.0) (nowhere _ _ d.0) (nowhere _ _ d.1)

-- the tables of an accepted script are sound
pub script_sound : (s : Script) → Sound s.functions.now s.globals.now s.nodes.now
script_sound s = sound _ _ _ s.accepted
