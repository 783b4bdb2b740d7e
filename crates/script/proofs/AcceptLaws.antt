-- Sound tables are accepted.
use Rattle.std.proofs.Common.{◌≡◌, ℕ, ◌<◌, ◌≤◌, Bool, true, false, not, ◌&&◌, ◌||◌, eqb, List, length, ℤ, Some, None, Option, sym, refl, ap, ◌∙◌, ⊎_elim, arith}
use Rattle.std.proofs.lemmas.Bool.{and_from, and_left, and_right, or_from, or_left, or_right, cases_Bool, cases_eq, cond-true, cond-false, eq-eqb, eqb-true, ne_eqb, lt-ltb, le-leb, le-ltb}
use Rattle.std.proofs.lemmas.Bool.Decides.{nat_tests}
use Rattle.answer.specs.declared.Reason.{Reason}
use Rattle.script.specs.declared.Function.{Function}
use Rattle.script.specs.declared.Node.{Node}
use Rattle.script.specs.declared.kinds.Sort.{Sort}
use Rattle.script.specs.declared.kinds.Sort.TheVariants.{Expression, Arguments, Statement}
use Rattle.script.specs.Fault.{fault_at, nodes_fault}
use Rattle.script.specs.Kinds.{node_at, kind_at, is_of}
use Rattle.script.specs.Least.{or_else, least_below}
use Rattle.script.specs.Limits.{counts, function_fits, global_fits, within_limits}
use Rattle.script.specs.Nesting.{too_deep}
use Rattle.script.specs.Scope.{arguments_of, no_function, parameters_of, names_local, root_of, locals_under, out_of_scope}
use Rattle.script.specs.Shape.{below, child_fits, names_global, names_word, named_fits, number_fits, body_fits, misshapen}
use Rattle.script.specs.Shaped.{Number, Child, Shaped}
use Rattle.script.specs.Sound.{Limited, Sound, SoundAreAccepted}
use Rattle.script.specs.Uses.{uses_as_body, misused}
use Rattle.script.proofs.EveryLaws.{every_from}
use Rattle.script.proofs.LeastLaws.{least_absent}
use Rattle.script.proofs.SoundLaws.{locals_of_lem}

counted : (n most : ℕ) → 0 < n → n ≤ most → counts n most ≡ true
counted n most h l = and_from _ _ (lt-ltb 0 n h) (le-leb n most l)

module _ (fs : List Function) (gs : List ℕ) (xs : List Node) (l : Limited fs gs xs) where
  within : within_limits fs gs xs ≡ true
  unfolding within_limits
  within =
      and_from _ _
      (and_from _ _ (counted _ _ l.functions.0 l.functions.1) (and_from _ _ (le-leb _ _ l.globals) (counted _ _ l.nodes.0 l.nodes.1)))
      (and_from _ _
      (every_from (function_fits (length xs)) fs no_function (λ f h. and_from _ _ (le-leb _ _ (l.parameters f h)) (and_from _ _ (le-leb _ _ (l.locals f h)) (lt-ltb _ _ (l.body f h)))))
      (and_from _ _ (every_from global_fits gs 0 (λ g h. counted _ _ (l.global g h).0 (l.global g h).1)) (le-leb _ _ l.words)))

below_number : (x : ℤ) (n : ℕ) → Number x n → below x n ≡ true
below_number x n k = ap (λ z. below z n) k.1 ∙ lt-ltb k.0 n k.2

child-fits : (xs : List Node) (i : ℕ) (x : ℤ) (w : Option Sort) → ((s : Sort) → w ≡ Some s → Child xs i x s) → child_fits xs i x w ≡ true
child-fits xs i x None h = refl
child-fits xs i x (Some s) h = let k = h s refl in ap (λ z. child_fits xs i z (Some s)) k.1 ∙ and_from _ _ (lt-ltb k.0 i k.2) k.3

-- a test that has to pass only where another does
where_asked : (t rest : Bool) → (t ≡ true → rest ≡ true) → (not t || rest) ≡ true
where_asked true rest h = h refl
where_asked false rest h = refl

-- a test that fails wherever another passes
never_both : (t rest : Bool) → (t ≡ true → rest ≡ true) → (t && not rest) ≡ false
never_both true rest h = ap not (h refl)
never_both false rest h = refl

module _ (fs : List Function) (gs : List ℕ) (xs : List Node) (s : Shaped fs gs xs) (n : ℕ) (h : n < length xs) where
  number-fits : number_fits (length fs) (node_at xs n) ≡ true
  number-fits =
      ⊎_elim
      (λ k. cond-true _ _ _ (eq-eqb _ _ k) ∙ below_number _ _ (s.operator n h k))
      (λ k. cond-false _ _ _ (ne_eqb _ _ k) ∙ ⊎_elim (λ c. cond-true _ _ _ (eq-eqb _ _ c) ∙ below_number _ _ (s.callees n h c)) (λ c. cond-false _ _ _ (ne_eqb _ _ c)) (cases_eq (kind_at xs n) 12))
      (cases_eq (kind_at xs n) 9)

  body-fits : body_fits fs n (kind_at xs n) ≡ true
  body-fits =
      ⊎_elim (λ z. or_left _ _ (eq-eqb _ _ z)) (λ z. or_right _ _ (s.body n h z)) (cases_eq (uses_as_body fs n) 0)

  named-fits : named_fits gs (node_at xs n) ≡ true
  named-fits =
      where_asked (names_global (kind_at xs n)) _ (λ k. and_from _ _ (below_number _ _ (s.global n h k)) (where_asked (names_word (kind_at xs n)) _ (λ w. eq-eqb _ _ (s.word n h w))))

  shaped_node : misshapen fs gs xs n ≡ false
  unfolding misshapen
  shaped_node =
      ap not
      (and_from _ _ (le-leb _ _ (s.kind n h))
      (and_from _ _
      (and_from _ _ (child-fits xs n _ _ (s.children.in_a n h)) (and_from _ _ (child-fits xs n _ _ (s.children.in_b n h)) (child-fits xs n _ _ (s.children.in_c n h))))
      (and_from _ _ named-fits (and_from _ _ number-fits body-fits))))

-- a statement is neither of the other two
statement_alone : (k : ℕ) → is_of Statement k ≡ true → (is_of Expression k || is_of Arguments k) ≡ false
statement_alone k e = grind (arith, nat_tests)

module _ (fs : List Function) (gs : List ℕ) (xs : List Node) (s : Sound fs gs xs) (n : ℕ) (h : n < length xs) where
  used_once : misused fs xs n ≡ false
  used_once = ap not (eq-eqb _ _ (s.used n h))

  local-there : names_local (kind_at xs n) ≡ true → below (node_at xs n).a (locals_under fs (root_of xs n)) ≡ true
  local-there k =
      let f = s.rooted.body n h in
      let once = s.used (root_of xs n) (omega (arith, s.limited.body f.0 f.1, f.2)) in
      rw (locals_of_lem fs (root_of xs n) f.0 f.1 f.2 (omega (arith, once))) (below_number _ _ (s.local n f.0 h f.1 f.2 k))

  arguments-there : eqb (kind_at xs n) 12 ≡ true → eqb (arguments_of xs n) (parameters_of fs (node_at xs n).a) ≡ true
  arguments-there e =
      let k = eqb-true _ _ e in
      let f = s.shaped.callees n h k in
      eq-eqb _ _ (s.arguments n f.0 h k f.1 ∙ sym (ap (parameters_of fs) f.1))

  in_scope : out_of_scope fs xs n ≡ false
  unfolding out_of_scope
  in_scope = or_from _ _ (never_both _ _ local-there) (never_both _ _ arguments-there)

  flat : too_deep xs n ≡ false
  unfolding too_deep
  flat =
      ⊎_elim
      (λ t. and_left _ _ (statement_alone (kind_at xs n) t))
      (λ t. and_right _ _ (le-ltb _ _ (s.nesting n h t)))
      (cases_Bool (is_of Statement (kind_at xs n)))

no_fault : {X : Type 0} (a b : Option X) → a ≡ None → b ≡ None → or_else a b ≡ None
no_fault a b e h = ap (λ o. or_else o b) e ∙ h

pub accepted : SoundAreAccepted
unfolding nodes_fault
accepted fs gs xs s =
    let clear : (why : Reason) (p : ℕ → Bool) → ((n : ℕ) → n < length xs → p n ≡ false) → fault_at why (least_below p (length xs)) ≡ None = λ why p h. ap (fault_at why) (least_absent p (length xs) h) in
    no_fault _ _ (cond-true _ _ _ (within fs gs xs s.limited))
    (no_fault _ _ (clear _ _ (shaped_node fs gs xs s.shaped))
    (no_fault _ _ (clear _ _ (used_once fs gs xs s))
    (no_fault _ _ (clear _ _ (in_scope fs gs xs s)) (clear _ _ (flat fs gs xs s)))))
