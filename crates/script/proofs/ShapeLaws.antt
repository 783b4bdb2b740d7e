-- Nodes of which none is misshapen are well shaped.
use Rattle.std.proofs.Common.{◌≡◌, ℕ, ◌<◌, Bool, true, false, not, ◌&&◌, ◌||◌, eqb, leb, List, length, ℤ, pos, negsuc, Some, None, Option, sym, refl, ap, ◌∙◌, ⊎_elim, arith}
use Rattle.std.proofs.lemmas.Bool.{not-false, and_parts, or_cases, leb-true, ltb-true, eqb-true, both_ways}
use Rattle.std.proofs.lemmas.Bool.Decides.{nat_tests}
use Rattle.script.specs.declared.Function.{Function}
use Rattle.script.specs.declared.Node.{Node}
use Rattle.script.specs.declared.kinds.Sort.{Sort}
use Rattle.script.specs.Kinds.{last_kind, node_at, kind_at, want_a, want_b}
use Rattle.script.specs.Least.{least_below}
use Rattle.script.specs.Shape.{below, child_fits, children_fit, names_global, names_word, length_of, named_fits, number_fits, body_fits, fits, misshapen}
use Rattle.script.specs.Shaped.{Number, Child, Shaped}
use Rattle.script.specs.Uses.{uses_as_body}
use Rattle.script.proofs.LeastLaws.{least_clear}

never : {P : Type 0} → false ≡ true → P
never e = absurd (both_ways false refl e)

pub number_from : (x : ℤ) (n : ℕ) → below x n ≡ true → Number x n
number_from (pos m) n e = (m, refl, ltb-true m n e)
number_from (negsuc m) n e = never e

child_at : (xs : List Node) (i : ℕ) (x : ℤ) (s : Sort) → child_fits xs i x (Some s) ≡ true → Child xs i x s
child_at xs i (pos m) s e = let p = and_parts _ _ e in (m, refl, ltb-true m i p.0, p.1)
child_at xs i (negsuc m) s e = never e

child_from : (xs : List Node) (i : ℕ) (x : ℤ) (w : Option Sort) (s : Sort) → child_fits xs i x w ≡ true → w ≡ Some s → Child xs i x s
child_from xs i x w s e q = child_at xs i x s (sym (ap (child_fits xs i x) q) ∙ e)

-- an implication between tests
implied : (t rest : Bool) → (not t || rest) ≡ true → t ≡ true → rest ≡ true
implied true rest e q = e
implied false rest e q = never q

module _ (fs : List Function) (gs : List ℕ) (xs : List Node) (clear : least_below (misshapen fs gs xs) (length xs) ≡ None) (n : ℕ) (h : n < length xs) where
  node-fits : fits fs gs xs n (node_at xs n) ≡ true
  unfolding misshapen
  node-fits = not-false _ (least_clear (misshapen fs gs xs) (length xs) clear n h)

  past_kind : (children_fit xs n (node_at xs n) && (named_fits gs (node_at xs n) && (number_fits (length fs) (node_at xs n) && body_fits fs n (kind_at xs n)))) ≡ true
  past_kind = (and_parts (leb (kind_at xs n) last_kind) _ node-fits).1

  children_fit_lem : children_fit xs n (node_at xs n) ≡ true
  children_fit_lem = (and_parts (children_fit xs n (node_at xs n)) _ past_kind).0

  past_children : (named_fits gs (node_at xs n) && (number_fits (length fs) (node_at xs n) && body_fits fs n (kind_at xs n))) ≡ true
  past_children = (and_parts (children_fit xs n (node_at xs n)) _ past_kind).1

  global-fits : names_global (kind_at xs n) ≡ true → (below (node_at xs n).a (length gs) && (not (names_word (kind_at xs n)) || eqb (length_of gs (node_at xs n).a) 1)) ≡ true
  global-fits = implied (names_global (kind_at xs n)) _ (and_parts (named_fits gs (node_at xs n)) _ past_children).0

  past_named : (number_fits (length fs) (node_at xs n) && body_fits fs n (kind_at xs n)) ≡ true
  past_named = (and_parts (named_fits gs (node_at xs n)) _ past_children).1

  number_fits_lem : number_fits (length fs) (node_at xs n) ≡ true
  number_fits_lem = (and_parts (number_fits (length fs) (node_at xs n)) _ past_named).0

  body-fits : body_fits fs n (kind_at xs n) ≡ true
  body-fits = (and_parts (number_fits (length fs) (node_at xs n)) _ past_named).1

-- a kind that names one word names a global
word_is_global : (k : ℕ) → names_word k ≡ true → names_global k ≡ true
word_is_global k e = grind (arith, nat_tests)

pub shaped : (fs : List Function) (gs : List ℕ) (xs : List Node) → least_below (misshapen fs gs xs) (length xs) ≡ None → Shaped fs gs xs
shaped fs gs xs clear =
    let in_a : ℕ → Bool = λ n. child_fits xs n (node_at xs n).a (want_a (kind_at xs n)) in
    let in_b : ℕ → Bool = λ n. child_fits xs n (node_at xs n).b (want_b (kind_at xs n)) in
    let kids = children_fit_lem fs gs xs clear in
    let numbers = number_fits_lem fs gs xs clear in
    let named = global-fits fs gs xs clear in
    record {
      kind = λ n h. leb-true _ _ (and_parts (leb (kind_at xs n) last_kind) _ (node-fits fs gs xs clear n h)).0;
      children = record {
        in_a = λ n h s. child_from xs n _ _ s (and_parts _ _ (kids n h)).0;
        in_b = λ n h s. child_from xs n _ _ s (and_parts _ _ (and_parts (in_a n) _ (kids n h)).1).0;
        in_c = λ n h s. child_from xs n _ _ s (and_parts (in_b n) _ (and_parts (in_a n) _ (kids n h)).1).1;
      };
      operator = λ n h k. number_from _ _ (simp k at (numbers n h));
      global = λ n h k. number_from _ _ (and_parts _ _ (named n h k)).0;
      word = λ n h k. eqb-true _ _ (implied _ _ (and_parts _ _ (named n h (word_is_global (kind_at xs n) k))).1 k);
      callees = λ n h k. number_from _ _ (simp k at (numbers n h));
      body = λ n h u. ⊎_elim (λ z. absurd (u (eqb-true _ _ z))) (λ z. z) (or_cases (eqb (uses_as_body fs n) 0) _ (body-fits fs gs xs clear n h));
    }
