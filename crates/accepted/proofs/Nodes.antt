-- Each node is good where those below it are, kind by kind.
use Rattle.std.proofs.Common.{◌≡◌, ℕ, zero, suc, pred, ◌<◌, true, List, length, ap, ◌∙◌, ⊎_elim, arith}
use Rattle.std.proofs.ByRecursion.{All-get_or}
use Rattle.std.proofs.lemmas.Bool.{cases_eq}
use Rattle.script.specs.declared.Function.{Function as Row}
use Rattle.script.specs.declared.Node.{Node}
use Rattle.script.specs.Kinds.{no_node, node_at, kind_at, want_a, want_b, want_c}
use Rattle.script.specs.Numbering.{number_at, numbers_below}
use Rattle.script.specs.Scope.{arguments_by, function_at, names_local}
use Rattle.script.specs.Shape.{names_global}
use Rattle.script.specs.Sound.{Sound}
use Rattle.script.proofs.NestingLaws.{empty_list}
use Rattle.script.proofs.ScopeLaws.{arguments_more, arguments_call, arguments_none}
use Rattle.meaning.proofs.Decodes
use Rattle.meaning.specs.Tables.{args_at}
use Rattle.scheme.specs.Scheme.{count}
use Rattle.symbolic.specs.Symbolic.{Fits}
use Rattle.accepted.specs.Accepted.{ConstantsFit}
use Rattle.accepted.proofs.Kids.{pick_expression, pick_statement, is_expression, is_list, is_statement, nests}
use Rattle.accepted.proofs.Good.{GoodE, GoodA, GoodS, Good, Inside, Spot, expr_a, expr_b, expr_c, list_b, stmt_a, stmt_b, stmt_c, roomy, of_global, of_local, of_call, listed}

module _ {fs : List Row} {gs : List ℕ} {xs : List Node} {f n : ℕ} (at : Spot fs gs xs f n) where
  constant : kind_at xs n ≡ 0 → GoodE fs gs xs f n
  constant k r h = rw (Decodes.expr_constant xs n at.here k) (All-get_or (λ x. x.kind ≡ 0 → Fits x.a) xs n no_node at.here at.fit k, omega arith)

  local : kind_at xs n ≡ 1 → GoodE fs gs xs f n
  local k r h = rw (Decodes.expr_local xs n at.here k) (of_local at (ap names_local k), omega (arith, nests xs n))

  global : kind_at xs n ≡ 2 → GoodE fs gs xs f n
  global k r h = rw (Decodes.expr_global xs n at.here k) ((of_global at (ap names_global k)).0, omega arith)

  element : kind_at xs n ≡ 3 → GoodE fs gs xs f n
  element k r h =
      let b = expr_b at (ap want_b k) in
      rw (Decodes.expr_element xs n at.here b.0 k b.1)
      ((of_global at (ap names_global k)).1, omega (arith, b.3, nests xs b.0), b.2 r (omega (arith, b.3)))

  set_local : kind_at xs n ≡ 4 → GoodE fs gs xs f n
  set_local k r h =
      let b = expr_b at (ap want_b k) in
      rw (Decodes.expr_set_local xs n at.here b.0 k b.1)
      (of_local at (ap names_local k), omega (arith, nests xs n), b.2 (pred r) (omega (arith, b.3)))

  set_global : kind_at xs n ≡ 5 → GoodE fs gs xs f n
  set_global k r h =
      let b = expr_b at (ap want_b k) in
      rw (Decodes.expr_set_global xs n at.here b.0 k b.1)
      ((of_global at (ap names_global k)).0, omega arith, b.2 (pred r) (omega (arith, b.3)))

  set_element : kind_at xs n ≡ 6 → GoodE fs gs xs f n
  set_element k r h =
      let b = expr_b at (ap want_b k) in
      let c = expr_c at (ap want_c k) in
      rw (Decodes.expr_set_element xs n at.here b.0 c.0 k b.1 c.1)
      ((of_global at (ap names_global k)).1, omega (arith, b.3, nests xs b.0), b.2 r (omega (arith, b.3)), c.2 (pred r) (omega (arith, c.3)))

  negation : kind_at xs n ≡ 7 → GoodE fs gs xs f n
  negation k r h =
      let a = expr_a at (ap want_a k) in
      rw (Decodes.expr_negation xs n at.here a.0 k a.1) (a.2 r (omega (arith, a.3)))

  print : kind_at xs n ≡ 8 → GoodE fs gs xs f n
  print k r h =
      let a = expr_a at (ap want_a k) in
      rw (Decodes.expr_print xs n at.here a.0 k a.1) (a.2 r (omega (arith, a.3)))

  binary : kind_at xs n ≡ 9 → GoodE fs gs xs f n
  binary k r h =
      let a = expr_a at (ap want_a k) in
      let b = expr_b at (ap want_b k) in
      rw (Decodes.expr_binary xs n at.here a.0 b.0 k a.1 b.1) (a.2 r (omega (arith, a.3)), b.2 (pred r) (omega (arith, b.3)), omega arith)

  both : kind_at xs n ≡ 10 → GoodE fs gs xs f n
  both k r h =
      let a = expr_a at (ap want_a k) in
      let b = expr_b at (ap want_b k) in
      rw (Decodes.expr_both xs n at.here a.0 b.0 k a.1 b.1) (a.2 r (omega (arith, a.3)), b.2 r (omega (arith, b.3)), omega arith)

  either : kind_at xs n ≡ 11 → GoodE fs gs xs f n
  either k r h =
      let a = expr_a at (ap want_a k) in
      let b = expr_b at (ap want_b k) in
      rw (Decodes.expr_either xs n at.here a.0 b.0 k a.1 b.1) (a.2 r (omega (arith, a.3)), b.2 r (omega (arith, b.3)), omega arith)

  call : kind_at xs n ≡ 12 → GoodE fs gs xs f n
  call k r h =
      let b = list_b at (ap want_b k) in
      let counted = arguments_call (node_at xs n) (number_at (numbers_below arguments_by xs n)) (count (args_at xs b.0)) k (b.2.1 ∙ listed at (node_at xs n).b b.0 b.1) in
      rw (Decodes.expr_call xs n at.here b.0 k b.1) (b.2.0 r (omega (arith, b.3)), of_call at k (count (args_at xs b.0)) counted)

  expression : is_expression (kind_at xs n) ≡ true → GoodE fs gs xs f n
  expression e =
      pick_expression (kind_at xs n) e (GoodE fs gs xs f n)
      (constant, (local, (global, (element, (set_local, (set_global, (set_element, (negation, (print, (binary, (both, (either, (call, tt)))))))))))))

  none : kind_at xs n ≡ 13 → GoodA fs gs xs f n
  none k =
      let e = Decodes.args_none xs n at.here k in
      let counted = arguments_none (node_at xs n) (number_at (numbers_below arguments_by xs n)) 0 (λ q. omega (arith, k, q)) (λ q. omega (arith, k, q)) in
      (λ r h. rw e tt, ap count e ∙ counted)

  also : kind_at xs n ≡ 14 → GoodA fs gs xs f n
  also k =
      let a = expr_a at (ap want_a k) in
      let b = list_b at (ap want_b k) in
      let e = Decodes.args_also xs n at.here a.0 b.0 k a.1 b.1 in
      let counted = arguments_more (node_at xs n) (number_at (numbers_below arguments_by xs n)) (count (args_at xs b.0)) k (b.2.1 ∙ listed at (node_at xs n).b b.0 b.1) in
      (λ r h. rw e (a.2 r (omega (arith, a.3)), b.2.0 (pred r) (omega (arith, b.3)), omega arith), omega (arith, ap count e, counted))

  list : is_list (kind_at xs n) ≡ true → GoodA fs gs xs f n
  list e = ⊎_elim also (λ o. none (empty_list (kind_at xs n) e o)) (cases_eq (kind_at xs n) 14)

  nothing : kind_at xs n ≡ 15 → GoodS fs gs xs f n
  nothing k = rw (Decodes.stmt_nothing xs n at.here k) tt

  chain : kind_at xs n ≡ 16 → GoodS fs gs xs f n
  chain k =
      let a = stmt_a at (ap want_a k) in
      let b = stmt_b at (ap want_b k) in
      rw (Decodes.stmt_chain xs n at.here a.0 b.0 k a.1 b.1) (a.2, b.2)

  discard : kind_at xs n ≡ 17 → GoodS fs gs xs f n
  discard k =
      let a = expr_a at (ap want_a k) in
      rw (Decodes.stmt_discard xs n at.here a.0 k a.1) (roomy at a)

  if : kind_at xs n ≡ 18 → GoodS fs gs xs f n
  if k =
      let a = expr_a at (ap want_a k) in
      let b = stmt_b at (ap want_b k) in
      let c = stmt_c at (ap want_c k) in
      rw (Decodes.stmt_if xs n at.here a.0 b.0 c.0 k a.1 b.1 c.1) (roomy at a, b.2, c.2)

  while : kind_at xs n ≡ 19 → GoodS fs gs xs f n
  while k =
      let a = expr_a at (ap want_a k) in
      let b = stmt_b at (ap want_b k) in
      rw (Decodes.stmt_while xs n at.here a.0 b.0 k a.1 b.1) (roomy at a, b.2)

  -- a call that is returned has its list's room and its function as any call has
  return : kind_at xs n ≡ 20 → GoodS fs gs xs f n
  return k =
      let a = expr_a at (ap want_a k) in
      let room = roomy at a in
      let there : a.0 < length xs = omega (arith, a.1.1, at.here) in
      ⊎_elim
      (λ c. let b = at.sound.shaped.children.in_b a.0 there _ (ap want_b c) in
      rw (Decodes.stmt_replace xs n at.here a.0 k a.1 b.0 c (b.1, b.2)) (rw (Decodes.expr_call xs a.0 there b.0 c (b.1, b.2)) at room))
      (λ o. rw (Decodes.stmt_return xs n at.here a.0 k a.1 o) room)
      (cases_eq (kind_at xs a.0) 12)

  statement : is_statement (kind_at xs n) ≡ true → GoodS fs gs xs f n
  statement e = pick_statement (kind_at xs n) e (GoodS fs gs xs f n) (nothing, (chain, (discard, (if, (while, (return, tt))))))

  pub node_good : Good fs gs xs f n
  node_good = (expression, list, statement)

module _ (fs : List Row) (gs : List ℕ) (xs : List Node) (sound : Sound fs gs xs) (fit : ConstantsFit xs) (f : ℕ) (within : f < length fs) where
  good_below : (k n : ℕ) → n < k → n < length xs → Inside fs gs xs f n → Good fs gs xs f n
  good_below zero n l here inside = absurd (omega arith)
  good_below (suc k) n l here inside =
      node_good (record { sound = sound; fit = fit; within = within; here = here; inside = inside; below = λ m h. good_below k m (omega arith) (omega arith) })

  -- a body is proper
  pub body_good : GoodS fs gs xs f (function_at fs f).body
  body_good =
      let b = (function_at fs f).body in
      (good_below (suc b) b (omega arith) (sound.limited.body f within) (sound.rooted.of_body f within)).2 (sound.body f within)
