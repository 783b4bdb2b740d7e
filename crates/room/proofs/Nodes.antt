-- The room of a node: its own words, and the room of its children.
use Rattle.std.proofs.Common.{◌≡◌, ℕ, zero, suc, ◌+◌, ◌<◌, ◌≤◌, true, cond, leb, List, length, ℤ, pos, negsuc, nat_abs, Some, None, Option, refl, ap, ◌∙◌, inl, inr, arith}
use Rattle.std.proofs.lemmas.Bool.{cases_eq}
use Rattle.std.proofs.lemmas.Bool.Decides.{nat_tests}
use Rattle.script.specs.declared.Node.{Node}
use Rattle.script.specs.declared.kinds.Sort.{Sort}
use Rattle.script.specs.declared.kinds.Sort.TheVariants.{Expression, Arguments, Statement}
use Rattle.script.specs.Kinds.{node_at, kind_at, is_of, want_a, want_b, want_c}
use Rattle.script.specs.Shaped.{Children}
use Rattle.meaning.specs.Tables.{expr_at, args_at, stmt_at}
use Rattle.meaning.proofs.Decodes.{Names, expr_constant, expr_local, expr_global, expr_element, expr_set_local, expr_set_global, expr_set_element, expr_negation, expr_print, expr_binary, expr_both, expr_either, expr_call, args_none, args_also, stmt_nothing, stmt_chain, stmt_discard, stmt_if, stmt_while, stmt_return, stmt_replace}
use Rattle.reading.specs.Nodes.{Kid}
use Rattle.reading.specs.Room.{expr_room, args_room, stmt_room}
use Rattle.reading.proofs.ReadLaws.{kid_a, kid_b, kid_c}
use Rattle.room.specs.Bound.{node_room}

module _ (xs : List Node) where
  -- by its sort
  abbrev pub room_at : ℕ → ℕ
  room_at n = cond (leb (kind_at xs n) 12) (expr_room (expr_at xs n)) (cond (leb (kind_at xs n) 14) (args_room (args_at xs n)) (stmt_room (stmt_at xs n)))

  expr_room_lem : (n : ℕ) → is_of Expression (kind_at xs n) ≡ true → room_at n ≡ expr_room (expr_at xs n)
  expr_room_lem n e = grind (arith, nat_tests)

  args_room_lem : (n : ℕ) → is_of Arguments (kind_at xs n) ≡ true → room_at n ≡ args_room (args_at xs n)
  args_room_lem n e = grind (arith, nat_tests)

  pub stmt_room_lem : (n : ℕ) → is_of Statement (kind_at xs n) ≡ true → room_at n ≡ stmt_room (stmt_at xs n)
  stmt_room_lem n e = grind (arith, nat_tests)

  -- the room of the child in a field
  abbrev pub in_field : Option Sort → ℤ → ℕ
  in_field None x = 0
  in_field (Some s) (pos m) = room_at m
  in_field (Some s) (negsuc m) = 0

  abbrev pub below : Node → ℕ
  below x = in_field (want_a x.kind) x.a + in_field (want_b x.kind) x.b + in_field (want_c x.kind) x.c

  in_field_lem : (w : Option Sort) (s : Sort) (x : ℤ) (m : ℕ) → w ≡ Some s → x ≡ pos m → in_field w x ≡ room_at m
  in_field_lem w s x m e q = ap (λ o. in_field o x) e ∙ ap (in_field (Some s)) q

  module _ (children : Children xs) (n : ℕ) (here : n < length xs) where
    abbrev node : Node
    node = node_at xs n

    abbrev Bounded : Type 0
    Bounded = room_at n ≤ node_room + below node

    -- the child in field a: its number, and its room
    field_a : (k : ℕ) → kind_at xs n ≡ k → (s : Sort) → want_a k ≡ Some s → (m : ℕ) × Names n node.a m × Kid xs n s m × (in_field (want_a node.kind) node.a ≡ room_at m)
    field_a k e s w =
        let c = kid_a xs children n here k e s (nat_abs node.a) w refl in
        (nat_abs node.a, c.0, c.1, in_field_lem _ s _ _ (ap want_a e ∙ w) c.0.0)

    -- the child in field b: its number, and its room
    field_b : (k : ℕ) → kind_at xs n ≡ k → (s : Sort) → want_b k ≡ Some s → (m : ℕ) × Names n node.b m × Kid xs n s m × (in_field (want_b node.kind) node.b ≡ room_at m)
    field_b k e s w =
        let c = kid_b xs children n here k e s (nat_abs node.b) w refl in
        (nat_abs node.b, c.0, c.1, in_field_lem _ s _ _ (ap want_b e ∙ w) c.0.0)

    -- the child in field c: its number, and its room
    field_c : (k : ℕ) → kind_at xs n ≡ k → (s : Sort) → want_c k ≡ Some s → (m : ℕ) × Names n node.c m × Kid xs n s m × (in_field (want_c node.kind) node.c ≡ room_at m)
    field_c k e s w =
        let c = kid_c xs children n here k e s (nat_abs node.c) w refl in
        (nat_abs node.c, c.0, c.1, in_field_lem _ s _ _ (ap want_c e ∙ w) c.0.0)

    case_0 : kind_at xs n ≡ 0 → Bounded
    case_0 k =
        omega (arith, ap expr_room (expr_constant xs n here k), expr_room_lem n (ap (is_of Expression) k))

    case_1 : kind_at xs n ≡ 1 → Bounded
    case_1 k =
        omega (arith, ap expr_room (expr_local xs n here k), expr_room_lem n (ap (is_of Expression) k))

    case_2 : kind_at xs n ≡ 2 → Bounded
    case_2 k =
        omega (arith, ap expr_room (expr_global xs n here k), expr_room_lem n (ap (is_of Expression) k))

    case_3 : kind_at xs n ≡ 3 → Bounded
    case_3 k =
        let b = field_b 3 k Expression refl in
        omega (arith, ap expr_room (expr_element xs n here _ k b.1), expr_room_lem n (ap (is_of Expression) k), b.3, expr_room_lem b.0 b.2.1)

    case_4 : kind_at xs n ≡ 4 → Bounded
    case_4 k =
        let b = field_b 4 k Expression refl in
        omega (arith, ap expr_room (expr_set_local xs n here _ k b.1), expr_room_lem n (ap (is_of Expression) k), b.3, expr_room_lem b.0 b.2.1)

    case_5 : kind_at xs n ≡ 5 → Bounded
    case_5 k =
        let b = field_b 5 k Expression refl in
        omega (arith, ap expr_room (expr_set_global xs n here _ k b.1), expr_room_lem n (ap (is_of Expression) k), b.3, expr_room_lem b.0 b.2.1)

    case_6 : kind_at xs n ≡ 6 → Bounded
    case_6 k =
        let b = field_b 6 k Expression refl in
        let c = field_c 6 k Expression refl in
        omega (arith, ap expr_room (expr_set_element xs n here _ _ k b.1 c.1), expr_room_lem n (ap (is_of Expression) k), b.3, expr_room_lem b.0 b.2.1, c.3, expr_room_lem c.0 c.2.1)

    case_7 : kind_at xs n ≡ 7 → Bounded
    case_7 k =
        let a = field_a 7 k Expression refl in
        omega (arith, ap expr_room (expr_negation xs n here _ k a.1), expr_room_lem n (ap (is_of Expression) k), a.3, expr_room_lem a.0 a.2.1)

    case_8 : kind_at xs n ≡ 8 → Bounded
    case_8 k =
        let a = field_a 8 k Expression refl in
        omega (arith, ap expr_room (expr_print xs n here _ k a.1), expr_room_lem n (ap (is_of Expression) k), a.3, expr_room_lem a.0 a.2.1)

    case_9 : kind_at xs n ≡ 9 → Bounded
    case_9 k =
        let a = field_a 9 k Expression refl in
        let b = field_b 9 k Expression refl in
        omega (arith, ap expr_room (expr_binary xs n here _ _ k a.1 b.1), expr_room_lem n (ap (is_of Expression) k), a.3, expr_room_lem a.0 a.2.1, b.3, expr_room_lem b.0 b.2.1)

    case_10 : kind_at xs n ≡ 10 → Bounded
    case_10 k =
        let a = field_a 10 k Expression refl in
        let b = field_b 10 k Expression refl in
        omega (arith, ap expr_room (expr_both xs n here _ _ k a.1 b.1), expr_room_lem n (ap (is_of Expression) k), a.3, expr_room_lem a.0 a.2.1, b.3, expr_room_lem b.0 b.2.1)

    case_11 : kind_at xs n ≡ 11 → Bounded
    case_11 k =
        let a = field_a 11 k Expression refl in
        let b = field_b 11 k Expression refl in
        omega (arith, ap expr_room (expr_either xs n here _ _ k a.1 b.1), expr_room_lem n (ap (is_of Expression) k), a.3, expr_room_lem a.0 a.2.1, b.3, expr_room_lem b.0 b.2.1)

    case_12 : kind_at xs n ≡ 12 → Bounded
    case_12 k =
        let b = field_b 12 k Arguments refl in
        omega (arith, ap expr_room (expr_call xs n here _ k b.1), expr_room_lem n (ap (is_of Expression) k), b.3, args_room_lem b.0 b.2.1)

    case_13 : kind_at xs n ≡ 13 → Bounded
    case_13 k =
        omega (arith, ap args_room (args_none xs n here k), args_room_lem n (ap (is_of Arguments) k))

    case_14 : kind_at xs n ≡ 14 → Bounded
    case_14 k =
        let a = field_a 14 k Expression refl in
        let b = field_b 14 k Arguments refl in
        omega (arith, ap args_room (args_also xs n here _ _ k a.1 b.1), args_room_lem n (ap (is_of Arguments) k), a.3, expr_room_lem a.0 a.2.1, b.3, args_room_lem b.0 b.2.1)

    case_15 : kind_at xs n ≡ 15 → Bounded
    case_15 k =
        omega (arith, ap stmt_room (stmt_nothing xs n here k), stmt_room_lem n (ap (is_of Statement) k))

    case_16 : kind_at xs n ≡ 16 → Bounded
    case_16 k =
        let a = field_a 16 k Statement refl in
        let b = field_b 16 k Statement refl in
        omega (arith, ap stmt_room (stmt_chain xs n here _ _ k a.1 b.1), stmt_room_lem n (ap (is_of Statement) k), a.3, stmt_room_lem a.0 a.2.1, b.3, stmt_room_lem b.0 b.2.1)

    case_17 : kind_at xs n ≡ 17 → Bounded
    case_17 k =
        let a = field_a 17 k Expression refl in
        omega (arith, ap stmt_room (stmt_discard xs n here _ k a.1), stmt_room_lem n (ap (is_of Statement) k), a.3, expr_room_lem a.0 a.2.1)

    case_18 : kind_at xs n ≡ 18 → Bounded
    case_18 k =
        let a = field_a 18 k Expression refl in
        let b = field_b 18 k Statement refl in
        let c = field_c 18 k Statement refl in
        omega (arith, ap stmt_room (stmt_if xs n here _ _ _ k a.1 b.1 c.1), stmt_room_lem n (ap (is_of Statement) k), a.3, expr_room_lem a.0 a.2.1, b.3, stmt_room_lem b.0 b.2.1, c.3, stmt_room_lem c.0 c.2.1)

    case_19 : kind_at xs n ≡ 19 → Bounded
    case_19 k =
        let a = field_a 19 k Expression refl in
        let b = field_b 19 k Statement refl in
        omega (arith, ap stmt_room (stmt_while xs n here _ _ k a.1 b.1), stmt_room_lem n (ap (is_of Statement) k), a.3, expr_room_lem a.0 a.2.1, b.3, stmt_room_lem b.0 b.2.1)

    case_20 : kind_at xs n ≡ 20 → Bounded
    case_20 k =
        let a = field_a 20 k Expression refl in
        elim (cases_eq (kind_at xs a.0) 12) [ inl q ↦ replaced a q | inr q ↦ returned a q ]
      where
        replaced : (a : (m : ℕ) × Names n node.a m × Kid xs n Expression m × (in_field (want_a node.kind) node.a ≡ room_at m)) → kind_at xs a.0 ≡ 12 → Bounded
        replaced a q =
            let below : a.0 < length xs = omega (arith, a.2.0, here) in
            let b = kid_b xs children a.0 below 12 q Arguments _ refl refl in
            omega (arith, stmt_room_lem n (ap (is_of Statement) k), ap stmt_room (stmt_replace xs n here a.0 k a.1 _ q b.0), ap expr_room (expr_call xs a.0 below _ q b.0), a.3, expr_room_lem a.0 a.2.1)

        returned : (a : (m : ℕ) × Names n node.a m × Kid xs n Expression m × (in_field (want_a node.kind) node.a ≡ room_at m)) → (kind_at xs a.0 ≡ 12 → ⊥) → Bounded
        returned a q = omega (arith, stmt_room_lem n (ap (is_of Statement) k), ap stmt_room (stmt_return xs n here a.0 k a.1 q), a.3, expr_room_lem a.0 a.2.1)

    -- a case for each of the first numbers
    abbrev Cases : (ℕ → Type 0) → ℕ → Type 0
    Cases P zero = Unit {0}
    Cases P (suc k) = P 0 × Cases (λ j. P (suc j)) k

    pick : (k j : ℕ) (P : ℕ → Type 0) → j < k → Cases P k → P j
    pick zero j P h t = absurd (omega arith)
    pick (suc k) zero P h t = t.0
    pick (suc k) (suc j) P h t = pick k j (λ i. P (suc i)) (omega arith) t.1

    pub bounded : kind_at xs n ≤ 20 → Bounded
    bounded h = pick 21 (kind_at xs n) (λ k. kind_at xs n ≡ k → Bounded) (omega arith)
        (case_0, (case_1, (case_2, (case_3, (case_4, (case_5, (case_6, (case_7, (case_8, (case_9, (case_10, (case_11, (case_12, (case_13, (case_14, (case_15, (case_16, (case_17, (case_18, (case_19, (case_20, tt))))))))))))))))))))) refl
