-- What the tables' nodes are read as, kind by kind.
use Rattle.std.proofs.Common.{◌≡◌, ℕ, zero, suc, ◌+◌, ◌<◌, eqb, List, [], ◌∷◌, ◌++◌, length, get_or, take, ℤ, pos, nat_abs, sym, ap, ◌∙◌, append_assoc, append-nil, arith, length-take-le, get_or-take}
use lib.Seq.{get_or_at, take-append_seam}
use Rattle.std.proofs.lemmas.List.{length_push, get_or-map}
use Rattle.std.proofs.lemmas.Bool.{cond-false, ne_eqb}
use Rattle.script.specs.declared.Node.{Node}
use Rattle.script.specs.declared.Function.{Function as Row}
use Rattle.meaning.specs.Tree
use Rattle.meaning.specs.Tables.{Part, no_part, no_node, child, operator, part_of, part_after, parts_after, parts, part_at, expr_at, args_at, stmt_at, function_of, script_of}
use Rattle.meaning.specs.Meaning.{no_function}

-- the parts before stay where they are
kept : (before : List Part) (xs : List Node) → (later : List Part) × (parts_after before xs ≡ before ++ later)
unfolding parts_after
kept before [] = ([], sym (append-nil before))
kept before (x ∷ xs) =
    let q = kept (before ++ (part_after before x ∷ [])) xs in
    (part_after before x ∷ q.0, q.1 ∙ append_assoc before (part_after before x ∷ []) q.0)

parts-length : (before : List Part) (xs : List Node) → length (parts_after before xs) ≡ length before + length xs
unfolding parts_after
parts-length before [] = omega arith
parts-length before (x ∷ xs) = let p = length_push before (part_after before x) in let q = parts-length (before ++ (part_after before x ∷ [])) xs in omega arith

-- what stands behind the parts before, made from them
seam : {A : Type 0} (f : List A → A) (before later all : List A) (d : A) (i : ℕ) → length before ≡ i → all ≡ before ++ (f before ∷ later) → get_or all i d ≡ f (take i all)
seam f before later all d i e q =
    let front : take i all ≡ before = ap (take i) q ∙ ap (λ (n : ℕ). take n (before ++ (f before ∷ later))) (sym e) ∙ take-append_seam before (f before ∷ later) in
    ap (λ l. get_or l i d) q ∙ get_or_at before (f before) later d i e ∙ ap f (sym front)

-- the node n's part, n counted from those before
part_after_lem : (before : List Part) (xs : List Node) (n i : ℕ) → i ≡ length before + n → n < length xs
    → get_or (parts_after before xs) i no_part ≡ part_after (take i (parts_after before xs)) (get_or xs n no_node)
unfolding parts_after
part_after_lem before [] n i e h = absurd (omega arith)
part_after_lem before (x ∷ xs) zero i e h =
    let q = kept (before ++ (part_after before x ∷ [])) xs in
    seam (λ ps. part_after ps x) before q.0 (parts_after before (x ∷ xs)) no_part i (omega arith) (q.1 ∙ append_assoc before (part_after before x ∷ []) q.0)
part_after_lem before (x ∷ xs) (suc n) i e h = let p = length_push before (part_after before x) in part_after_lem (before ++ (part_after before x ∷ [])) xs n i (omega arith) (omega arith)

-- a field of the node n names the child m
abbrev pub Names : ℕ → ℤ → ℕ → Type 0
Names n x m = (x ≡ pos m) × (m < n)

child_is : (xs : List Node) (n : ℕ) (x : ℤ) (m : ℕ) → Names n x m → child (take n (parts xs)) x ≡ part_at xs m
child_is xs n x m h = ap (child (take n (parts xs))) h.0 ∙ get_or-take n (parts xs) m no_part h.1

module _ (xs : List Node) (n : ℕ) (here : n < length xs) where
  abbrev node : Node
  node = get_or xs n no_node

  part_is : part_at xs n ≡ part_of n node (child (take n (parts xs)) node.a) (child (take n (parts xs)) node.b) (child (take n (parts xs)) node.c)
  part_is =
      let p = parts-length [] xs in
      part_after_lem [] xs n n (omega arith) here
      ∙ ap (λ (i : ℕ). part_of i node (child (take n (parts xs)) node.a) (child (take n (parts xs)) node.b) (child (take n (parts xs)) node.c)) (length-take-le n (parts xs) (omega arith))

  pub expr_constant : node.kind ≡ 0 → expr_at xs n ≡ Tree.constant n node.a
  expr_constant k = ap (λ (p : Part). p.expr) part_is ∙ rw k

  pub expr_local : node.kind ≡ 1 → expr_at xs n ≡ Tree.local n (nat_abs node.a)
  expr_local k = ap (λ (p : Part). p.expr) part_is ∙ rw k

  pub expr_global : node.kind ≡ 2 → expr_at xs n ≡ Tree.global n (nat_abs node.a)
  expr_global k = ap (λ (p : Part). p.expr) part_is ∙ rw k

  pub expr_element : (b : ℕ) → node.kind ≡ 3 → Names n node.b b → expr_at xs n ≡ Tree.element n (nat_abs node.a) (expr_at xs b)
  expr_element b k hb = ap (λ (p : Part). p.expr) part_is ∙ rw (k, child_is xs n node.b b hb)

  pub expr_set_local : (b : ℕ) → node.kind ≡ 4 → Names n node.b b → expr_at xs n ≡ Tree.set_local n (nat_abs node.a) (expr_at xs b)
  expr_set_local b k hb = ap (λ (p : Part). p.expr) part_is ∙ rw (k, child_is xs n node.b b hb)

  pub expr_set_global : (b : ℕ) → node.kind ≡ 5 → Names n node.b b → expr_at xs n ≡ Tree.set_global n (nat_abs node.a) (expr_at xs b)
  expr_set_global b k hb = ap (λ (p : Part). p.expr) part_is ∙ rw (k, child_is xs n node.b b hb)

  pub expr_set_element : (b c : ℕ) → node.kind ≡ 6 → Names n node.b b → Names n node.c c → expr_at xs n ≡ Tree.set_element n (nat_abs node.a) (expr_at xs b) (expr_at xs c)
  expr_set_element b c k hb hc = ap (λ (p : Part). p.expr) part_is ∙ rw (k, child_is xs n node.b b hb, child_is xs n node.c c hc)

  pub expr_negation : (a : ℕ) → node.kind ≡ 7 → Names n node.a a → expr_at xs n ≡ Tree.negation n (expr_at xs a)
  expr_negation a k ha = ap (λ (p : Part). p.expr) part_is ∙ rw (k, child_is xs n node.a a ha)

  pub expr_print : (a : ℕ) → node.kind ≡ 8 → Names n node.a a → expr_at xs n ≡ Tree.print n (expr_at xs a)
  expr_print a k ha = ap (λ (p : Part). p.expr) part_is ∙ rw (k, child_is xs n node.a a ha)

  pub expr_binary : (a b : ℕ) → node.kind ≡ 9 → Names n node.a a → Names n node.b b → expr_at xs n ≡ Tree.binary n (operator node.c) (expr_at xs a) (expr_at xs b)
  expr_binary a b k ha hb = ap (λ (p : Part). p.expr) part_is ∙ rw (k, child_is xs n node.a a ha, child_is xs n node.b b hb)

  pub expr_both : (a b : ℕ) → node.kind ≡ 10 → Names n node.a a → Names n node.b b → expr_at xs n ≡ Tree.both n (expr_at xs a) (expr_at xs b)
  expr_both a b k ha hb = ap (λ (p : Part). p.expr) part_is ∙ rw (k, child_is xs n node.a a ha, child_is xs n node.b b hb)

  pub expr_either : (a b : ℕ) → node.kind ≡ 11 → Names n node.a a → Names n node.b b → expr_at xs n ≡ Tree.either n (expr_at xs a) (expr_at xs b)
  expr_either a b k ha hb = ap (λ (p : Part). p.expr) part_is ∙ rw (k, child_is xs n node.a a ha, child_is xs n node.b b hb)

  pub expr_call : (b : ℕ) → node.kind ≡ 12 → Names n node.b b → expr_at xs n ≡ Tree.call n (nat_abs node.a) (args_at xs b)
  expr_call b k hb = ap (λ (p : Part). p.expr) part_is ∙ rw (k, child_is xs n node.b b hb)

  pub args_none : node.kind ≡ 13 → args_at xs n ≡ Tree.none n
  args_none k = ap (λ (p : Part). p.args) part_is ∙ rw k

  pub args_also : (a b : ℕ) → node.kind ≡ 14 → Names n node.a a → Names n node.b b → args_at xs n ≡ Tree.also n (expr_at xs a) (args_at xs b)
  args_also a b k ha hb = ap (λ (p : Part). p.args) part_is ∙ rw (k, child_is xs n node.a a ha, child_is xs n node.b b hb)

  pub stmt_nothing : node.kind ≡ 15 → stmt_at xs n ≡ Tree.nothing n
  stmt_nothing k = ap (λ (p : Part). p.stmt) part_is ∙ rw k

  pub stmt_chain : (a b : ℕ) → node.kind ≡ 16 → Names n node.a a → Names n node.b b → stmt_at xs n ≡ Tree.chain n (stmt_at xs a) (stmt_at xs b)
  stmt_chain a b k ha hb = ap (λ (p : Part). p.stmt) part_is ∙ rw (k, child_is xs n node.a a ha, child_is xs n node.b b hb)

  pub stmt_discard : (a : ℕ) → node.kind ≡ 17 → Names n node.a a → stmt_at xs n ≡ Tree.discard n (expr_at xs a)
  stmt_discard a k ha = ap (λ (p : Part). p.stmt) part_is ∙ rw (k, child_is xs n node.a a ha)

  pub stmt_if : (a b c : ℕ) → node.kind ≡ 18 → Names n node.a a → Names n node.b b → Names n node.c c → stmt_at xs n ≡ Tree.if n (expr_at xs a) (stmt_at xs b) (stmt_at xs c)
  stmt_if a b c k ha hb hc = ap (λ (p : Part). p.stmt) part_is ∙ rw (k, child_is xs n node.a a ha, child_is xs n node.b b hb, child_is xs n node.c c hc)

  pub stmt_while : (a b : ℕ) → node.kind ≡ 19 → Names n node.a a → Names n node.b b → stmt_at xs n ≡ Tree.while n (expr_at xs a) (stmt_at xs b)
  stmt_while a b k ha hb = ap (λ (p : Part). p.stmt) part_is ∙ rw (k, child_is xs n node.a a ha, child_is xs n node.b b hb)

-- a return, by what it returns
module _ (xs : List Node) (n : ℕ) (here : n < length xs) (m : ℕ) (kind : (get_or xs n no_node).kind ≡ 20) (kid : Names n (get_or xs n no_node).a m) where
  abbrev kid_node : Node
  kid_node = get_or xs m no_node

  below : m < length xs
  below = let l = kid.1 in omega arith

  returned_is : stmt_at xs n ≡ (part_at xs m).returned n
  returned_is = ap (λ (p : Part). p.stmt) (part_is xs n here) ∙ rw (kind, child_is xs n (get_or xs n no_node).a m kid)

  pub stmt_return : (kid_node.kind ≡ 12 → ⊥) → stmt_at xs n ≡ Tree.return n (expr_at xs m)
  stmt_return other =
      returned_is ∙ ap (λ (p : Part). p.returned n) (part_is xs m below)
      ∙ cond-false (eqb kid_node.kind 12) _ _ (ne_eqb kid_node.kind 12 other)
      ∙ ap (Tree.return n) (sym (ap (λ (p : Part). p.expr) (part_is xs m below)))

  pub stmt_replace : (b : ℕ) → kid_node.kind ≡ 12 → Names m kid_node.b b → stmt_at xs n ≡ Tree.replace n m (nat_abs kid_node.a) (args_at xs b)
  stmt_replace b k hb = returned_is ∙ ap (λ (p : Part). p.returned n) (part_is xs m below) ∙ rw (k, child_is xs m kid_node.b b hb)

-- a function of the script
pub function_is : (fs : List Row) (lengths : List ℕ) (xs : List Node) (f : ℕ) (row : Row) → f < length fs
    → get_or (script_of fs lengths xs).functions f no_function
    ≡ record { parameters = (get_or fs f row).parameters; locals = (get_or fs f row).locals; body = stmt_at xs (get_or fs f row).body }
function_is fs lengths xs f row h = get_or-map (function_of (parts xs)) fs f row no_function h
