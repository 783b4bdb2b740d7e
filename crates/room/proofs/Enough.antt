-- Every node is used once, so that the rooms of the bodies are together at most what the nodes take one by one.
use Rattle.std.proofs.Common.{◌≡◌, ℕ, suc, ◌+◌, ◌*◌, ◌<◌, ◌≤◌, cond, eqb, List, [], ◌∷◌, length, get_or, ℤ, Some, None, sum_by, Option, refl, ap, ◌∙◌, arith}
use Rattle.std.proofs.lemmas.List.Sums.{sum_by-cons}
use Rattle.std.proofs.lemmas.Bool.{cond-true, eq-eqb}
use Rattle.script.specs.declared.Function.{Function}
use Rattle.script.specs.declared.Node.{Node}
use Rattle.script.specs.declared.kinds.Sort.{Sort}
use Rattle.script.specs.Kinds.{no_node, node_at, want_a, want_b, want_c}
use Rattle.script.specs.Limits.{max_locals}
use Rattle.script.specs.Scope.{no_function, function_at}
use Rattle.script.specs.Shaped.{Child}
use Rattle.script.specs.Sound.{Sound}
use Rattle.script.specs.Uses.{uses, child_uses, uses_as_child, uses_as_body}
use Rattle.room.specs.Bound.{node_room, function_room, functions_room, DraftsHaveRoom}
use Rattle.room.proofs.Sums.{sum_le, weigh, weigh_add, weigh_has, weigh_sum, weigh_once, up_to_table}
use Rattle.room.proofs.Nodes.{room_at, in_field, below, stmt_room_lem, bounded}

module _ (fs : List Function) (gs : List ℕ) (xs : List Node) (sound : Sound fs gs xs) where
  abbrev rooms : ℕ → ℕ
  rooms = room_at xs

  -- a child is named where it stands
  field_weighs : (n : ℕ) (w : Option Sort) (x : ℤ) → n < length xs → ((s : Sort) → w ≡ Some s → Child xs n x s) → in_field xs w x ≤ weigh rooms (uses w x) (length xs)
  field_weighs n None x h c = omega arith
  field_weighs n (Some s) x h c =
      let k = c s refl in
      let e = ap (in_field xs (Some s)) k.1 in
      let one : uses (Some s) x k.0 ≡ 1 = ap (λ z. uses (Some s) z k.0) k.1 ∙ cond-true {A = ℕ} (eqb k.0 k.0) 1 0 (eq-eqb k.0 k.0 refl) in
      omega (arith, e, weigh_has rooms (uses (Some s) x) k.0 (length xs) (omega (arith, k.2)) (omega (arith, one)))

  node_weighs : (n : ℕ) → n < length xs → below xs (node_at xs n) ≤ weigh rooms (child_uses (node_at xs n)) (length xs)
  unfolding child_uses
  node_weighs n h =
      let x = node_at xs n in
      let a = field_weighs n (want_a x.kind) x.a h (λ s e. sound.shaped.children.in_a n h s e) in
      let b = field_weighs n (want_b x.kind) x.b h (λ s e. sound.shaped.children.in_b n h s e) in
      let c = field_weighs n (want_c x.kind) x.c h (λ s e. sound.shaped.children.in_c n h s e) in
      let u = uses (want_a x.kind) x.a in
      let v = uses (want_b x.kind) x.b in
      let w = uses (want_c x.kind) x.c in
      omega (arith, a, b, c, weigh_add rooms u v (length xs), weigh_add rooms (λ m. u m + v m) w (length xs))

  body_weighs : (f : ℕ) → f < length fs → rooms (function_at fs f).body ≤ weigh rooms (λ m. cond (eqb (function_at fs f).body m) 1 0) (length xs)
  body_weighs f h =
      let b = (function_at fs f).body in
      weigh_has rooms (λ m. cond (eqb b m) 1 0) b (length xs) (sound.limited.body f h) (omega (arith, cond-true {A = ℕ} (eqb b b) 1 0 (eq-eqb b b refl)))

  bodies : sum_by (λ f. rooms f.body) fs ≤ node_room * length xs
  bodies =
      let a = up_to_table rooms (below xs) no_node xs (λ i h. bounded xs sound.shaped.children i h (sound.shaped.kind i h)) in
      let b = sum_le (below xs) (λ x. weigh rooms (child_uses x) (length xs)) no_node xs node_weighs in
      let c = weigh_sum rooms child_uses xs (length xs) in
      let d = sum_le (λ f. rooms f.body) (λ f. weigh rooms (λ m. cond (eqb f.body m) 1 0) (length xs)) no_function fs body_weighs in
      let e = weigh_sum rooms (λ (f : Function) (m : ℕ). cond (eqb f.body m) 1 0) fs (length xs) in
      let o = weigh_once rooms (uses_as_child xs) (uses_as_body fs) (length xs) sound.used in
      omega (arith, a, b, c, d, e, o)

-- the functions' room, by that of their bodies
functions_room_lem : (xs : List Node) (hs : List Function) → ((f : ℕ) → f < length hs → (function_room xs (get_or hs f no_function) ≤ room_at xs (get_or hs f no_function).body + (2 * max_locals + 4))) → functions_room xs hs ≤ sum_by (λ f. room_at xs f.body) hs + (2 * max_locals + 4) * length hs
functions_room_lem xs [] h = omega arith
functions_room_lem xs (f ∷ hs) h =
    let r = functions_room_lem xs hs (λ i l. h (suc i) (omega arith)) in
    omega (arith, r, h 0 (omega arith), sum_by-cons (λ g. room_at xs g.body) f hs)

pub room_suffices : DraftsHaveRoom
room_suffices fs gs xs sound =
    let r = functions_room_lem xs fs (λ f h. omega (arith, stmt_room_lem xs (function_at fs f).body (sound.body f h), sound.limited.locals f h)) in
    omega (arith, r, bodies fs gs xs sound, sound.limited.functions.1, sound.limited.nodes.1)
