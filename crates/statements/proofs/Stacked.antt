-- The entry that was pushed before a part that keeps the stack is popped after it, and the stack is then as it was before the push.
use Rattle.std.proofs.Common.{◌≡◌, ℕ, ◌+◌, ◌-◌, ◌<◌, ltb, Bool, true, cond, List, length, get_or, take, set, Some, Option, sym, ap, ◌∙◌, add-one, arith, length-set, get_or-take}
use Rattle.std.proofs.lemmas.List.{take-take, take-set, get_or-set_same}
use Rattle.std.proofs.lemmas.Bool.{cond-true, lt-ltb}
use Rattle.std.proofs.lemmas.Option.{slice_get-get_or}
use Rattle.stack.specs.Entries.{top_of}
use Rattle.stack.specs.declared.Stack.{Stack}
use Rattle.statements.specs.Learns.{IsAsBefore}

-- an entry x on top
record IsPushed {X : Type 0} (k l : Stack X) (x : X) : Type 0 where
  slots : l.slots.now ≡ set k.slots.now k.used x
  used : l.used ≡ k.used + 1

pushed : {X : Type 0} (k l : Stack X) (x : X) (b : Bool) → k.used < length k.slots.now → b ≡ ltb k.used (length k.slots.now) → l.slots.now ≡ cond b (set k.slots.now k.used x) k.slots.now → l.used ≡ cond b (k.used + 1) k.used → IsPushed k l x
pushed k l x b h t s u =
    let taken : b ≡ true = t ∙ lt-ltb _ _ h in
    record { slots = s ∙ cond-true b _ _ taken; used = u ∙ cond-true {A = ℕ} b _ _ taken }

top_back : {T : Type 0} (xs ys : List T) (n used : ℕ) (x : T) → n < length xs → length ys ≡ length xs → used ≡ n + 1 → take (n + 1) ys ≡ take (n + 1) (set xs n x) → top_of ys used ≡ Some x
top_back xs ys n used x h l u e =
    ap (top_of ys) (u ∙ add-one n) ∙ slice_get-get_or ys n x (omega arith)
    ∙ ap Some (sym (get_or-take (n + 1) ys n x (omega arith)) ∙ ap (λ zs. get_or zs n x) e ∙ get_or-take (n + 1) (set xs n x) n x (omega arith) ∙ get_or-set_same xs n x x h)

module _ {X : Type 0} (k l m : Stack X) (b : Bool) (x : X) (room : k.used < length k.slots.now) (taken : b ≡ ltb k.used (length k.slots.now)) (slots : l.slots.now ≡ cond b (set k.slots.now k.used x) k.slots.now) (used : l.used ≡ cond b (k.used + 1) k.used)
    (same : IsAsBefore l m) where
  abbrev put : IsPushed k l x
  put = pushed k l x b room taken slots used

  long : length m.slots.now ≡ length k.slots.now
  long = same.long ∙ ap length put.slots ∙ length-set k.slots.now k.used x

  kept : take l.used m.slots.now ≡ take l.used (set k.slots.now k.used x)
  kept = same.kept ∙ ap (take l.used) put.slots

  -- what is popped is what was pushed
  pub same_loop : (r : Option X) (y : X) → r ≡ top_of m.slots.now m.used → r ≡ Some y → y ≡ x
  same_loop r y t e =
      let z = top_back k.slots.now m.slots.now k.used m.used x room long (same.used ∙ put.used) (ap (λ i. take i m.slots.now) (sym put.used) ∙ kept ∙ ap (λ i. take i (set k.slots.now k.used x)) put.used) in
      cc

  pub as_before : (p : Stack X) → p.slots.now ≡ m.slots.now → p.used ≡ m.used - 1 → p.slots.ghost_name ≡ k.slots.ghost_name → IsAsBefore k p
  as_before p s u g = record {
    used = omega (arith, u, same.used, put.used);
    long = ap length s ∙ long;
    kept = ap (take k.used) s ∙ sym (take-take k.used l.used m.slots.now (omega (arith, put.used))) ∙ ap (take k.used) kept ∙ take-take k.used l.used (set k.slots.now k.used x) (omega (arith, put.used)) ∙ take-set k.slots.now k.used x;
    lender = g;
  }
