-- Functions, part by part: their code, and what is learnt of the places of loops and of entries.
use Rattle.std.proofs.Common.{◌≡◌, ℕ, suc, ◌+◌, ◌-◌, ◌<◌, ◌≤◌, eqb, List, [], ◌∷◌, ◌++◌, map, length, get_or, replicate, take, drop, set, pos, sym, refl, ap, ◌∙◌, inl, inr, add-one, arith, length-drop, get_or-set_other, get_or-set_same}
use borrow.Rule.Slice.PartMut.{put_mid, post_of}
use Rattle.std.proofs.lemmas.List.{append-nil, length-replicate, get_or-replicate, get_or_past, drop_all, drop_at, drop_more, length-take-le, take_more}
use Rattle.std.proofs.lemmas.Bool.{cases_eq, cases_lt, cond-true, cond-false, eq-eqb, ne_eqb}
use Rattle.answer.specs.Numbers.{no_place}
use Rattle.script.specs.declared.Node.{Node}
use Rattle.script.specs.declared.Function.{Function}
use Rattle.script.specs.declared.Script.{Script}
use Rattle.script.specs.Scope.{no_function}
use Rattle.meaning.specs.Tables.{parts, function_of, script_of}
use Rattle.scheme.specs.Code as S
use Rattle.scheme.specs.Writing as W
use Rattle.scheme.specs.Scheme.{zeros_code, functions_code, script_code}
use Rattle.scheme.specs.Written.{loop_end, entry_end}
use Rattle.statements.specs.Learns.{Knows, KnowsEntries}
use Rattle.statements.proofs.EndLaws.{ends_dead, ends_cst, ends_stmt, ends_zeros}
use Rattle.room.specs.Bound.{function_room, functions_room}
use Rattle.writer.specs.Program.{tree_of, entered_code, code_from}

pub code_no_zeros : (C : S.Code) → zeros_code 0 C ≡ C
unfolding zeros_code
code_no_zeros C = refl

pub code_more_zeros : (k : ℕ) (C : S.Code) → zeros_code (k + 1) C ≡ W.add_cst (pos 0) no_place (zeros_code k C)
unfolding zeros_code
code_more_zeros k C = ap (λ n. zeros_code n C) (add-one k)

pub code_script : (fs : List Function) (gs : List ℕ) (xs : List Node) → script_code (script_of fs gs xs) ≡ S.ldargs ∷ S.call (get_or fs 0 no_function).parameters 0 no_place ∷ S.stop ∷ functions_code gs 0 (map (function_of (parts xs)) fs)
unfolding script_code
code_script [] gs xs = refl
code_script (f ∷ fs) gs xs = refl

pub ruleset codes = (code_no_zeros, code_more_zeros, code_script)

-- no part of a body but the label of a loop moves a loop, and none moves an entry
pub ruleset ends = (ends_zeros, ends_cst, ends_dead, ends_stmt)

-- the place of an entry that has just been found
pub found : (s : List ℕ) (n m : ℕ) (K : S.Code) → n < length s → m ≡ S.size (S.entry n ∷ K) → KnowsEntries s K → KnowsEntries (set s n m) (S.entry n ∷ K)
found s n m K h e k w = elim (cases_eq w n) [ inl q ↦ same q | inr q ↦ other q ]
  where
    same : w ≡ n → get_or (set s n m) w 0 ≡ entry_end (S.entry n ∷ K) w
    same q = ap (λ x. get_or (set s n m) x 0) q ∙ get_or-set_same s n m 0 h ∙ (let z : m ≡ S.size K = omega arith in z) ∙ sym (cond-true (eqb w n) (S.size K) (entry_end K w) (eq-eqb w n q))

    other : (w ≡ n → ⊥) → get_or (set s n m) w 0 ≡ entry_end (S.entry n ∷ K) w
    other q = get_or-set_other s n w m 0 q ∙ k w ∙ sym (cond-false (eqb w n) (S.size K) (entry_end K w) (ne_eqb w n q))

-- the functions, last to first
module _ (s : Script) where
  pub code_end : code_from s (length s.functions.now) ≡ []
  unfolding functions_code
  code_end =
      let n = length s.functions.now in
      ap (λ gs. functions_code s.globals.now n (map (function_of (parts s.nodes.now)) gs)) (drop_all n s.functions.now (omega arith))

  pub code_more : (i j : ℕ) → j + 1 ≡ i → j < length s.functions.now → entered_code s j (code_from s i) ≡ code_from s j
  unfolding functions_code
  code_more i j e h =
      let f = function_of (parts s.nodes.now) in
      ap (λ k. entered_code s j (functions_code s.globals.now k (map f (drop i s.functions.now)))) (sym e ∙ add-one j)
      ∙ ap (λ k. entered_code s j (functions_code s.globals.now (suc j) (map f (drop k s.functions.now)))) (sym e)
      ∙ sym (ap (λ gs. functions_code s.globals.now j (map f gs)) (drop_more s.functions.now j no_function h))

room_push : (xs : List Node) (fs : List Function) (f : Function) → functions_room xs (fs ++ f ∷ []) ≡ functions_room xs fs + function_room xs f
room_push xs [] f = omega arith
room_push xs (g ∷ fs) f = omega (arith, room_push xs fs f)

pub room_more : (xs : List Node) (fs : List Function) (i j : ℕ) → j + 1 ≡ i → j < length fs → functions_room xs (take i fs) ≡ functions_room xs (take j fs) + function_room xs (get_or fs j no_function)
room_more xs fs i j e h = ap (λ k. functions_room xs (take k fs)) (sym e) ∙ ap (functions_room xs) (take_more fs j no_function h) ∙ room_push xs (take j fs) (get_or fs j no_function)

pub ruleset steps = (code_end, code_more, room_more)

-- the end of a table, lent on and written
pub part_end : {X : Type 0} (xs part : List X) (p : ℕ) → p ≤ length xs → drop p (put_mid p (length xs - p) xs part) ≡ part
part_end xs part p h =
    drop_at (take p xs) (part ++ post_of p (length xs - p) xs) p (length-take-le p xs h)
    ∙ ap (λ ys. part ++ ys) (drop_all (length xs - p) (drop p xs) (omega (arith, length-drop p xs))) ∙ append-nil part

-- the script's code has the places of its functions'
module _ (s : Script) where
  pub script_knows : (starts : List ℕ) → Knows starts (code_from s 0) → Knows starts (script_code (tree_of s))
  script_knows starts k w = k w ∙ sym (ap (λ P. loop_end P w) (code_script s.functions.now s.globals.now s.nodes.now))

  pub script_enters : (entries : List ℕ) → KnowsEntries entries (code_from s 0) → KnowsEntries entries (script_code (tree_of s))
  script_enters entries k f = k f ∙ sym (ap (λ P. entry_end P f) (code_script s.functions.now s.globals.now s.nodes.now))

-- a table of zeros
pub zeros_read : (s : List ℕ) (n w : ℕ) → s ≡ replicate n 0 → get_or s w 0 ≡ 0
zeros_read s n w e = elim (cases_lt w n) [
  | inl l ↦ ap (λ xs. get_or xs w 0) e ∙ get_or-replicate n w 0 0 l
  | inr l ↦ get_or_past s w 0 (omega (arith, l, ap length e, length-replicate {A = ℕ} n 0))
]
