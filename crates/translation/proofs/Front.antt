-- Words pushed one after the other lie in that order at the front of the memory; and a run of loose code starts where symbolic code does.
use Rattle.std.proofs.Common.{◌≡◌, ℕ, ◌+◌, ◌<◌, List, [], ◌∷◌, ◌++◌, length, get_or, take, ℤ, pos, sym, refl, ap, ◌∙◌, arith, length-append}
use Rattle.std.proofs.lemmas.List.{length-take-le, get_or-take, ext_get_or}
use Rattle.board.specs.Meaning.{Means}
use Rattle.machine.specs.Execute.{starting}
use Rattle.symbolic.specs.Symbolic.{Rest, onto, fetch}
use Rattle.translation.specs.Translated.{Holds, state_at, PushedInOrder}
use Rattle.translation.proofs.Reading.{fetch_under, length-onto, fetch_pushed}

fetch_beneath : (T S : List ℤ) (a : ℕ) → a < length S → fetch (T ++ S) a ≡ fetch S a
fetch_beneath [] S a h = refl
fetch_beneath (x ∷ T) S a h = fetch_under x (T ++ S) a (omega (arith, length-append T S)) ∙ fetch_beneath T S a h

pub pushed_in_order : PushedInOrder
pushed_in_order ws vs l = (there, back)
  where
    n : length (onto vs []) ≡ length vs
    n = let z = length-onto vs [] in omega arith

    there : take (length vs) ws ≡ vs → Holds ws (onto vs [])
    there e a h =
        let m = n in
        sym (get_or-take (length vs) ws a (pos 0) (omega arith))
        ∙ (ap (λ (us : List ℤ). get_or us a (pos 0)) e ∙ sym (fetch_pushed vs [] a a (omega arith) (omega arith)))

    back : (top : List ℤ) → Holds ws (top ++ onto vs []) → take (length vs) ws ≡ vs
    back top h =
        let m = n in
        let t = length-take-le (length vs) ws l in
        let z = length-append top (onto vs []) in
        ext_get_or (pos 0) (take (length vs) ws) vs t
        (λ a q. get_or-take (length vs) ws a (pos 0) (omega arith)
        ∙ (h a (omega arith) ∙ (fetch_beneath top (onto vs []) a (omega arith) ∙ fetch_pushed vs [] a a (omega arith) (omega arith))))

-- what symbolic code carries where loose code starts with so many turns
abbrev pub afresh : Means → ℕ → Rest
afresh board turns = record { base = 0; left = turns; depth = 0; deep = 0; out = board.readings; back = [] }

pub start_is : (board : Means) (ws vs : List ℤ) (turns : ℕ) → state_at board ws 0 (onto vs []) (afresh board turns) ≡ starting ws (length vs) board turns
start_is board ws vs turns = let z = length-onto vs [] in ap (λ (n : ℕ). starting ws n board turns) (let n : length (onto vs []) ≡ length vs = omega arith in n)
