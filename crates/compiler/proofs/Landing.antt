-- From what was written of an accepted script to what the tables then hold.
use Rattle.std.proofs.Common.{◌≡◌, ℕ, zero, suc, ◌+◌, ◌-◌, ◌<◌, ◌≤◌, Bool, false, cond, List, [], ◌∷◌, map, length, get_or, ℤ, Ok, Err, sym, refl, ap, ◌∙◌, arith, ltb-false}
use Rattle.std.proofs.lemmas.List.{length-map}
use Rattle.answer.specs.Numbers.{refused}
use Rattle.answer.specs.declared.Reason.TheVariants.{CodeLength}
use Rattle.rules.specs.Limits.{code_limit}
use Rattle.script.specs.declared.Function.{Function}
use Rattle.script.specs.declared.Node.{Node}
use Rattle.script.specs.declared.Script.{Script as Accepted}
use Rattle.meaning.specs.Tree.{Script}
use Rattle.meaning.specs.Tables.{script_of}
use Rattle.scheme.specs.Code.{Code, size}
use Rattle.scheme.specs.Scheme.{script_code}
use Rattle.scheme.specs.Written.{written, too_long, entries_from, entry_end}
use Rattle.statements.specs.Learns.{KnowsEntries}
use Rattle.writer.specs.Program.{tree_of, answered, WordsIn, MarksIn}
use Rattle.compiler.specs.Compiled.{position_of, Holds}

-- the n-th of the entries
entries_at : (P : Code) (g n f : ℕ) → f < n → get_or (entries_from P g n) f 0 ≡ size P - entry_end P (g + f)
entries_at P g zero f h = absurd (omega arith)
entries_at P g (suc n) zero h = ap (λ (k : ℕ). size P - entry_end P k) (let e : g ≡ g + 0 = omega arith in e)
entries_at P g (suc n) (suc f) h = entries_at P (suc g) n f (omega arith) ∙ ap (λ (k : ℕ). size P - entry_end P k) (let e : suc g + f ≡ g + suc f = omega arith in e)

get_d_map : (h : ℕ → ℕ) (xs : List ℕ) (f : ℕ) → f < length xs → get_or (map h xs) f 0 ≡ h (get_or xs f 0)
get_d_map h [] f l = absurd (omega arith)
get_d_map h (x ∷ xs) zero l = refl
get_d_map h (x ∷ xs) (suc f) l = get_d_map h xs f (omega arith)

-- where code that is not too long starts
start_is : (s : Script) (start : ℕ) → too_long s ≡ false → Ok start ≡ answered s → start ≡ code_limit - size (script_code s)
start_is s start l a =
    let b : Ok start ≡ Ok (code_limit - size (script_code s)) = a ∙ ap (λ (c : Bool). cond c (Err (refused CodeLength)) (Ok (code_limit - size (script_code s)))) l in
    cc

entries_are : (fs : List Function) (gs : List ℕ) (xs : List Node) (start : ℕ) (lefts entries : List ℕ) (f : ℕ) → too_long (script_of fs gs xs) ≡ false
    → Ok start ≡ answered (script_of fs gs xs) → KnowsEntries lefts (script_code (script_of fs gs xs)) → entries ≡ map (position_of (code_limit - start)) lefts
    → f < length fs → f < length lefts → get_or entries f 0 ≡ get_or (written (script_of fs gs xs)).entries f 0
unfolding position_of
entries_are fs gs xs start lefts entries f l a knows e h k =
    let s = script_of fs gs xs in
    let P = script_code s in
    let at = start_is s start l a in
    let short = ltb-false code_limit (size P) l in
    let whole : code_limit - start ≡ size P = omega arith in
    let many : length s.functions ≡ length fs = simp length-map in
    ap (λ (es : List ℕ). get_or es f 0) e
    ∙ get_d_map (position_of (code_limit - start)) lefts f k
    ∙ ap (λ (n : ℕ). n - get_or lefts f 0) whole
    ∙ ap (λ (n : ℕ). size P - n) (knows f)
    ∙ sym (entries_at P 0 (length s.functions) f (omega arith) ∙ ap (λ (n : ℕ). size P - entry_end P n) (let z : 0 + f ≡ f = omega arith in z))

-- what was written of an accepted script is held
pub held : (s : Accepted) (start : ℕ) (lefts entries marks : List ℕ) (words : List ℤ) → Ok start ≡ answered (tree_of s) → WordsIn words (tree_of s) → MarksIn marks (tree_of s) → KnowsEntries lefts (script_code (tree_of s)) → entries ≡ map (position_of (code_limit - start)) lefts
    → length s.functions.now ≤ length lefts → Holds s.functions.now s.globals.now s.nodes.now words marks entries
held s start lefts entries marks words a w m knows e room q short = record {
  words_are = w short;
  marks_are = m short;
  entries_are = λ f h. (let k : f < length lefts = omega arith in entries_are _ _ _ start lefts entries f short a knows e h k);
}
