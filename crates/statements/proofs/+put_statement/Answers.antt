use Rattle.std.proofs.Common.{◌≡◌, ℕ, eqb, ◌∷◌, length, get_or, set, ap, sym, ◌∙◌, arith, rules}
use Rattle.script.proofs.SoundLaws.{script_sound}
use Rattle.scheme.specs.Code as S
use Rattle.scheme.specs.Writing as W
use Rattle.scheme.specs.Scheme.{expr_code, stmt_code}
use Rattle.meaning.specs.Tables.{stmt_at, expr_at}
use Rattle.draft.specs.Draft.{draft}
use Rattle.draft.proofs.DraftLaws.{length-draft}
use Rattle.statements.specs.declared.LoopLabel.{LoopLabel}
use Rattle.phrases.proofs.Steps.{drafting}
use Rattle.statements.proofs.StmtLaws.{codes, code_while, found}
use Rattle.scheme.specs.Written.{loop_end, none_of}
use Rattle.draft.specs.Drafted.{code_of}
use Rattle.statements.proofs.EndLaws.{ends_goto, ends_labelled, ends_expr}
use Rattle.statements.proofs.Stacked.{same_loop, as_before}
use Rattle.statements.proofs.+put_statement.Goals as goal

pub statement_at-requires-clause-sound : goal.statement_at-requires-clause-sound
statement_at-requires-clause-sound t c = (c.args.script.globals.now, script_sound c.args.script)

same : (t : ℕ) (c : goal.After-len t) → c.in-Some.open ≡ record { node = c.args.n; out = c.put_label-out.result }
same t c = same_loop c.args.loops.now _ _ _ _ (search rules) c.push.ensures.taken c.push.ensures.slots c.push.ensures.used c.put_statement-in-While.ensures.loops _ _ c.pop.ensures.value c.in-Some.is

pub offset_bounds-starts-open : goal.offset_bounds-starts-open
offset_bounds-starts-open t c =
    let e = same t c in
    let i : c.in-Some.open.node ≡ c.args.n = ap (λ (o : LoopLabel). o.node) e in
    search rules

pub bounds-starts-open : goal.bounds-starts-open
bounds-starts-open t c =
    let e = same t c in
    let i : c.in-Some.open.node ≡ c.args.n = ap (λ (o : LoopLabel). o.node) e in
    search rules

pub returns-in-Some-clause-loops : goal.returns-in-Some-clause-loops
returns-in-Some-clause-loops t c = as_before c.args.loops.now _ _ _ _ (search rules) c.push.ensures.taken c.push.ensures.slots c.push.ensures.used c.put_statement-in-While.ensures.loops _ c.pop.ensures.slots c.pop.ensures.used (search rules)

pub returns-in-Some-clause-code : goal.returns-in-Some-clause-code
returns-in-Some-clause-code t c =
    let e = same t c in
    λ C h. grind (arith, drafting, codes)

pub returns-in-Some-clause-starts : goal.returns-in-Some-clause-starts
returns-in-Some-clause-starts t c =
    let e = same t c in
    λ C h k w.
    let ls = c.args.script.globals.now in
    let n = c.args.n in
    let M : S.Code = W.add_goto (S.loop n) n (W.labelled C) in
    let I : S.Code = S.ifzero (W.target C) n ∷ stmt_code ls c.args.total (stmt_at c.args.script.nodes.now c.in-While.b) M in
    let P : S.Code = expr_code ls (expr_at c.args.script.nodes.now c.in-While.a) I in
    let m : code_of c.put_goto.new.self ≡ draft M = grind (arith, drafting) in
    let l : code_of c.flag.new.self ≡ draft (S.loop_at n ∷ P) = grind (arith, drafting) in
    let x = λ (v : ℕ). c.put_statement-in-While.ensures.starts M m (λ u. k u ∙ sym (ends_goto (eqb u) none_of (S.loop n) n (W.labelled C) ∙ ends_labelled (eqb u) none_of C)) v ∙ sym (ends_expr (eqb v) none_of ls _ I) in
    let z = found _ n c.len.result P (search rules) (c.len.ensures ∙ ap length l ∙ length-draft (S.loop_at n ∷ P)) x w in
    ap (λ (o : LoopLabel). get_or (set c.put_statement-in-While.new.starts o.node c.len.result) w 0) e ∙ z
    ∙ sym (ap (λ s. loop_end (stmt_code ls c.args.total s C) w) c.in-While.ensures.tree ∙ ap (λ K. loop_end K w) (code_while ls c.args.total n _ _ C))
