use Rattle.std.proofs.Common.{◌≡◌, ℕ, pos, sym, refl, ap, ◌∙◌, w32, SFits, rules}
use Rattle.std.proofs.lemmas.Int.{to_z-of_z}
use Rattle.script.specs.Kinds.{node_at, kind_at}
use Rattle.script.specs.declared.kinds.Sort.TheVariants.{Expression, Arguments}
use Rattle.script.proofs.SoundLaws.{script_sound}
use Rattle.meaning.specs.Tree
use Rattle.meaning.specs.Tables.{operator, expr_at, args_at}
use Rattle.reading.specs.Room.{expr_room}
use Rattle.reading.proofs.ReadLaws.{child_a, child_b, child_c, global_in, operator_in, local_in, function_in, call_in}
use Rattle.meaning.proofs.Decodes.{expr_constant, expr_local, expr_global, expr_element, expr_set_local, expr_set_global, expr_set_element, expr_negation, expr_print, expr_binary, expr_both, expr_either, expr_call}
use Rattle.reading.proofs.expression_at.Goals as goal

pub bounds-script-a : goal.bounds-script-a
bounds-script-a c =
    let k : kind_at c.args.script.nodes.now c.args.n ≡ 3 = search rules in
    global_in _ _ _ (script_sound c.args.script) c.args.n c.requires.within 3 k refl _ c.numbers_in-a.ensures.a

pub bounds-script-a-in-SetElement : goal.bounds-script-a-in-SetElement
bounds-script-a-in-SetElement c =
    let k : kind_at c.args.script.nodes.now c.args.n ≡ 6 = search rules in
    global_in _ _ _ (script_sound c.args.script) c.args.n c.requires.within 6 k refl _ c.numbers_in-a.ensures.a

pub of-requires : goal.of-requires
of-requires c =
    let k : kind_at c.args.script.nodes.now c.args.n ≡ 9 = search rules in
    operator_in _ _ _ (script_sound c.args.script) c.args.n c.requires.within k _ c.numbers_in-a.ensures.c

pub offset_bounds-script-a : goal.offset_bounds-script-a
offset_bounds-script-a c =
    let k : kind_at c.args.script.nodes.now c.args.n ≡ 12 = search rules in
    let a = function_in _ _ _ (script_sound c.args.script) c.args.n c.requires.within k _ c.numbers_in-a.ensures.a in
    search rules

pub bounds-script-a-in-Call : goal.bounds-script-a-in-Call
bounds-script-a-in-Call c =
    let k : kind_at c.args.script.nodes.now c.args.n ≡ 12 = search rules in
    function_in _ _ _ (script_sound c.args.script) c.args.n c.requires.within k _ c.numbers_in-a.ensures.a

pub returns-in-Constant : goal.returns-in-Constant
returns-in-Constant c =
    let k : kind_at c.args.script.nodes.now c.args.n ≡ 0 = search rules in
    let f : SFits w32 (node_at c.args.script.nodes.now c.args.n).a = search rules in
    let e = expr_constant _ c.args.n c.requires.within k in
    simp to_z-of_z (record { tree = e; room = ap expr_room e; parts = tt })

pub returns-in-Local : goal.returns-in-Local
returns-in-Local c =
    let k : kind_at c.args.script.nodes.now c.args.n ≡ 1 = search rules in
    let f : SFits w32 (node_at c.args.script.nodes.now c.args.n).a = search rules in
    let e = expr_local _ c.args.n c.requires.within k in
    simp to_z-of_z (record { tree = e; room = ap expr_room e; parts = local_in _ _ _ (script_sound c.args.script) c.args.n c.requires.within 1 k refl })

pub returns-in-Global : goal.returns-in-Global
returns-in-Global c =
    let k : kind_at c.args.script.nodes.now c.args.n ≡ 2 = search rules in
    let e = expr_global _ c.args.n c.requires.within k ∙ ap (Tree.global c.args.n) (sym c.numbers_in-a.ensures.a) in
    record { tree = e; room = ap expr_room e; parts = global_in _ _ _ (script_sound c.args.script) c.args.n c.requires.within 2 k refl _ c.numbers_in-a.ensures.a }

pub returns-in-Element : goal.returns-in-Element
returns-in-Element c =
    let k : kind_at c.args.script.nodes.now c.args.n ≡ 3 = search rules in
    let b = child_b _ _ _ (script_sound c.args.script) c.args.n c.requires.within 3 k Expression _ refl c.numbers_in-a.ensures.b in
    let e = expr_element _ c.args.n c.requires.within _ k b.0 ∙ ap (λ (g : ℕ). Tree.element c.args.n g (expr_at c.args.script.nodes.now c.numbers_in-a.result.1)) (sym c.numbers_in-a.ensures.a) in
    record { tree = e; room = ap expr_room e; parts = (global_in _ _ _ (script_sound c.args.script) c.args.n c.requires.within 3 k refl _ c.numbers_in-a.ensures.a, refl, b.1) }

pub returns-in-SetLocal : goal.returns-in-SetLocal
returns-in-SetLocal c =
    let k : kind_at c.args.script.nodes.now c.args.n ≡ 4 = search rules in
    let f : SFits w32 (node_at c.args.script.nodes.now c.args.n).a = search rules in
    let b = child_b _ _ _ (script_sound c.args.script) c.args.n c.requires.within 4 k Expression _ refl c.numbers_in-a.ensures.b in
    let e = expr_set_local _ c.args.n c.requires.within _ k b.0 in
    simp to_z-of_z (record { tree = e; room = ap expr_room e; parts = (local_in _ _ _ (script_sound c.args.script) c.args.n c.requires.within 4 k refl, b.1) })

pub returns-in-SetGlobal : goal.returns-in-SetGlobal
returns-in-SetGlobal c =
    let k : kind_at c.args.script.nodes.now c.args.n ≡ 5 = search rules in
    let b = child_b _ _ _ (script_sound c.args.script) c.args.n c.requires.within 5 k Expression _ refl c.numbers_in-a.ensures.b in
    let e = expr_set_global _ c.args.n c.requires.within _ k b.0 ∙ ap (λ (g : ℕ). Tree.set_global c.args.n g (expr_at c.args.script.nodes.now c.numbers_in-a.result.1)) (sym c.numbers_in-a.ensures.a) in
    record { tree = e; room = ap expr_room e; parts = (global_in _ _ _ (script_sound c.args.script) c.args.n c.requires.within 5 k refl _ c.numbers_in-a.ensures.a, b.1) }

pub returns-in-SetElement : goal.returns-in-SetElement
returns-in-SetElement c =
    let k : kind_at c.args.script.nodes.now c.args.n ≡ 6 = search rules in
    let b = child_b _ _ _ (script_sound c.args.script) c.args.n c.requires.within 6 k Expression _ refl c.numbers_in-a.ensures.b in
    let d = child_c _ _ _ (script_sound c.args.script) c.args.n c.requires.within 6 k Expression _ refl c.numbers_in-a.ensures.c in
    let e = expr_set_element _ c.args.n c.requires.within _ _ k b.0 d.0 ∙ ap (λ (g : ℕ). Tree.set_element c.args.n g (expr_at c.args.script.nodes.now c.numbers_in-a.result.1) (expr_at c.args.script.nodes.now c.numbers_in-a.result.2)) (sym c.numbers_in-a.ensures.a) in
    record { tree = e; room = ap expr_room e; parts = (global_in _ _ _ (script_sound c.args.script) c.args.n c.requires.within 6 k refl _ c.numbers_in-a.ensures.a, refl, b.1, d.1) }

pub returns-in-Not : goal.returns-in-Not
returns-in-Not c =
    let k : kind_at c.args.script.nodes.now c.args.n ≡ 7 = search rules in
    let a = child_a _ _ _ (script_sound c.args.script) c.args.n c.requires.within 7 k Expression _ refl c.numbers_in-a.ensures.a in
    let e = expr_negation _ c.args.n c.requires.within _ k a.0 in
    record { tree = e; room = ap expr_room e; parts = a.1 }

pub returns-in-Print : goal.returns-in-Print
returns-in-Print c =
    let k : kind_at c.args.script.nodes.now c.args.n ≡ 8 = search rules in
    let a = child_a _ _ _ (script_sound c.args.script) c.args.n c.requires.within 8 k Expression _ refl c.numbers_in-a.ensures.a in
    let e = expr_print _ c.args.n c.requires.within _ k a.0 in
    record { tree = e; room = ap expr_room e; parts = a.1 }

pub returns-in-Binary : goal.returns-in-Binary
returns-in-Binary c =
    let k : kind_at c.args.script.nodes.now c.args.n ≡ 9 = search rules in
    let a = child_a _ _ _ (script_sound c.args.script) c.args.n c.requires.within 9 k Expression _ refl c.numbers_in-a.ensures.a in
    let b = child_b _ _ _ (script_sound c.args.script) c.args.n c.requires.within 9 k Expression _ refl c.numbers_in-a.ensures.b in
    let o = c.of.ensures ∙ ap (λ m. operator (pos m)) c.numbers_in-a.ensures.c in
    let e = expr_binary _ c.args.n c.requires.within _ _ k a.0 b.0 ∙ ap (λ w. Tree.binary c.args.n w (expr_at c.args.script.nodes.now c.numbers_in-a.result.0) (expr_at c.args.script.nodes.now c.numbers_in-a.result.1)) (sym o) in
    record { tree = e; room = ap expr_room e; parts = (a.1, b.1) }

pub returns-in-And : goal.returns-in-And
returns-in-And c =
    let k : kind_at c.args.script.nodes.now c.args.n ≡ 10 = search rules in
    let a = child_a _ _ _ (script_sound c.args.script) c.args.n c.requires.within 10 k Expression _ refl c.numbers_in-a.ensures.a in
    let b = child_b _ _ _ (script_sound c.args.script) c.args.n c.requires.within 10 k Expression _ refl c.numbers_in-a.ensures.b in
    let e = expr_both _ c.args.n c.requires.within _ _ k a.0 b.0 in
    record { tree = e; room = ap expr_room e; parts = (a.1, b.1) }

pub returns-in-Or : goal.returns-in-Or
returns-in-Or c =
    let k : kind_at c.args.script.nodes.now c.args.n ≡ 11 = search rules in
    let a = child_a _ _ _ (script_sound c.args.script) c.args.n c.requires.within 11 k Expression _ refl c.numbers_in-a.ensures.a in
    let b = child_b _ _ _ (script_sound c.args.script) c.args.n c.requires.within 11 k Expression _ refl c.numbers_in-a.ensures.b in
    let e = expr_either _ c.args.n c.requires.within _ _ k a.0 b.0 in
    record { tree = e; room = ap expr_room e; parts = (a.1, b.1) }

pub returns-in-Call : goal.returns-in-Call
returns-in-Call c =
    let k : kind_at c.args.script.nodes.now c.args.n ≡ 12 = search rules in
    let b = child_b _ _ _ (script_sound c.args.script) c.args.n c.requires.within 12 k Arguments _ refl c.numbers_in-a.ensures.b in
    let e = expr_call _ c.args.n c.requires.within _ k b.0 ∙ ap (λ (g : ℕ). Tree.call c.args.n g (args_at c.args.script.nodes.now c.numbers_in-a.result.1)) (sym c.numbers_in-a.ensures.a) in
    record { tree = e; room = ap expr_room e; parts = call_in _ _ _ (script_sound c.args.script) c.args.n c.requires.within k _ _ c.numbers_in-a.ensures.a c.numbers_in-a.ensures.b }
