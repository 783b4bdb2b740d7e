use Rattle.std.proofs.Common.{◌≡◌, ℕ, ◌<◌, length, sym, refl, ap, ◌∙◌, arith, rules}
use Rattle.script.specs.Kinds.{kind_at}
use Rattle.script.specs.declared.kinds.Sort.TheVariants.{Expression, Arguments, Statement}
use Rattle.meaning.specs.Tree
use Rattle.meaning.specs.Tables.{args_at}
use Rattle.reading.specs.Nodes.{whiles}
use Rattle.reading.specs.Room.{stmt_room}
use Rattle.reading.proofs.ReadLaws.{child_a, child_b, child_c, function_in, call_in}
use Rattle.meaning.proofs.Decodes.{stmt_nothing, stmt_chain, stmt_discard, stmt_if, stmt_while, stmt_return, stmt_replace}
use Rattle.reading.proofs.statement_at.Goals as goal

pub returns-in-Ok-Nothing : goal.returns-in-Ok-Nothing
returns-in-Ok-Nothing c =
    let k : kind_at c.args.nodes.now c.args.n ≡ 15 = search rules in
    let e = stmt_nothing _ c.args.n c.requires.within k in
    record { tree = e; room = ap stmt_room e; nest = ap whiles e; parts = tt }

pub returns-in-Ok-Sequence : goal.returns-in-Ok-Sequence
returns-in-Ok-Sequence c =
    let k : kind_at c.args.nodes.now c.args.n ≡ 16 = search rules in
    let a = child_a _ _ _ c.requires.sound.1 c.args.n c.requires.within 16 k Statement _ refl c.numbers_in-a.ensures.a in
    let b = child_b _ _ _ c.requires.sound.1 c.args.n c.requires.within 16 k Statement _ refl c.numbers_in-a.ensures.b in
    let e = stmt_chain _ c.args.n c.requires.within _ _ k a.0 b.0 in
    record { tree = e; room = ap stmt_room e; nest = ap whiles e; parts = (a.1, b.1) }

pub returns-in-Ok-Evaluate : goal.returns-in-Ok-Evaluate
returns-in-Ok-Evaluate c =
    let k : kind_at c.args.nodes.now c.args.n ≡ 17 = search rules in
    let a = child_a _ _ _ c.requires.sound.1 c.args.n c.requires.within 17 k Expression _ refl c.numbers_in-a.ensures.a in
    let e = stmt_discard _ c.args.n c.requires.within _ k a.0 in
    record { tree = e; room = ap stmt_room e; nest = ap whiles e; parts = a.1 }

pub returns-in-Ok-If : goal.returns-in-Ok-If
returns-in-Ok-If c =
    let k : kind_at c.args.nodes.now c.args.n ≡ 18 = search rules in
    let a = child_a _ _ _ c.requires.sound.1 c.args.n c.requires.within 18 k Expression _ refl c.numbers_in-a.ensures.a in
    let b = child_b _ _ _ c.requires.sound.1 c.args.n c.requires.within 18 k Statement _ refl c.numbers_in-a.ensures.b in
    let d = child_c _ _ _ c.requires.sound.1 c.args.n c.requires.within 18 k Statement _ refl c.numbers_in-a.ensures.c in
    let e = stmt_if _ c.args.n c.requires.within _ _ _ k a.0 b.0 d.0 in
    record { tree = e; room = ap stmt_room e; nest = ap whiles e; parts = (a.1, b.1, d.1) }

pub returns-in-Ok-While : goal.returns-in-Ok-While
returns-in-Ok-While c =
    let k : kind_at c.args.nodes.now c.args.n ≡ 19 = search rules in
    let a = child_a _ _ _ c.requires.sound.1 c.args.n c.requires.within 19 k Expression _ refl c.numbers_in-a.ensures.a in
    let b = child_b _ _ _ c.requires.sound.1 c.args.n c.requires.within 19 k Statement _ refl c.numbers_in-a.ensures.b in
    let e = stmt_while _ c.args.n c.requires.within _ _ k a.0 b.0 in
    record { tree = e; room = ap stmt_room e; nest = ap whiles e; parts = (a.1, b.1) }

pub offset_bounds-nodes-a : goal.offset_bounds-nodes-a
offset_bounds-nodes-a c =
    let k : kind_at c.args.nodes.now c.args.n ≡ 20 = search rules in
    let a = child_a _ _ _ c.requires.sound.1 c.args.n c.requires.within 20 k Expression _ refl c.numbers_in-a.ensures.a in
    let h : c.numbers_in-a.result.0 < length c.args.nodes.now = omega (arith, a.0.1, c.requires.within) in
    search rules

pub bounds-nodes-a : goal.bounds-nodes-a
bounds-nodes-a c =
    let k : kind_at c.args.nodes.now c.args.n ≡ 20 = search rules in
    let a = child_a _ _ _ c.requires.sound.1 c.args.n c.requires.within 20 k Expression _ refl c.numbers_in-a.ensures.a in
    omega (arith, a.0.1, c.requires.within)

pub offset_bounds-functions-f : goal.offset_bounds-functions-f
offset_bounds-functions-f c =
    let k : kind_at c.args.nodes.now c.args.n ≡ 20 = search rules in
    let a = child_a _ _ _ c.requires.sound.1 c.args.n c.requires.within 20 k Expression _ refl c.numbers_in-a.ensures.a in
    let h : c.numbers_in-a.result.0 < length c.args.nodes.now = omega (arith, a.0.1, c.requires.within) in
    let l : kind_at c.args.nodes.now c.numbers_in-a.result.0 ≡ 12 = search rules in
    let f = function_in _ _ _ c.requires.sound.1 c.numbers_in-a.result.0 h l _ c.numbers_in-f.ensures.a in
    search rules

pub bounds-functions-f : goal.bounds-functions-f
bounds-functions-f c =
    let k : kind_at c.args.nodes.now c.args.n ≡ 20 = search rules in
    let a = child_a _ _ _ c.requires.sound.1 c.args.n c.requires.within 20 k Expression _ refl c.numbers_in-a.ensures.a in
    let h : c.numbers_in-a.result.0 < length c.args.nodes.now = omega (arith, a.0.1, c.requires.within) in
    let l : kind_at c.args.nodes.now c.numbers_in-a.result.0 ≡ 12 = search rules in
    function_in _ _ _ c.requires.sound.1 c.numbers_in-a.result.0 h l _ c.numbers_in-f.ensures.a

pub returns-in-Ok-Return : goal.returns-in-Ok-Return
returns-in-Ok-Return c =
    let k : kind_at c.args.nodes.now c.args.n ≡ 20 = search rules in
    let a = child_a _ _ _ c.requires.sound.1 c.args.n c.requires.within 20 k Expression _ refl c.numbers_in-a.ensures.a in
    let h : c.numbers_in-a.result.0 < length c.args.nodes.now = omega (arith, a.0.1, c.requires.within) in
    let l : kind_at c.args.nodes.now c.numbers_in-a.result.0 ≡ 12 = search rules in
    let p = call_in _ _ _ c.requires.sound.1 c.numbers_in-a.result.0 h l _ _ c.numbers_in-f.ensures.a c.numbers_in-f.ensures.b in
    let b = child_b _ _ _ c.requires.sound.1 c.numbers_in-a.result.0 h 12 l Arguments _ refl c.numbers_in-f.ensures.b in
    let e = stmt_replace _ c.args.n c.requires.within _ k a.0 _ l b.0 ∙ ap (λ (f : ℕ). Tree.replace c.args.n c.numbers_in-a.result.0 f (args_at c.args.nodes.now c.numbers_in-f.result.1)) (sym c.numbers_in-f.ensures.a) in
    record { tree = e; room = ap stmt_room e; nest = ap whiles e; parts = (a.1, (p.0, p.1, (omega (arith, a.1.0, p.2.0), p.2.1))) }

pub returns-in-Ok-Return-2 : goal.returns-in-Ok-Return-2
returns-in-Ok-Return-2 c =
    let k : kind_at c.args.nodes.now c.args.n ≡ 20 = search rules in
    let a = child_a _ _ _ c.requires.sound.1 c.args.n c.requires.within 20 k Expression _ refl c.numbers_in-a.ensures.a in
    let h : c.numbers_in-a.result.0 < length c.args.nodes.now = omega (arith, a.0.1, c.requires.within) in
    let l : (kind_at c.args.nodes.now c.numbers_in-a.result.0 ≡ 12 → ⊥) = search rules in
    let e = stmt_return _ c.args.n c.requires.within _ k a.0 l in
    record { tree = e; room = ap stmt_room e; nest = ap whiles e; parts = a.1 }
