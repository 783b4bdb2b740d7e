use Rattle.std.proofs.Common.{◌≡◌, refl, ap, rules}
use Rattle.script.specs.Kinds.{kind_at}
use Rattle.script.specs.declared.kinds.Sort.TheVariants.{Expression, Arguments}
use Rattle.reading.specs.Room.{args_room}
use Rattle.reading.proofs.ReadLaws.{kid_a, kid_b}
use Rattle.meaning.proofs.Decodes.{args_none, args_also}
use Rattle.reading.proofs.arguments_at.Goals as goal

pub returns-in-Ok-NoArguments : goal.returns-in-Ok-NoArguments
returns-in-Ok-NoArguments c =
    let k : kind_at c.args.nodes.now c.args.n ≡ 13 = search rules in
    let e = args_none _ c.args.n c.requires.within k in
    record { tree = e; room = ap args_room e; parts = tt }

pub returns-in-Ok-Argument : goal.returns-in-Ok-Argument
returns-in-Ok-Argument c =
    let k : kind_at c.args.nodes.now c.args.n ≡ 14 = search rules in
    let a = kid_a c.args.nodes.now c.requires.children c.args.n c.requires.within 14 k Expression _ refl c.numbers_in-a.ensures.a in
    let b = kid_b c.args.nodes.now c.requires.children c.args.n c.requires.within 14 k Arguments _ refl c.numbers_in-a.ensures.b in
    let e = args_also _ c.args.n c.requires.within _ _ k a.0 b.0 in
    record { tree = e; room = ap args_room e; parts = (a.1, b.1) }
