use Rattle.std.proofs.Common.{◌≡◌, nat_abs, Some, rules}
use Rattle.script.specs.Nesting.{nesting_by}
use Rattle.script.proofs.NestingLaws.{child-nesting}
use Rattle.script.proofs.nesting.+nesting_in_nesting_of.Goals as goal

pub nesting_in-returns-in-Some-clause-value : goal.nesting_in-returns-in-Some-clause-value
nesting_in-returns-in-Some-clause-value t c =
    let w : c.args.want ≡ Some c.in-Some.field-0 = search rules in
    let i : c.unsigned_abs.result ≡ nat_abs c.args.x = search rules in
    let e = c.nesting_of.ensures in
    (child-nesting _ c.args.n c.args.x c.args.want c.in-Some.field-0 _ _ w (c.requires.child c.in-Some.field-0 w) i e.value e.few).0

pub nesting_of-nesting_in-b-requires : goal.nesting_of-nesting_in-b-requires
nesting_of-nesting_in-b-requires t c =
    let k = c.requires.children.in_b c.args.n c.requires.within in
    search rules

pub nesting_of-nesting_in-c-requires : goal.nesting_of-nesting_in-c-requires
nesting_of-nesting_in-c-requires t c =
    let k = c.requires.children.in_c c.args.n c.requires.within in
    search rules

pub nesting_of-returns-clause-value : goal.nesting_of-returns-clause-value
unfolding nesting_by
nesting_of-returns-clause-value t c = search rules
