use Rattle.std.proofs.Common.{◌≡◌, ◌+◌, nat_abs, sym, refl, ap, ◌∙◌, arith, rules}
use Rattle.script.specs.declared.kinds.Sort.TheVariants.{Arguments}
use Rattle.script.specs.Kinds.{node_at, kind_at}
use Rattle.script.specs.Scope.{arguments_by}
use Rattle.script.proofs.ScopeLaws.{arguments_of_call, arguments_of_list}
use Rattle.script.proofs.ShapedLaws.{kid_b}
use Rattle.script.proofs.scope.+arguments_of.Goals as goal

pub arguments_of-requires : goal.arguments_of-requires
arguments_of-requires t c =
    let k : kind_at c.args.nodes.now c.args.n ≡ 14 = search rules in
    let i : c.unsigned_abs.result ≡ nat_abs (node_at c.args.nodes.now c.args.n).b = search rules in
    let b = kid_b _ c.requires.children c.args.n c.requires.within 14 k Arguments _ refl i in
    (omega (arith, b.0.1), (c.requires.children, omega (arith, b.0.1, c.requires.within)))

pub arguments_of-requires-in-Ok-Call : goal.arguments_of-requires-in-Ok-Call
arguments_of-requires-in-Ok-Call t c =
    let k : kind_at c.args.nodes.now c.args.n ≡ 12 = search rules in
    let i : c.unsigned_abs-in-Ok-Call.result ≡ nat_abs (node_at c.args.nodes.now c.args.n).b = search rules in
    let b = kid_b _ c.requires.children c.args.n c.requires.within 12 k Arguments _ refl i in
    (omega (arith, b.0.1), (c.requires.children, omega (arith, b.0.1, c.requires.within)))

pub returns-in-Ok-Argument : goal.returns-in-Ok-Argument
returns-in-Ok-Argument t c =
    let k : kind_at c.args.nodes.now c.args.n ≡ 14 = search rules in
    let i : c.unsigned_abs.result ≡ nat_abs (node_at c.args.nodes.now c.args.n).b = search rules in
    let b = kid_b c.args.nodes.now c.requires.children c.args.n c.requires.within 14 k Arguments _ refl i in
    let e = c.arguments_of.ensures in
    record {
      value = ap (λ m. 1 + m) e.value ∙ sym (arguments_of_list _ c.args.n _ b.0.0 b.0.1 k);
      few = omega (arith, e.few, b.0.1);
    }

pub returns-in-Ok-Call : goal.returns-in-Ok-Call
returns-in-Ok-Call t c =
    let k : kind_at c.args.nodes.now c.args.n ≡ 12 = search rules in
    let i : c.unsigned_abs-in-Ok-Call.result ≡ nat_abs (node_at c.args.nodes.now c.args.n).b = search rules in
    let b = kid_b c.args.nodes.now c.requires.children c.args.n c.requires.within 12 k Arguments _ refl i in
    let e = c.arguments_of-in-Ok-Call.ensures in
    record { value = e.value ∙ sym (arguments_of_call _ c.args.n _ b.0.0 b.0.1 k); few = omega (arith, e.few, b.0.1) }

pub returns-in_default-clause-value : goal.returns-in_default-clause-value
unfolding arguments_by
returns-in_default-clause-value t c = search rules

pub returns-in_default-2-clause-value : goal.returns-in_default-2-clause-value
unfolding arguments_by
returns-in_default-2-clause-value t c = search rules
