use Rattle.std.proofs.Common.{Err, sym, ap, ◌∙◌, arith}
use Rattle.script.proofs.FaultLaws.{refused_first}
use Rattle.script.proofs.LeastLaws.{least_none, least_more}
use Rattle.script.proofs.fault.refuse_least.Goals as goal

pub loop-n-init : goal.loop-n-init
loop-n-init g c = λ p h. least_none p

pub returns-then-is_at_fault : goal.returns-then-is_at_fault
returns-then-is_at_fault g c =
    λ p h.
    ap Err c.at.ensures
    ∙ refused_first c.args.reason p c.loop-n.n c.args.nodes (c.loop-n.invariant p h) (sym (h c.loop-n.n _ (omega arith) c.is_at_fault.ensures) ∙ c.if-is_at_fault.true) (omega arith)

pub loop-n-preserved : goal.loop-n-preserved
loop-n-preserved g c =
    λ p h. least_more p c.loop-n.n (c.loop-n.invariant p h) (sym (h c.loop-n.n _ (omega arith) c.is_at_fault.ensures) ∙ c.if-is_at_fault.false)
