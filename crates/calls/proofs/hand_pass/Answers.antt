use Rattle.std.proofs.Common.{◌≡◌, length, take, drop, get_or, pos, ap, ◌∙◌, rules}
use Rattle.std.proofs.lemmas.List.{take-append-drop}
use Rattle.agreement.specs.Agreement.{stack_words}
use Rattle.calls.proofs.Behind.{kept, behind}
use Rattle.calls.proofs.hand_pass.Goals as goal

pub returns-clause-beyond : goal.returns-clause-beyond
returns-clause-beyond g c =
    let part = take c.min-long.result c.args.stack.now in
    let rest = drop c.min-long.result c.args.stack.now in
    let long : length c.pass.new.stack ≡ length part = search rules in
    let same = kept _ _ _ part c.pass.new.stack _ _ _ _ _ c.pass.result c.pass.ensures.tells in
    λ k low. behind (stack_words c.args.allowed.depth) part c.pass.new.stack rest k long same low ∙ ap (λ xs. get_or xs k (pos 0)) (take-append-drop c.min-long.result c.args.stack.now)
