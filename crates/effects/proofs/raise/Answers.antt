use Rattle.std.proofs.Common.{◌≡◌, length, pos, ◌<ℤ◌, ap, ◌∙◌, arith, rules}
use Rattle.std.proofs.lemmas.Int.{ints, to_z-of_z}
use Rattle.rules.specs.Rules.{down}
use Rattle.effects.proofs.Lowering.{up_none, paste_lower}
use Rattle.effects.proofs.raise.Goals as goal

pub returns-then-x-lt0 : goal.returns-then-x-lt0
returns-then-x-lt0 c =
    let h : c.args.x <ℤ pos 0 = search (rules, ints) in
    let u = up_none c.args.x h in
    let f = c.ranges.x in
    let d : c.lowered.result ≡ down c.args.x = simp to_z-of_z at c.lowered.ensures in
    record {
      slots = c.resize.ensures.slots ∙ paste_lower _ _ c.args.x h;
      length = ap length c.resize.ensures.slots;
      used = c.resize.ensures.used ∙ omega arith;
      lender = c.resize.ensures.lender;
    }
