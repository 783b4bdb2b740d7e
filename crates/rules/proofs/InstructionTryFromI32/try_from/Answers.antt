use Rattle.std.proofs.Common.{◌≡◌, pos, ◌≤ℤ◌, sym, arith}
use Rattle.std.proofs.lemmas.Int.{ints}
use Rattle.rules.proofs.Decoded.{unnamed}
use Rattle.rules.proofs.InstructionTryFromI32.try_from.Goals as goal

pub returns-in_default : goal.returns-in_default
returns-in_default c =
    let h : pos 0 ≤ℤ c.args.number → c.args.number ≤ℤ pos 25 → c.args.number ≡ pos 23 = λ a b. omega (arith, ints) in
    sym (unnamed c.args.number h)
