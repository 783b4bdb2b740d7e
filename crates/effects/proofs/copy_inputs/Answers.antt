use Rattle.std.proofs.Common.{◌≡◌, ◌<◌, length, get_or, pos, arith, rules}
use Rattle.std.proofs.lemmas.List.{take_more, take_more_set}
use Rattle.std.proofs.lemmas.Option.{unwrap_or-slice_get}
use Rattle.effects.proofs.copy_inputs.Goals as goal

pub loop-n-preserved : goal.loop-n-preserved
loop-n-preserved g c =
    let xs = (g.B.Board.means c.args.board.now).inputs in
    let inside : c.loop-n.n < length xs = omega arith in
    let more = take_more xs c.loop-n.n (pos 0) inside in
    let word : c.unwrap_or.result ≡ get_or xs c.loop-n.n (pos 0) = search (rules, unwrap_or-slice_get) in
    search (rules, take_more_set)
