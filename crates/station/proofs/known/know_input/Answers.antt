use Rattle.std.proofs.Common.{pos, sym, ◌∙◌, subst, w32, SFits, rules}
use Rattle.std.proofs.lemmas.Option.{none-some, get_or_from_slice_get, slice_get-get_or}
use Rattle.station.proofs.known.know_input.Goals as goal

pub returns-in-Some : goal.returns-in-Some
returns-in-Some g c =
    let f : SFits w32 c.in-Some.input = search rules in
    λ h. subst (SFits w32) (sym (get_or_from_slice_get (g.B.Board.means c.args.board.now).inputs c.args.n c.in-Some.input (pos 0) (sym c.in-Some.ensures))) f

pub returns-in_default : goal.returns-in_default
returns-in_default g c = λ h. absurd (none-some _ (c.in_default.ensures ∙ slice_get-get_or (g.B.Board.means c.args.board.now).inputs c.args.n (pos 0) h))
