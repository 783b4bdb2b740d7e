use Rattle.std.proofs.Common.{◌≡◌, length, get_or, arith, rules}
use Rattle.station.specs.Filled.{narrowed}
use Rattle.station.proofs.Narrow.{all_narrowed}
use Rattle.station.proofs.tables.narrow_marks.Goals as goal

pub returns : goal.returns
returns c =
    let long : length c.map.result ≡ length c.args.marks = search rules in
    all_narrowed c.map.result c.args.marks long λ k h.
    let p = (c.map.ensures.items.at k 0 0 (omega arith)).2 in
    let told : get_or c.map.result k 0 ≡ narrowed (get_or c.args.marks k 0) = search rules in
    told
