use Rattle.std.proofs.Common.{length}
use Rattle.scheme.specs.Code.{size}
use Rattle.scheme.specs.Scheme.{script_code}
use Rattle.scheme.specs.Written.{loop_end, entry_end}
use Rattle.scheme.proofs.Lengths.{words_length, marks_length, entries_length}
use Rattle.scheme.proofs.lengths_agree.Goals as goal

pub returns : goal.returns
returns c s =
    let P = script_code s in
    (words_length (loop_end P) (entry_end P) (size P) P, marks_length P, entries_length P 0 (length s.functions))
