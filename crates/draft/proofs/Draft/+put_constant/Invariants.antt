use Rattle.std.proofs.Common.{length}
use Rattle.draft.specs.Drafted.{code_of}
use Rattle.draft.proofs.Draft.+put_constant.Given as goal

abbrev pub decreases-put_constant : goal.decreases-put_constant
decreases-put_constant l = length (code_of l.self.now)
