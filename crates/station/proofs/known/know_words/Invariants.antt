use Rattle.std.proofs.Common.{ℕ, ◌<◌, get_or, pos, w32, SFits}
use Rattle.station.proofs.known.know_words.Given as goal

abbrev pub invariant-loop-word : goal.invariant-loop-word
invariant-loop-word l = (k : ℕ) → k < l.word-index → SFits w32 (get_or l.words k (pos 0))
