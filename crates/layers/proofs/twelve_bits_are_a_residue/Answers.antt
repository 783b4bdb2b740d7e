use Rattle.layers.specs.Layer.{twelve}
use Rattle.layers.proofs.Residues.{alike, wide, low_below, alone}
use Rattle.layers.proofs.twelve_bits_are_a_residue.Goals as goal

pub returns : goal.returns
returns c = λ v. (alike v, wide v (low_below v), λ w a t. alone v w (twelve v) a t (alike v) (wide v (low_below v)))
