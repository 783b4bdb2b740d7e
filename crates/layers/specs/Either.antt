-- What is said of one of two boards.
use Rattle.layers.specs.declared.Either.{Either}
use Rattle.layers.specs.declared.Either.TheVariants.{First, Second}

abbrev pub of_either : {L R X : Type 0} → (L → X) → (R → X) → Either L R → X
of_either f g (First b) = f b
of_either f g (Second b) = g b
