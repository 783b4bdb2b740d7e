-- The number of each kind, by which the tables name it.
use Rattle.std.specs.Prelude.{◌≡◌, ℕ, ◌<◌, Result, MatchResult}
use Rattle.script.specs.declared.kinds.Kind.{Kind}
use Rattle.script.specs.declared.kinds.Kind.TheVariants.{Constant, Local, Global, Element, SetLocal, SetGlobal, SetElement, Not, Print, Binary, And, Or, Call, NoArguments, Argument, Nothing, Sequence, Evaluate, If, While, Return}
use Rattle.script.specs.declared.kinds.UnknownKind.{UnknownKind}
use Rattle.script.specs.Kinds.{last_kind}

abbrev pub kind_number : Kind → ℕ
kind_number Constant = 0
kind_number Local = 1
kind_number Global = 2
kind_number Element = 3
kind_number SetLocal = 4
kind_number SetGlobal = 5
kind_number SetElement = 6
kind_number Not = 7
kind_number Print = 8
kind_number Binary = 9
kind_number And = 10
kind_number Or = 11
kind_number Call = 12
kind_number NoArguments = 13
kind_number Argument = 14
kind_number Nothing = 15
kind_number Sequence = 16
kind_number Evaluate = 17
kind_number If = 18
kind_number While = 19
kind_number Return = 20

-- the kind with that number, or the number of none
abbrev pub Decodes : ℕ → Result Kind UnknownKind → Type 0
Decodes k r = MatchResult r (λ kind. kind_number kind ≡ k) (λ e. (e.0 ≡ k) × (last_kind < k))
