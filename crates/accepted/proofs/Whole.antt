-- Sound tables hold a ready script.
use Rattle.std.proofs.Common.{ℕ, ◌<◌, List, length, sum, refl, ap, arith}
use Rattle.script.specs.declared.Function.{Function as Row}
use Rattle.script.specs.declared.Node.{Node}
use Rattle.script.specs.Scope.{no_function}
use Rattle.script.specs.Sound.{Sound}
use Rattle.script.proofs.SoundLaws.{sound}
use Rattle.meaning.specs.Tree.{Function}
use Rattle.meaning.specs.Tables.{script_of}
use Rattle.meaning.proofs.Decodes.{function_is}
use Rattle.symbolic.specs.Proper.{Proper}
use Rattle.accepted.specs.Accepted.{ConstantsFit, spare_words, Ready, AcceptedAreProper}
use Rattle.accepted.proofs.Names.{as_many, known}
use Rattle.accepted.proofs.Nodes.{body_good}
use Rattle.accepted.proofs.Once.{distinct}

module _ (fs : List Row) (gs : List ℕ) (xs : List Node) (s : Sound fs gs xs) (fit : ConstantsFit xs) where
  proper : Proper gs (script_of fs gs xs).functions (sum gs) spare_words
  proper f h =
      let l : f < length fs = omega (arith, h, as_many fs gs xs) in
      rw (function_is fs gs xs f no_function l) (body_good fs gs xs s fit f l, omega (arith, s.limited.locals f l))

  pub ready : Ready fs gs (script_of fs gs xs)
  ready = record {
    lengths = refl;
    functions = as_many fs gs xs;
    parameters = λ f h. ap (λ (x : Function). x.parameters) (function_is fs gs xs f no_function h);
    locals = λ f h. ap (λ (x : Function). x.locals) (function_is fs gs xs f no_function h);
    proper = proper;
    distinct = distinct fs gs xs s;
    main = known fs gs xs 0 s.limited.functions.0 _ refl;
  }

pub accepted : AcceptedAreProper
accepted fs gs xs e fit = ready fs gs xs (sound fs gs xs e) fit
