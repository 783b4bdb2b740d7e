use Rattle.std.proofs.Common.{sym, refl, ap, ◌∙◌, arith}
use Rattle.script.specs.Fault.{answer_of}
use Rattle.history.specs.Calls.{tables}
use Rattle.history.specs.History.{zeros}
use Rattle.station.proofs.Agreeing.{accepted_does}
use Rattle.station.proofs.LoadMeaning.{fine, within, none-refused, loaded_from}
use Rattle.station.proofs.held.Station.load.Goals as goal

pub main_inputs-requires : goal.main_inputs-requires
main_inputs-requires c = (within _ _ _ _ c.in_ok-start.ensures.answer).functions.0

pub words_of-requires : goal.words_of-requires
words_of-requires c = (within _ _ _ _ c.in_ok-start.ensures.answer).globals

pub zeros-self-requires : goal.zeros-self-requires
zeros-self-requires c =
    let few = (within _ _ _ _ c.in_ok-start.ensures.answer).words in
    omega (arith, c.words_of.ensures)

pub fill_entries-requires : goal.fill_entries-requires
fill_entries-requires c =
    let few = (within _ _ _ _ c.in_ok-start.ensures.answer).functions.1 in
    omega arith

pub returns : goal.returns
returns c =
    let t = tables c.args.functions.now c.args.globals.now c.args.nodes.now in
    let start = c.in_ok-start.start in
    let f = fine t start c.in_ok-start.ensures.answer in
    let accepted = none-refused t start f in
    let few = (within _ _ _ _ c.in_ok-start.ensures.answer).functions.1 in
    let globals = c.zeros-self.ensures ∙ ap zeros c.words_of.ensures in
    let left =
    loaded_from t _ start c.main_inputs.result c.compile.new.self.words c.compile.new.self.marks c.compile.new.self.entries
    c.fill_entries.new.functions f c.know_constants.ensures c.in_ok-start.ensures.code (omega arith) refl c.narrow_marks-self.ensures refl refl
    c.main_inputs.ensures globals c.fill_entries.ensures in
    record { answer = ap answer_of (sym accepted); left = left; does = λ σ _. accepted_does t _ accepted left.holds globals σ }
