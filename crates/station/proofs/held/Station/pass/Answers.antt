use Rattle.std.proofs.Common.{◌≡◌, ℕ, List, ◌++◌, length, drop, ℤ, sym, refl, ap, ◌∙◌, subst, arith, length-append, length-drop, rules}
use Rattle.std.proofs.lemmas.List.{length-take-le}
use Rattle.std.proofs.lemmas.Result.{err_from_is_err_and}
use Rattle.board.proofs.Frames.{framed-none}
use Rattle.symbolic.specs.Proper.{Fit}
use Rattle.history.specs.Calls.{plain_pass, pass_refusal}
use Rattle.station.proofs.Agreeing.{declined_does}
use Rattle.station.proofs.Assembled.{due_of, none_due, assembled}
use Rattle.station.proofs.Clear.{asked}
use Rattle.station.proofs.PassMeaning.{passed_does}
use Rattle.station.proofs.held.Station.pass.Goals as goal

pub returns-in_err-check : goal.returns-in_err-check
returns-in_err-check g c =
    let s = c.args.self.now in
    let m = g.B.Board.means c.args.board.now in
    let p = err_from_is_err_and c.from_residual.result c.from_residual.ensures.1 in
    let due =
    ap (λ (n : ℕ). pass_refusal s.inputs c.args.allowed (length c.args.stack.now) n) (sym c.count.ensures)
    ∙ due_of _ c.in_err-check.field-0.0 c.in_err-check.ensures in
    rw (p.1, p.2) (record {
      tells = (due, (refl, refl, refl));
      does = declined_does s (plain_pass c.args.allowed (length c.args.stack.now) m) c.in_err-check.field-0.0 due;
      lent = refl;
      beside = framed-none _ _;
    })

pub run-requires : goal.run-requires
run-requires g c =
    let s = c.args.self.now in
    let clear = asked s.inputs c.args.allowed (length c.args.stack.now) c.count.result (none_due _ c.in_ok-check.ensures) in
    let room = c.stack_words-room.ensures in
    record {
      allowed = clear.0;
      code = let l = ap length c.code.ensures in let d = length-drop s.start s.code in omega arith;
      globals = c.as_slice-2.ensures.few;
      stack = length-take-le c.stack_words-room.result c.args.stack.now (let k = clear.1 in omega arith) ∙ room;
    }

pub write_back-requires : goal.write_back-requires
write_back-requires g c =
    let few = c.as_slice-2.ensures.few in
    let same = ap length c.as_slice-2.ensures.words in
    let room = c.stack_words-room.ensures in
    let long : length c.run.new.stack ≡ c.stack_words-room.result = search rules in
    let all = length-append c.run.new.stack (drop c.stack_words-room.result c.args.stack.now) in
    omega arith

pub returns : goal.returns
returns g c =
    let s = c.args.self.now in
    let s' = c.write_back.new.self in
    let stack = c.args.stack.now in
    let k = c.stack_words-room.result in
    let m = g.B.Board.means c.args.board.now in
    let m' = g.B.Board.means c.run.new.board in
    let room = c.stack_words-room.ensures in
    let long : length c.run.new.stack ≡ k = search rules in
    let due =
    ap (λ (n : ℕ). pass_refusal s.inputs c.args.allowed (length stack) n) (sym c.count.ensures)
    ∙ none_due _ c.in_ok-check.ensures in
    let e = c.in_ok-ended.ensures in
    let passed =
    assembled s s' c.args.allowed stack c.run.new.stack m m' c.in_ok-ended.ended c.marked.result c.code.result.now c.as_slice-2.result.now
    c.marks.result.now k c.code.ensures c.as_slice-2.ensures.words (omega arith) long e.ran c.marks.ensures c.marked.ensures c.write_back.ensures.kept
    c.write_back.ensures.globals in
    let total = length-append c.run.new.stack (drop k stack) in
    let rest = length-drop k stack in
    let enough = (asked s.inputs c.args.allowed (length stack) c.count.result (none_due _ c.in_ok-check.ensures)).1 in
    let size : length (c.run.new.stack ++ drop k stack) ≡ length stack = omega arith in
    let fits = subst (λ (xs : List ℤ). Fit xs) c.as_slice.ensures.words c.know_words.ensures in
    record {
      tells = (due, passed);
      does =
          passed_does s s' (plain_pass c.args.allowed (length stack) m) stack (c.run.new.stack ++ drop k stack) m' c.marked.result refl refl size due fits
          c.know_inputs.ensures passed;
      lent = e.lent;
      beside = e.beside;
    }
