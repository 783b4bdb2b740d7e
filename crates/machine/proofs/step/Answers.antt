use Rattle.std.proofs.Common.{◌≡◌, ℕ, true, false, length, get_or, pos, nat_abs, Err, sym, refl, ap, ◌∙◌, subst, w32, SFits, rules}
use Rattle.std.proofs.lemmas.Int.{to_z-of_z}
use Rattle.rules.specs.declared.Registers.{Registers}
use Rattle.rules.specs.Rules.{among}
use Rattle.effects.specs.Effects.{State}
use Rattle.effects.specs.Seen.{Within}
use Rattle.machine.specs.Machine.{Setup, viewed}
use Rattle.machine.proofs.Steps.{step_ok, step_err, step_out, may_go, ranged}
use Rattle.machine.proofs.step.Goals as goal

pub returns-then-not-among-clause-tells : goal.returns-then-not-among-clause-tells
returns-then-not-among-clause-tells g c =
    let fits : SFits w32 c.args.r.position = search rules in
    let u : false ≡ among c.args.r.position (length c.args.code.now) = simp to_z-of_z at c.if-not-among.ensures in
    (step_out _ _ (sym u), refl)

pub perform-requires-clause-within : goal.perform-requires-clause-within
perform-requires-clause-within g c =
    let fits : SFits w32 c.args.r.position = search rules in
    let u : true ≡ among c.args.r.position (length c.args.code.now) = simp to_z-of_z at c.if-not-among.ensures in
    subst Within (sym c.look-view.ensures) (record {
      in_code = ranged c.args.r (length c.args.code.now) c.requires.code (sym u);
      deepest = c.requires.deepest;
      capacity = c.requires.capacity;
      used = c.requires.used;
    })

pub perform-requires-clause-ready : goal.perform-requires-clause-ready
perform-requires-clause-ready g c = may_go _ c.look-view.result _ c.in_ok-instruction.ensures

pub returns-clause-tells : goal.returns-clause-tells
returns-clause-tells g c =
    let t : Setup = record { code = c.args.code.now; deepest = c.args.deepest } in
    let s : State = record { words = c.args.stack.now.slots.now; used = c.args.stack.now.used; board = g.B.Board.means c.args.board.now; registers = c.args.r } in
    let fits : SFits w32 c.args.r.position = search rules in
    let fits_word : SFits w32 (get_or c.args.code.now c.index.result (pos 0)) = search rules in
    let u : true ≡ among c.args.r.position (length c.args.code.now) = simp to_z-of_z at c.if-not-among.ensures in
    let i : c.index.result ≡ nat_abs c.args.r.position = simp to_z-of_z at c.index.ensures.is in
    let p = to_z-of_z w32 _ fits_word ∙ ap (λ (k : ℕ). get_or c.args.code.now k (pos 0)) i in
    let q = c.look-view.ensures ∙ ap (λ (n : ℕ). viewed c.args.code.now n c.args.deepest c.args.stack.now.slots.now c.args.stack.now.used c.args.r) c.requires.inputs in
    step_ok t s _ (sym u) p c.look-view.result q c.in_ok-instruction.instruction c.perform.result
    (λ (r2 : Registers). record { words = c.perform.new.stack.slots.now; used = c.perform.new.stack.used; board = g.B.Board.means c.perform.new.board; registers = r2 })
    c.in_ok-instruction.ensures c.perform.ensures.tells

pub returns-in_err-instruction-clause-tells : goal.returns-in_err-instruction-clause-tells
returns-in_err-instruction-clause-tells g c =
    let t : Setup = record { code = c.args.code.now; deepest = c.args.deepest } in
    let s : State = record { words = c.args.stack.now.slots.now; used = c.args.stack.now.used; board = g.B.Board.means c.args.board.now; registers = c.args.r } in
    let fits : SFits w32 c.args.r.position = search rules in
    let fits_word : SFits w32 (get_or c.args.code.now c.index.result (pos 0)) = search rules in
    let u : true ≡ among c.args.r.position (length c.args.code.now) = simp to_z-of_z at c.if-not-among.ensures in
    let i : c.index.result ≡ nat_abs c.args.r.position = simp to_z-of_z at c.index.ensures.is in
    let p = to_z-of_z w32 _ fits_word ∙ ap (λ (k : ℕ). get_or c.args.code.now k (pos 0)) i in
    let q = c.look-view.ensures ∙ ap (λ (n : ℕ). viewed c.args.code.now n c.args.deepest c.args.stack.now.slots.now c.args.stack.now.used c.args.r) c.requires.inputs in
    let r : c.from_residual.result ≡ Err c.in_err-instruction.field-0.0 = search rules in
    rw r (step_err t s _ (sym u) p c.look-view.result q _ c.in_err-instruction.ensures, refl)
