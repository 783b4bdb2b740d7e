-- Marks of accepted scripts are nodes or none.
use Rattle.std.proofs.Common.{ℕ, ◌≤◌, arith}
use Rattle.answer.specs.Numbers.{no_place}
use Rattle.script.proofs.SoundLaws.{sound}
use Rattle.meaning.specs.Tables.{script_of}
use Rattle.scheme.specs.Scheme.{script_code}
use Rattle.bounds.specs.Bounds.{MarksFit}
use Rattle.bounds.proofs.Marked.{code_marks_lem}
use Rattle.bounds.proofs.Numbered.{marked_script}
use Rattle.bounds.proofs.Decoded.{numbered_script}

abbrev Small : ℕ → Type 0
Small m = m ≤ no_place

pub marks_fit : MarksFit
marks_fit fs gs xs e =
    let few = (sound fs gs xs e).limited.nodes.1 in
    let none : Small no_place = omega arith in
    code_marks_lem Small none (script_code (script_of fs gs xs))
    (marked_script Small none (script_of fs gs xs) (numbered_script Small (omega arith) fs gs xs (λ n l. omega arith)))
