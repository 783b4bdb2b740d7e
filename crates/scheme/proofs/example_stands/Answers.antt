use Rattle.std.proofs.Common.{refl}
use Rattle.meaning.specs.Tables.{parts_after}
use Rattle.scheme.specs.Code.{view, front, jumps}
use Rattle.scheme.specs.Writing.{dead, write_goto, not_before, cst_before, target_of, labelled_of, left_by, jump_by, and_before, or_before}
use Rattle.scheme.specs.Scheme.{expr_code, args_code, stmt_code, zeros_code, functions_code, script_code}
use Rattle.scheme.proofs.example_stands.Goals as goal

pub returns : goal.returns
unfolding parts_after view front jumps dead write_goto not_before cst_before target_of labelled_of left_by jump_by and_before or_before expr_code args_code stmt_code zeros_code functions_code script_code
returns c = refl
