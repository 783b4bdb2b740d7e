use Rattle.scheme.specs.Code.{view, front, jumps}
use Rattle.scheme.proofs.Keep.{keeps_GOTO, keeps_not, keeps_cst, keeps_labelled, keeps_left, keeps_jump, keeps_expr, keeps_args, keeps_stmt, keeps_functions}
use Rattle.scheme.proofs.labels_stay.Goals as goal

pub returns : goal.returns
returns c = (
  (λ t m C. keeps_GOTO t m C),
  (λ m C. keeps_not m (view C)),
  (λ v m C. keeps_cst v m (view C)),
  (λ C. (keeps_labelled (front C), keeps_left C (jumps C))),
  (λ C m D. keeps_jump C (jumps C) m D),
  (λ lengths e C. keeps_expr lengths e C),
  (λ lengths l C. keeps_args lengths l C),
  (λ lengths total s C. keeps_stmt lengths total s C),
  (λ lengths f fn fns. keeps_functions lengths f fn fns),
)
