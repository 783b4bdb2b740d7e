-- What a loop over the nodes answers that stops at the first with a fault, and what it says where it answers none.
use Rattle.std.proofs.Common.{◌≡◌, ℕ, ◌<◌, Bool, true, Some, None, Ok, Err, Option, Result, sym, refl, ap, arith}
use Rattle.answer.specs.Numbers.{refused_at}
use Rattle.answer.specs.declared.Reason.{Reason}
use Rattle.answer.specs.declared.Refusal.{Refusal}
use Rattle.script.specs.Least.{least_below}
use Rattle.script.specs.Fault.{fault_at, answer_of}
use Rattle.script.proofs.LeastLaws.{least_found}

pub refused_first : (why : Reason) (p : ℕ → Bool) (i n : ℕ) → least_below p i ≡ None → p i ≡ true → i < n → ◌≡◌ {A = Result (Unit {0}) Refusal} (Err (refused_at why i)) (answer_of (fault_at why (least_below p n)))
refused_first why p i n e h l = sym (ap (λ o. answer_of (fault_at why o)) (least_found p i n e h l))

apart : {u : Unit {0}} {e : Refusal} {P : Type 0} → ◌≡◌ {A = Result (Unit {0}) Refusal} (Ok u) (Err e) → P
apart q = let z : ◌≡◌ {A = ℕ} 0 1 = cc in absurd (omega arith)

-- no fault, no node
pub nowhere : (why : Reason) (o : Option ℕ) (u : Unit {0}) → Ok u ≡ answer_of (fault_at why o) → o ≡ None
nowhere why None u q = refl
nowhere why (Some n) u q = apart q
