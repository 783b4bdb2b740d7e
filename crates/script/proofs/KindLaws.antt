-- Which children expressions and lists have.
use Rattle.std.proofs.Common.{◌≡◌, ℕ, true, Some, arith}
use Rattle.std.proofs.lemmas.Bool.Decides.{nat_tests}
use Rattle.script.specs.declared.kinds.Sort.TheVariants.{Expression, Statement}
use Rattle.script.specs.Kinds.{is_of, want_a, want_b, want_c}

module _ (k : ℕ) (e : is_of Expression k ≡ true) where
  pub no_statement_a : want_a k ≡ Some Statement → ⊥
  no_statement_a q = grind (arith, nat_tests)

  pub no_statement_b : want_b k ≡ Some Statement → ⊥
  no_statement_b q = grind (arith, nat_tests)

  pub no_statement_c : want_c k ≡ Some Statement → ⊥
  no_statement_c q = grind (arith, nat_tests)
