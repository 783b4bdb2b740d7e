-- What is known of a view before its instruction goes.
use Rattle.std.specs.Prelude.{◌≡◌, ℕ, ◌≤◌, List, length, ℤ, pos, ◌≤ℤ◌, ◌<ℤ◌}
use Rattle.board.specs.Meaning.{Means}
use Rattle.rules.specs.Limits.{code_limit, depth_limit, stack_limit}
use Rattle.rules.specs.declared.Registers.{Registers}
use Rattle.rules.specs.declared.View.{View}

-- registers whose position lies in code
pub record InCode (r : Registers) : Type 0 where
  pub low : pos 0 ≤ℤ r.position
  pub high : r.position <ℤ pos code_limit

-- a view within the limits
pub record Within (v : View) : Type 0 where
  pub in_code : InCode v.registers
  pub deepest : v.deepest ≤ depth_limit
  pub capacity : v.capacity ≤ stack_limit
  pub used : v.used ≤ v.capacity

-- the view is of a stack with these words, so many of them in use, and of a board that means this
pub record Sees (v : View) (words : List ℤ) (in_use : ℕ) (board : Means) : Type 0 where
  pub used : v.used ≡ in_use
  pub slots : v.capacity ≡ length words
  pub inputs : v.inputs ≡ length board.inputs
