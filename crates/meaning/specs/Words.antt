-- Signed 32-bit words and what the operators make of them.
use Rattle.std.specs.Prelude.{Bool, true, false, not, ℤ, pos, negsuc, ◌+ℤ◌, ◌-ℤ◌, ◌*ℤ◌, ◌==◌, int_div, int_lt, int_rem}
use Rattle.std.specs.Int.{int_wrap, w32}

abbrev pub eq_z : ℤ → ℤ → Bool
eq_z (pos a) (pos b) = a == b
eq_z (pos a) (negsuc b) = false
eq_z (negsuc a) (pos b) = false
eq_z (negsuc a) (negsuc b) = a == b

abbrev pub is_zero : ℤ → Bool
is_zero x = eq_z x (pos 0)

-- the word that tells whether a comparison holds
abbrev pub flag : Bool → ℤ
flag true = pos 1
flag false = pos 0

pub data Operator : Type 0 where
  add sub mul div rem eq ne lt ge gt le : Operator

-- what an operator gives; of a divisor 0 nobody asks
abbrev pub apply : Operator → ℤ → ℤ → ℤ
apply add x y = int_wrap w32 (x +ℤ y)
apply sub x y = int_wrap w32 (x -ℤ y)
apply mul x y = int_wrap w32 (x *ℤ y)
apply div x y = int_wrap w32 (int_div x y)
apply rem x y = int_rem x y
apply eq x y = flag (eq_z x y)
apply ne x y = flag (not (eq_z x y))
apply lt x y = flag (int_lt x y)
apply ge x y = flag (not (int_lt x y))
apply gt x y = flag (int_lt y x)
apply le x y = flag (not (int_lt y x))

-- whether an operator has a value at a second operand: division and remainder have none at 0
abbrev pub defined : Operator → ℤ → Bool
defined add y = true
defined sub y = true
defined mul y = true
defined div y = not (is_zero y)
defined rem y = not (is_zero y)
defined eq y = true
defined ne y = true
defined lt y = true
defined ge y = true
defined gt y = true
defined le y = true
