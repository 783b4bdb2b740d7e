-- The greatest numbers that a run is allowed.
use Rattle.std.specs.Prelude.{ℕ}

-- words of code
abbrev pub code_limit : ℕ
code_limit = 2048

-- turns of a run
abbrev pub turns_limit : ℕ
turns_limit = 1000000

-- how deep calls may nest
abbrev pub depth_limit : ℕ
depth_limit = 32

-- words of the stack of loose code
abbrev pub stack_limit : ℕ
stack_limit = 65535
