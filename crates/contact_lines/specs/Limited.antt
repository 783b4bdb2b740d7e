-- What is known of a line that was read: its sizes are within the limit, and whether it needs a station.
use Rattle.std.specs.Prelude.{ℕ, ◌≤◌}
use Rattle.contact_lines.specs.declared.lines.Execution.{Execution}
use Rattle.contact_lines.specs.declared.lines.PacketPass.{PacketPass}
use Rattle.contact_lines.specs.declared.lines.Line.{Line}
use Rattle.contact_lines.specs.declared.lines.Line.TheVariants.{Comment, Blank, Code, Words, Execute, Function, Global, Node, Load, Pass, Packet, Clear}

-- the most that a STACK, a PAGE or an OUTPUT may be
abbrev pub size_limit : ℕ
size_limit = 1000000

abbrev pub Runnable : Execution → Type 0
Runnable e = (e.stack ≤ size_limit) × (e.page ≤ size_limit)

abbrev pub Packable : PacketPass → Type 0
Packable p = (p.stack ≤ size_limit) × (p.output ≤ size_limit)

abbrev pub Limited : Line → Type 0
Limited (Execute e) = Runnable e
Limited (Pass e) = Runnable e
Limited (Packet p) = Packable p
Limited Comment = Unit {0}
Limited Blank = Unit {0}
Limited (Code words) = Unit {0}
Limited (Words words) = Unit {0}
Limited (Function f) = Unit {0}
Limited (Global n) = Unit {0}
Limited (Node n) = Unit {0}
Limited Load = Unit {0}
Limited Clear = Unit {0}

-- it asks for no call of a station
abbrev pub IsStationless : Line → Type 0
IsStationless (Pass e) = ⊥
IsStationless (Packet p) = ⊥
IsStationless Clear = ⊥
IsStationless Comment = Unit {0}
IsStationless Blank = Unit {0}
IsStationless (Code words) = Unit {0}
IsStationless (Words words) = Unit {0}
IsStationless (Execute e) = Unit {0}
IsStationless (Function f) = Unit {0}
IsStationless (Global n) = Unit {0}
IsStationless (Node n) = Unit {0}
IsStationless Load = Unit {0}
