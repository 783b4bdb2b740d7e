use Rattle.std.proofs.Common.{◌≡◌, ◌+◌, ◌≤◌, take}
use Rattle.draft.specs.Draft.{draft}
use Rattle.draft.specs.Drafted.{code_of, room_of, IsSameTable}
use Rattle.statements.specs.Learns.{Knows, KnowsEntries, IsAsBefore}
use Rattle.room.specs.Bound.{functions_room}
use Rattle.writer.specs.Program.{code_from}
use Rattle.writer.proofs.put_functions.Given as goal

abbrev pub invariant-loop-number : goal.invariant-loop-number
invariant-loop-number l = record {
  code : code_of l.draft ≡ draft (code_from l.script l.number);
  starts : Knows l.starts (code_from l.script l.number);
  entries : KnowsEntries l.entries (code_from l.script l.number);
  room : functions_room l.script.nodes.now (take l.number l.script.functions.now) ≤ room_of l.draft;
  taken : room_of l.initial.draft + functions_room l.script.nodes.now (take l.number l.script.functions.now) ≤ room_of l.draft + functions_room l.script.nodes.now l.script.functions.now;
  table : IsSameTable l.initial.draft l.draft;
  loops : IsAsBefore l.initial.loops l.loops;
}
