use Rattle.script.proofs.AcceptLaws.{accepted}
use Rattle.script.proofs.SoundLaws.{sound}
use Rattle.script.proofs.accepted_tables_are_sound.Goals as goal

pub returns : goal.returns
returns c = record { sound = sound; accepted = accepted }
