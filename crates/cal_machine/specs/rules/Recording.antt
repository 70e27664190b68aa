-- What a recorder has read of a machine.
use Rattle.cal_machine.specs.declared.system.System.{Ghosts}
use Rattle.cal_machine.specs.declared.recorder.Recorder.{Recorder}
use Rattle.cal_machine.specs.rules.Machine.{Machine}
use Rattle.cal_machine.specs.rules.Recorded.{AgreesWith, seen_of}
use Rattle.cal_machine.specs.rules.RecordedLemmas.{agrees, given}
use Rattle.cal_machine.specs.rules.Seen.{AllGiven, Matches, Seen}

abbrev pub read_by : {S : Type 0} {system : Ghosts S} → Recorder S system → Seen
read_by tree = seen_of tree.entries tree.names tree.files tree.variables

-- each answer that a recorder has read is one that a call gave
pub read_by-given : {S : Type 0} {system : Ghosts S} (tree : Recorder S system) → AllGiven system.gives (read_by tree)
read_by-given {S} {system} tree = given system.gives tree.entries tree.names tree.files tree.variables tree.honest

-- a machine that agrees with what a recorder has read agrees with all its recorded answers, which is what the
-- recorder's `shows` says
pub read_by-shows : {S : Type 0} {system : Ghosts S} (tree : Recorder S system) (machine : Machine) → Matches (read_by tree) machine
    → AgreesWith tree.entries tree.names tree.files tree.variables machine
read_by-shows tree machine same = agrees tree.entries tree.names tree.files tree.variables machine same
