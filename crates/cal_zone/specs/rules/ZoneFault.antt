-- The messages of the errors in parsing the rules of a zone, and in adding a zone to a table. The wording is this
-- project's own.
use Rattle.std.specs.Prelude.{ℕ, List, [], codes}
use Rattle.cal_zone.specs.declared.zone_fault.ZoneFault.{ZoneFault}
use Rattle.cal_zone.specs.declared.zone_fault.ZoneFault.TheVariants.{BadName, BadRule, BadFile, TooLarge, NoMemory, NameTaken}

-- the message of an error; empty if memory ran out
abbrev pub message_of : ZoneFault → List ℕ
message_of BadName = codes "bad zone name"
message_of BadRule = codes "bad rule"
message_of BadFile = codes "bad zone file"
message_of TooLarge = codes "larger than 1048576 bytes"
message_of NoMemory = []
message_of NameTaken = codes "zone name taken"
