-- What is true of everything that a call says about a machine is true of the answer that is recorded for this call.
use Rattle.std.proofs.Common.{Result, Ok, Err}
use Rattle.cal_machine.specs.declared.tree.Unreadable.{Unreadable}
use Rattle.cal_machine.specs.rules.Machine.{IfSaid}
use Rattle.cal_machine.specs.rules.Recorded.{answered}
use Rattle.cal_machine.specs.rules.Seen.{seen}

-- if `P` is true of what a call said (`IfSaid`), and its answer is `answer`, then `P` is true of what `view` shows of
-- this answer
pub said_of : {X Y : Type 0} (view : X → Y) (P : Result Y Unreadable → Type 0) (answer : Result X Unreadable)
    → IfSaid view (answered answer) P → P (seen view answer)
said_of view P (Ok found) given = given
said_of view P (Err why) given = given
