-- The loop over the zone files keeps `GoesOn`: whatever the program finds in the files that remain, adding them to the
-- table so far gives the same table or stop as adding all files to the empty table.
use Rattle.std.proofs.Common.{drop, map}
use Rattle.cal_command.specs.rules.Ask.{shown_item}
use Rattle.cal_work.proofs.WorkLemmas.{GoesOn}
use Rattle.cal_work.proofs.arguments_to_bytes.read_zones.Given as goal

abbrev pub invariant-loop-item : goal.invariant-loop-item
invariant-loop-item g l = GoesOn g.S.Inputs.gives (map shown_item l.items) l.table (map shown_item (drop l.item-index l.items))
