use Rattle.std.proofs.Common.{pos, arith}
use Rattle.cal_tasks.specs.declared.clock_note.ClockNote.{ClockNote}
use Rattle.cal_tasks.specs.declared.clock_note.ClockChange.TheVariants.{Skipped}
use Rattle.cal_civil.proofs.LocalLemmas.{local_arith}
use Rattle.cal_tasks.proofs.KeptLemmas.{first_latest, last_latest, next_latest, still_latest}
use Rattle.cal_tasks.proofs.kept_notes.latest_of.Goals as goal
use Rattle.cal_tasks.proofs.kept_notes.latest_of.Goals.{then-last-note, else-last-note}

pub loop-index-init : goal.loop-index-init
loop-index-init c = first_latest c.args.notes.now c.requires

pub loop-index-preserved : goal.loop-index-preserved
loop-index-preserved c =
    let none : ClockNote = record { local = pos 0; change = Skipped; zone = 0 } in
    elim c.if-last-note.branch [
      | then-last-note w ↦ rw w.latest-is (next_latest c.args.notes.now c.loop-index.index c.loop-index.latest none c.loop-index-test.true (grind (arith, local_arith)) c.loop-index.invariant)
      | else-last-note w ↦ rw w.latest-is (still_latest c.args.notes.now c.loop-index.index c.loop-index.latest none c.loop-index-test.true (grind (arith, local_arith)) c.loop-index.invariant)
    ]

pub returns : goal.returns
returns c = last_latest c.args.notes.now c.loop-index.index c.loop-index.latest c.loop-index-test.false c.loop-index.invariant
