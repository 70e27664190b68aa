use Rattle.std.proofs.Common.{arith, rules, w64}
use Rattle.std.proofs.lemmas.Int.{to_z-of_z}
use Rattle.cal_tasks.proofs.KeptLemmas.{replaced}
use Rattle.cal_tasks.proofs.kept_notes.keep.Goals as goal

pub returns : goal.returns
returns c =
    replaced c.args.notes.now.items c.args.note c.latest_of-latest.result (omega (arith, c.len.ensures))
    (λ enough. let test = c.are_enough.ensures.1 (rw (c.deref.ensures.value, to_z-of_z w64 c.args.note.local (search rules)) enough) in absurd cc) (rw c.deref-2.ensures.value at c.latest_of-latest.ensures)
