use Rattle.std.proofs.Common.{◌≡◌, ◌∙◌, List, ap, pos, w64, ℕ}
use Rattle.std.proofs.lemmas.Int.{to_z-of_z}
use Rattle.cal_elapse.specs.computed.Bits.{is_bit_in}
use Rattle.cal_elapse.proofs.RingLemmas.{HasMore, near_there, put_answer, put_from, second_inside}
use Rattle.cal_elapse.proofs.pending.Pending.put.Goals as goal

pub invariant_of-self : goal.invariant_of-self
invariant_of-self c =
    let same = c.as_mut_slice.ensures.value ∙ c.deref_mut.ensures.value in
    let second : pos c.second_of-second.result ≡ c.args.instant = rw (to_z-of_z w64 c.args.instant c.ranges.instant) at c.second_of-second.ensures in
    let more : HasMore c.self.inside.cells.value c.set_cell.new.cells c.second_of-second.result
    = record { here = search (c.set_cell.ensures.set); others = λ cell other. c.set_cell.ensures.others cell other ∙ ap (λ (cells : List ℕ). is_bit_in cells cell) same } in
    rw c.min-self-inside.ensures
    (put_from c.self.inside.cells.value c.set_cell.new.cells c.self.inside.least c.second_of-second.result more c.self.invariant
    (near_there _ c.self.inside.least c.second_of-second.result c.args.instant c.args.self.now c.self.view_is second c.requires.near)
    (second_inside c.args.instant c.second_of-second.result c.requires.instant second) c.set_cell.ensures.whole)

pub returns : goal.returns
returns c =
    let same = c.as_mut_slice.ensures.value ∙ c.deref_mut.ensures.value in
    let second : pos c.second_of-second.result ≡ c.args.instant = rw (to_z-of_z w64 c.args.instant c.ranges.instant) at c.second_of-second.ensures in
    rw c.min-self-inside.ensures
    (search
    (put_answer c.self.inside.cells.value c.set_cell.new.cells c.self.inside.least c.second_of-second.result c.args.instant c.args.self.now
    (record { here = c.set_cell.ensures.set; others = λ cell other. c.set_cell.ensures.others cell other ∙ ap (λ (cells : List ℕ). is_bit_in cells cell) same })
    c.self.invariant c.self.view_is second (second_inside c.args.instant c.second_of-second.result c.requires.instant second) c.requires.near))
