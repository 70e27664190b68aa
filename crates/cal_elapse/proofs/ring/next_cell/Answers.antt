use Rattle.std.proofs.Common.{◌≡◌, ◌∙◌, ◌+◌, ◌/◌, arith, ap, drop, sym, Some}
use Rattle.std.specs.List.{position}
use Rattle.std.proofs.lemmas.List.{get_or-drop, length-drop}
use Rattle.cal_elapse.specs.computed.Bits.{is_set}
use Rattle.cal_elapse.proofs.CellLemmas.{found_here, found_later, no_word_set, position-first}
use Rattle.cal_elapse.proofs.ring.next_cell.Goals as goal

pub returns-in-Some : goal.returns-in-Some
returns-in-Some c = found_here c.args.cells.now c.args.from c.in-Some.bit c.cell_at.result c.requires.inside c.in-Some.ensures c.cell_at.ensures

pub returns-in_default-first_set : goal.returns-in_default-first_set
returns-in_default-first_set c = grind (arith, drop, length-drop, no_word_set)

pub lowest_bit-requires : goal.lowest_bit-requires
lowest_bit-requires c = grind (arith, drop, position-first, get_or-drop)

pub returns : goal.returns
returns c =
    let n = c.args.from / 64 + 1 in
    let some : position is_set (drop n c.args.cells.now) ≡ Some c.in-Some-first_set.later = ap (position is_set) (sym c.split_at.ensures.back) ∙ (sym c.first_set.ensures ∙ c.in-Some-first_set.is) in
    let first = position-first (drop n c.args.cells.now) c.in-Some-first_set.later some in
    let long = c.requires.whole in
    let after = length-drop n c.args.cells.now in
    let inside = first.inside in
    found_later c.args.cells.now c.args.from c.in-Some-first_set.later c.lowest_bit.result c.cell_at-2.result long c.requires.inside c.in_default.ensures first
    (omega (arith, after, long, inside)) c.lowest_bit.ensures c.cell_at-2.ensures
