use Rattle.std.proofs.Common.{arith, refl, sym, unsigned_abs, w64}
use Rattle.std.proofs.lemmas.Int.{ints, to_z-of_z}
use Rattle.cal_civil.specs.rules.LocalSecond.{seconds_in_all-is}
use Rattle.cal_bytes.proofs.General.{pos_unsigned_abs, sum_whole}
use Rattle.cal_elapse.proofs.HourLemmas.{search_next}
use Rattle.cal_elapse.proofs.search.searcher.Searcher.find_after.Goals as goal

pub returns : goal.returns
returns c =
    let next = c.in-Some.next in
    let search = search_next c.args.self.now.masks (unsigned_abs c.args.local) _ _ _ _ _ _ (rw (to_z-of_z w64 _ c.ranges.local) at c.in-Some.ensures) c.lowest_bit.ensures c.lowest_bit-2.ensures in
    let inside = search.first.1 in
    let count = seconds_in_all-is in
    rw (sum_whole next.start c.from.result (unsigned_abs next.start) _ (sym (pos_unsigned_abs next.start _ next.start_low refl)) c.from.ensures (omega (arith, ints))) search
