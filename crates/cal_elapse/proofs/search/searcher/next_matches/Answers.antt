use Rattle.std.proofs.Common.{◌≡◌, ◌+◌, ◌*◌, ◌/◌, ◌+ℤ◌, ◌*ℤ◌, arith, of_z, pos, to_z, unsigned_abs, w64}
use Rattle.std.proofs.lemmas.Int.{to_z-of_z}
use Rattle.cal_civil.proofs.LocalLemmas.{local_arith, local_inside-pos}
use Rattle.cal_spec.specs.rules.Match.{matches}
use Rattle.cal_elapse.specs.computed.Masks.{sets_in}
use Rattle.cal_elapse.specs.computed.RemainingMatches.{AreNext, AreRemaining}
use Rattle.cal_elapse.proofs.HourLemmas.{are_next, in_hour, in_minute}
use Rattle.cal_elapse.proofs.MinuteLemmas.{match_inside}
use Rattle.cal_elapse.proofs.search.searcher.next_matches.Goals.{After-from, After-local_in}
use Rattle.cal_elapse.proofs.search.searcher.next_matches.Goals as goal

-- `AreNext` holds for the later matches in the minute of `local`
here : (c : After-from) → AreNext (matches (sets_in c.args.masks.now)) (unsigned_abs c.args.local) (unsigned_abs c.args.local + 1) 1 c.rest_of_minute-seconds.result
    (unsigned_abs c.args.local + 1 + c.highest_bit.result)
here c =
    are_next _ _ _ _ _ _ _ _
    (in_minute _ (unsigned_abs c.args.local) _ _ (rw (to_z-of_z w64 _ c.ranges.local) at c.rest_of_minute-seconds.ensures) c.highest_bit.ensures.set c.highest_bit.ensures.top)

start_is : (c : After-from) → to_z w64 (of_z w64 (to_z w64 (of_z w64 c.args.local) +ℤ pos 1)) ≡ pos (unsigned_abs c.args.local + 1)
start_is c = let inside = c.requires.inside in grind (arith, local_arith)

-- the last match in the minute of `local` fits into a 64-bit integer
last_is : (c : After-from) → to_z w64 (of_z w64 (to_z w64 (of_z w64 (to_z w64 (of_z w64 c.args.local) +ℤ pos 1)) +ℤ to_z w64 (of_z w64 c.from.result)))
    ≡ pos (unsigned_abs c.args.local + 1 + c.highest_bit.result)
last_is c = let inside = c.requires.inside in grind (arith, local_arith)

pub invariant_of-result-clause-last_in : goal.invariant_of-result-clause-last_in
invariant_of-result-clause-last_in c =
    let at = (goal.at.invariant_of-result-clause-last_in c).After-from in
    rw (last_is at) (local_inside-pos _ (match_inside _ _ (here at).is_match))

pub returns-then-seconds-ne0 : goal.returns-then-seconds-ne0
returns-then-seconds-ne0 c = let at = (goal.at.returns-then-seconds-ne0 c).After-from in rw (last_is at, start_is at) (here at)

-- if no match is left in the minute of `local`, `AreNext` holds for the matches in the later minutes of its hour
there : (c : After-local_in) → AreNext (matches (sets_in c.args.masks.now)) (unsigned_abs c.args.local) ((unsigned_abs c.args.local / 60 + 1) * 60) c.rest_of_hour-minutes.result
    c.args.masks.now.seconds ((unsigned_abs c.args.local / 60 + 1 + c.highest_bit-2.result) * 60 + c.highest_bit-3.result)
there c =
    let local = to_z-of_z w64 c.args.local c.ranges.local in
    let none : AreRemaining (matches (sets_in c.args.masks.now)) (unsigned_abs c.args.local) 0 = rw (c.if-seconds-ne0.false, local) at c.rest_of_minute-seconds.ensures in
    are_next _ _ _ _ _ _ _ _
    (in_hour c.args.masks.now (unsigned_abs c.args.local) _ _ _ c.requires.is_match none (rw local at c.rest_of_hour-minutes.ensures) c.highest_bit-2.ensures.set c.highest_bit-2.ensures.top
    c.highest_bit-3.ensures.set c.highest_bit-3.ensures.top)

minute_is : (c : After-local_in) → c.minute_of-minute.result ≡ unsigned_abs c.args.local / 60
minute_is c = rw (to_z-of_z w64 _ c.ranges.local) at c.minute_of-minute.ensures

first_is : (c : After-local_in) → to_z w64 (of_z w64 (to_z w64 (of_z w64 c.from-2.result) *ℤ pos 60)) ≡ pos ((unsigned_abs c.args.local / 60 + 1) * 60)
first_is c = let minute = minute_is c in let inside = c.requires.inside in grind (arith, local_arith)

end_is : (c : After-local_in) → to_z w64 (of_z w64 c.local_in.result) ≡ pos ((unsigned_abs c.args.local / 60 + 1 + c.highest_bit-2.result) * 60 + c.highest_bit-3.result)
end_is c = let minute = minute_is c in grind (arith, local_arith)

pub invariant_of-result-2-clause-last_in : goal.invariant_of-result-2-clause-last_in
invariant_of-result-2-clause-last_in c =
    let at = (goal.at.invariant_of-result-2-clause-last_in c).After-local_in in
    rw (end_is at) (local_inside-pos _ (match_inside _ _ (there at).is_match))

pub returns : goal.returns
returns c = let at = (goal.at.returns c).After-local_in in rw (end_is at, first_is at) (there at)
