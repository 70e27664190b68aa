use Rattle.std.proofs.Common.{◌≡◌, ◌+◌, ◌*◌, ◌/◌, ◌%◌, arith, of_z, pos, subst, to_z, Some, unsigned_abs, w64, ℕ}
use Rattle.cal_civil.proofs.LocalLemmas.{local_arith, local_inside}
use Rattle.cal_elapse.specs.computed.Masks.{sets_in}
use Rattle.cal_elapse.specs.rules.Search.{IsFirstPassing}
use Rattle.cal_spec.specs.rules.Match.{time_in}
use Rattle.cal_elapse.proofs.MinuteLemmas.{search_on}
use Rattle.cal_elapse.proofs.SearchLemmas.{later_today}
use Rattle.cal_elapse.proofs.search.next_after.Goals as goal

pub returns-in-Some : goal.returns-in-Some
returns-in-Some c =
    let s = sets_in c.args.masks.now in
    let t : ℕ = unsigned_abs c.args.local in
    let day : c.day_of.result ≡ t / 86_400 = grind (arith, local_arith) in
    let from : c.second_of_day.result ≡ t % 86_400 = grind (arith, local_arith) in
    let second = subst (λ (r : ℕ). IsFirstPassing (time_in s) (r + 1) 86_400 (Some c.in-Some.second)) from c.in-Some.ensures in
    let small = second.1 in
    let place : to_z w64 (of_z w64 c.local_on.result) ≡ pos (t / 86_400 * 86_400 + c.in-Some.second) = grind (arith, local_arith) in
    rw place (search_on s t _ (omega arith) (later_today s t c.in-Some.second (local_inside c.args.local c.requires.inside) c.requires.is_match second))
