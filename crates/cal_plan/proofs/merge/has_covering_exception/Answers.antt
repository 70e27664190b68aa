use Rattle.std.proofs.Common.{◌≡◌, get_or, length}
use Rattle.std.proofs.lemmas.Slice.Zip.{zip_turn}
use Rattle.cal_elapse.specs.computed.Masks.{sets_in}
use Rattle.cal_timer.specs.rules.TimerView.{shown}
use Rattle.cal_plan.proofs.AddedLemmas.{covered_at}
use Rattle.cal_plan.proofs.merge.has_covering_exception.Goals as goal

pub returns-then-covers : goal.returns-then-covers
returns-then-covers c = λ holds.
    let t = zip_turn c.args.exceptions.now c.args.masks.now c.loop-exception.yielded _ _ c.next.new.self _ (cc) (cc) c.loop-exception.yielded_by _ c.in-Some.is c.next.ensures.steps in
    let line : c.in-Some.exception.now ≡ get_or c.args.exceptions.now (length c.loop-exception.yielded) c.in-Some.exception.now = let e = t.2 c.in-Some.exception.now in cc in
    let masks : c.in-Some.theirs.now ≡ get_or c.args.masks.now (length c.loop-exception.yielded) c.in-Some.theirs.now = let e = t.3 c.in-Some.theirs.now in cc in
    covered_at (shown c.args.line.now) c.args.exceptions.now c.args.masks.now (sets_in c.of-own.result) (length c.loop-exception.yielded) c.in-Some.exception.now c.in-Some.theirs.now
    c.requires t.0 t.1 line masks c.of-own.ensures (c.is_same_zone.ensures c.if-is_same_zone.true) (c.covers.ensures c.if-covers.true)
