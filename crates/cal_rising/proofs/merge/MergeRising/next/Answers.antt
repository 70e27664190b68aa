use Rattle.std.proofs.Common.{rules, ◌∙◌, List, ℤ, ap, false, sym, true, w64, slice_get, drop}
use Rattle.std.proofs.lemmas.Int.{to_z-of_z}
use Rattle.cal_rising.specs.computed.Rises.{rises-union}
use Rattle.cal_rising.specs.rules.RisingList.{union, without}
use Rattle.cal_rising.proofs.WithoutLemmas.{without-first}
use Rattle.cal_rising.proofs.merge.MergeRising.next.Goals as goal
use Rattle.cal_bytes.proofs.General.{list-no_first}

pub returns-then-not-has_onward : goal.returns-then-not-has_onward
returns-then-not-has_onward g c =
    let number = to_z-of_z w64 c.in-Some.number (search rules) in
    let left = union c.has_onward.new.self in
    let turn = sym (without-first c.in-Some.number false _ _ left (sym c.next.ensures.given ∙ c.in-Some.is) (rises-union c.loop-number.self-inside.sources)
    (rw number at c.has_onward.ensures.left) (sym (rw number at c.has_onward.ensures.has) ∙ c.if-not-has_onward.true)) ∙ c.loop-number.invariant.same in
    record {
      given = rw number (ap (λ (xs : List ℤ). slice_get xs 0) turn);
      left = ap (λ (xs : List ℤ). without xs left) c.next.ensures.left ∙ ap (drop 1) turn;
      marked = c.loop-number.invariant.started;
    }

pub loop-number-preserved : goal.loop-number-preserved
loop-number-preserved g c =
    let number = to_z-of_z w64 c.in-Some.number (search rules) in
    let left = union c.has_onward.new.self in
    let turn = without-first c.in-Some.number true _ _ left (sym c.next.ensures.given ∙ c.in-Some.is) (rises-union c.loop-number.self-inside.sources)
    (rw number at c.has_onward.ensures.left) (sym (rw number at c.has_onward.ensures.has) ∙ c.if-not-has_onward.false) in
    record {
      started = c.loop-number.invariant.started;
      same = ap (λ (xs : List ℤ). without xs left) c.next.ensures.left ∙ sym turn ∙ c.loop-number.invariant.same;
    }

pub returns : goal.returns
unfolding without
returns g c =
    let exceptions = union c.loop-number.self-inside.exceptions in
    let none = list-no_first (union c.loop-number.self-inside.sources) (sym c.next.ensures.given ∙ c.in_default.is) in
    let same = sym (ap (λ (xs : List ℤ). without xs exceptions) none) ∙ c.loop-number.invariant.same in
    record {
      given = ap (λ (xs : List ℤ). slice_get xs 0) same;
      left = ap (λ (xs : List ℤ). without xs exceptions) (c.next.ensures.left ∙ ap (drop 1) none) ∙ ap (drop 1) same;
      marked = c.loop-number.invariant.started;
    }
