use Rattle.std.proofs.Common.{◌≡◌, ◌∙◌, List, ℤ, ap, slice_get, subst, sym}
use Rattle.cal_rising.specs.rules.Merge.{merged}
use Rattle.cal_rising.specs.rules.RisingList.{without}
use Rattle.cal_tasks.proofs.DifferenceLemmas.{instants_left, merge_of_two}
use Rattle.cal_plan.specs.rules.Instants.{AreInstants}
use Rattle.cal_tasks.proofs.difference.first_only.Goals as goal

pub new-requires : goal.new-requires
new-requires g c =
    let is = merge_of_two _ _ (g.met.S.Rising.rises c.into_inner.result) (g.met.S.Rising.rises c.into_inner-2.result) _ _ _
    c.new-merge.ensures c.in_default.ensures.added c.in_default-add_except.ensures.added in
    subst AreInstants (sym is) (instants_left _ _ (subst AreInstants (sym c.into_inner.ensures.rest) c.into_inner.ensures.instants))

pub returns : goal.returns
returns g c =
    let is = merge_of_two _ _ (g.met.S.Rising.rises c.into_inner.result) (g.met.S.Rising.rises c.into_inner-2.result) _ _ _
    c.new-merge.ensures c.in_default.ensures.added c.in_default-add_except.ensures.added in
    let left : merged c.add_except.new.self ≡ without c.args.one c.args.other
    = is ∙ (λ j. without (c.into_inner.ensures.rest j) (c.into_inner-2.ensures.rest j)) in
    c.next.ensures.given ∙ ap (λ (xs : List ℤ). slice_get xs 0) (c.new.ensures ∙ left)
