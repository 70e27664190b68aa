use Rattle.std.proofs.Common.{rules, subst, IsPermutation}
use Rattle.std.proofs.lemmas.List.Sorted.{answers_always}
use Rattle.std.specs.List.Sorted.{IsStableByKey}
use Rattle.std.specs.Ordering.{int_cmp}
use Rattle.cal_answers.specs.rules.Output.{elapse_second}
use Rattle.cal_answers.proofs.between.merged_rows.Goals as goal

pub returns : goal.returns
returns c =
    let sorts = c.in_ok-sort_by_key.ensures in
    let joined = c.in_ok-append.ensures.items in
    let computes = answers_always _ _ _ (λ f a r g called. search rules) in (
      subst (λ rows. IsPermutation rows c.sort_by_key.new.self.items) joined sorts.permutation,
      sorts.sorted elapse_second computes,
      subst (λ rows. IsStableByKey elapse_second int_cmp rows c.sort_by_key.new.self.items) joined (sorts.stable elapse_second computes),
    )
