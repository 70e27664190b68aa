use Rattle.std.proofs.Common.{◌∙◌, ap, drop, slice_get, List, ℤ}
use Rattle.cal_elapse.specs.computed.RemainingElapses.{remaining_elapses}
use Rattle.cal_elapse.proofs.ReadyLemmas.{remaining_elapses-same}
use Rattle.cal_elapse.proofs.elapses.ElapsesRising.next.Goals as goal

pub returns-clause-given : goal.returns-clause-given
unfolding remaining_elapses
returns-clause-given c =
    search (c.take.ensures.given ∙ ap (λ (xs : List ℤ). slice_get xs 0) (remaining_elapses-same c.fill.new.self c.self.inside.window c.fill.ensures.timed c.fill.ensures.last ∙ ap remaining_elapses c.self.view_is))

pub returns-clause-left : goal.returns-clause-left
unfolding remaining_elapses
returns-clause-left c =
    c.take.ensures.left ∙ ap (drop 1) (remaining_elapses-same c.fill.new.self c.self.inside.window c.fill.ensures.timed c.fill.ensures.last ∙ ap remaining_elapses c.self.view_is)
