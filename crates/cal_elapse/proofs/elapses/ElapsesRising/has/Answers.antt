use Rattle.std.proofs.Common.{◌≡◌, ◌↔◌, ◌∙◌, ◌<ℤ◌, ℤ, ap, arith, subst, true, int_eq}
use Rattle.std.proofs.lemmas.Bool.{false≢true}
use Rattle.cal_civil.proofs.LocalLemmas.{local_arith}
use Rattle.std.specs.Set.{is_member}
use Rattle.cal_elapse.specs.rules.Elapses.{IsPlace}
use Rattle.cal_elapse.specs.computed.RemainingElapses.{remaining_elapses}
use Rattle.cal_elapse.specs.computed.Window.{timed_of}
use Rattle.cal_elapse.specs.declared.window.Window.{Window}
use Rattle.cal_elapse.proofs.ElapseSetLemmas.{in_rest, not_above, not_instant}
use Rattle.cal_elapse.proofs.elapses.ElapsesRising.has.Goals as goal

pub returns-in-Some-clause-has : goal.returns-in-Some-clause-has
returns-in-Some-clause-has c =
    let w = c.self.inside.window in
    let number = c.args.number in
    let above : w.last <ℤ number = omega (arith, local_arith) in
    let at : c.in-Some.instant.secs ≡ number = omega (arith, local_arith, c.in-Some.ensures.value) in
    in_rest w number c.has_elapse.result above (subst (λ (i : ℤ). (c.has_elapse.result ≡ true) ↔ IsPlace (timed_of w) i) at c.has_elapse.ensures.has)
    ∙ ap (λ (v : Window). is_member int_eq (remaining_elapses v) number) c.self.view_is

pub returns-in_default-clause-has : goal.returns-in_default-clause-has
returns-in_default-clause-has c = grind (arith, local_arith, not_above, int_eq)

pub returns-in_default-2-clause-has : goal.returns-in_default-2-clause-has
returns-in_default-2-clause-has c = grind (arith, local_arith, not_instant, false≢true, int_eq)
