use Rattle.std.proofs.Common.{◌∙◌, rules, sym, w64}
use Rattle.std.proofs.lemmas.Int.{to_z-of_z}
use Rattle.cal_elapse.proofs.WindowLemmas.{taken_ready}
use Rattle.cal_elapse.proofs.window.Window.take.Goals as goal

pub returns-in-Some-clause-ready : goal.returns-in-Some-clause-ready
returns-in-Some-clause-ready c =
    taken_ready c.args.self.now c.in-Some.instant _ _ c.requires.ready (sym c.take_least-instant.ensures.least ∙ c.in-Some.is) (to_z-of_z w64 c.in-Some.instant (search rules)) c.take_least-instant.ensures.left
