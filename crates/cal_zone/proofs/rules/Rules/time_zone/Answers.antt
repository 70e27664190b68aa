-- The zone of a zone file depends only on its table, and not on where in memory the table is.
use Rattle.std.proofs.Common.{sym, ap, ◌∙◌}
use Rattle.jiff.specs.Words.{offset_at, ambiguous_at, next_at}
use Rattle.cal_zone.specs.rules.Rules.{zone_of_rules}
use Rattle.cal_zone.proofs.rules.Rules.time_zone.Goals as goal

pub returns-in-File : goal.returns-in-File
unfolding offset_at ambiguous_at next_at
returns-in-File c =
    let same = ap zone_of_rules (sym c.in-File.is) ∙ c.self.view_is in
    record {
      at = λ n. ap (λ zone. offset_at zone n) c.tzif.ensures ∙ ap (λ zone. offset_at zone n) same;
      of = λ shown. ap (λ zone. ambiguous_at zone shown) c.tzif.ensures ∙ ap (λ zone. ambiguous_at zone shown) same;
      next = λ n. ap (λ zone. next_at zone n) c.tzif.ensures ∙ ap (λ zone. next_at zone n) same;
    }
