use Rattle.std.proofs.Common.{◌≡◌, ◌∙◌, ap, sym, ℕ, List}
use Rattle.std.specs.Prelude.{Ok}
use Rattle.cal_cron.specs.computed.Translation.{exprs_in, exprs_of}
use Rattle.cal_cron.specs.rules.CronLine.{IsLine, Schedule}
use Rattle.cal_cron.specs.rules.CronMatch.{CronExprs, cron_matches, exprs_match}
use Rattle.cal_crontabs.proofs.FindingLemmas.{ever_from, never_from}
use Rattle.cal_crontabs.proofs.laws.unused_entries_are_found.Goals as goal

pub returns : goal.returns
returns c =
    let law = c.expressions_elapse_when_cron_runs.ensures in
    let is : (text : List ℕ) (exprs : CronExprs) (schedule : Schedule) → exprs_in text ≡ Ok exprs → IsLine text schedule → exprs ≡ exprs_of schedule =
    λ text exprs schedule read line. let other = law.some text schedule line in cc in
    let same : (text : List ℕ) (exprs : CronExprs) (schedule : Schedule) → exprs_in text ≡ Ok exprs → IsLine text schedule
    → (local : ℕ) → exprs_match exprs.first exprs.other local ≡ cron_matches schedule local =
    λ text exprs schedule read line local.
    ap (λ (e : CronExprs). exprs_match e.first e.other local) (is text exprs schedule read line) ∙ law.same text schedule local line in
    record {
      never = λ text exprs read never schedule line. never_from exprs schedule (same text exprs schedule read line) never;
      ever = λ text exprs read ever schedule line. ever_from exprs schedule (same text exprs schedule read line) ever;
    }
