use Rattle.std.proofs.Common.{◌≡◌, ◌∙◌, ◌-◌, ℕ, Bor, List, ap, refl}
use Rattle.std.proofs.lemmas.Iterator.Consumers.{nth_from_yields_List}
use Rattle.std.proofs.lemmas.Iterator.Splits.{YieldsList-from_lines}
use Rattle.std.specs.Option.{option_map}
use Rattle.std.specs.Prelude.{slice_get}
use Rattle.std.specs.Str.Lines.{lines}
use Rattle.cal_timer.specs.rules.TimerText.{without_mark}
use Rattle.cal_timers_text.specs.rules.LintText.{physical_line}
use Rattle.cal_timers_text.proofs.LintLemmas.{line_or_empty}
use Rattle.cal_timers_text.proofs.finding_lines.physical_line.Goals as goal

pub returns : goal.returns
unfolding physical_line
returns c =
    let all = lines (without_mark c.args.text.now) in
    let found = nth_from_yields_List c.nth.result c.nth.new.self c.saturating_sub.result c.nth.ensures.ran (YieldsList-from_lines c.without_mark.result.now c.lines.ensures.rest) in
    let at : option_map (λ (line : Bor (List ℕ)). line.now) c.nth.result ≡ slice_get all (c.args.number - 1) =
    found ∙ ap (λ text. slice_get (lines text) c.saturating_sub.result) c.without_mark.ensures.mark ∙ ap (λ index. slice_get all index) c.saturating_sub.ensures in
    ap (λ (line : Bor (List ℕ)). line.now) c.unwrap_or.ensures ∙ line_or_empty all (c.args.number - 1) c.nth.result _ refl at
