use Rattle.std.proofs.Common.{◌≡◌, ◌∙◌, ◌+◌, ◌++◌, ◌∷◌, [], ap, append-nil, arith, map, refl, string_bytes, sym, take}
use Rattle.std.proofs.lemmas.List.{take_all, take_more}
use Rattle.cal_bytes.proofs.General.{flat_more_by}
use Rattle.cal_cron.specs.computed.CrontabViews.{line_shown}
use Rattle.cal_crontabs.specs.rules.Crontabs.{shown_crontab}
use Rattle.cal_crontabs.specs.rules.Entries.{entries_below, entries_in, entry_seen}
use Rattle.cal_crontabs.specs.rules.ErrorLines.{error_lines_at, error_lines_in}
use Rattle.cal_crontabs.proofs.EntryLemmas.{entry_added, zone_added, zone_below}
use Rattle.cal_crontabs.proofs.entries.CronReport.add_lines.Goals as goal

pub loop-line-init : goal.loop-line-init
unfolding entries_below zone_below
loop-line-init c = (sym (append-nil _), sym (append-nil _), refl)

pub loop-line-preserved : goal.loop-line-preserved
loop-line-preserved c =
    let crontab = shown_crontab c.args.crontab.now in
    let lines = c.args.lines.now in
    let i = c.loop-line.line-index in
    let line = c.line-item.result in
    let same : take i lines ++ line ∷ [] ≡ take (i + 1) lines = ap (λ one. take i lines ++ one ∷ []) c.line-item.is ∙ sym (take_more lines i line c.loop-line-test.true) in (
      entry_added crontab line_shown (take i lines) line (take (i + 1) lines) _ _ _ _ same c.loop-line.invariant.0 c.loop-line.invariant.2 c.in_ok-add_line.ensures.entries,
      flat_more_by (error_lines_at crontab) line_shown lines i line _ _ _ c.loop-line-test.true c.line-item.is c.loop-line.invariant.1 c.in_ok-add_line.ensures.errors,
      zone_added line_shown (take i lines) line (take (i + 1) lines) _ _ same c.loop-line.invariant.2 c.zone_after-below.ensures,
    )

pub returns-clause-entries : goal.returns-clause-entries
returns-clause-entries c =
    let all : take c.loop-line.line-index c.args.lines.now ≡ c.args.lines.now = take_all c.loop-line.line-index c.args.lines.now (omega arith) in
    c.loop-line.invariant.0 ∙ ap (λ lines. map entry_seen c.args.self.now.entries.items ++ entries_in (shown_crontab c.args.crontab.now) (map line_shown lines)) all

pub returns-clause-errors : goal.returns-clause-errors
returns-clause-errors c =
    let all : take c.loop-line.line-index c.args.lines.now ≡ c.args.lines.now = take_all c.loop-line.line-index c.args.lines.now (omega arith) in
    c.loop-line.invariant.1 ∙ ap (λ lines. string_bytes c.args.self.now.errors ++ error_lines_in (shown_crontab c.args.crontab.now) (map line_shown lines)) all
