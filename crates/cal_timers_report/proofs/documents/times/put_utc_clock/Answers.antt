use Rattle.std.proofs.Common.{◌≡◌, ◌∙◌, ◌++◌, None, Some, ap, sym, codes}
use Rattle.std.proofs.lemmas.Bool.Decides.{Decides-eqb}
use Rattle.std.proofs.lemmas.List.{append_cancel_right}
use Rattle.std.proofs.lemmas.Result.{on_ok_weaker}
use Rattle.std.proofs.lemmas.Slice.Eq.{strip_suffix_is}
use Rattle.json.specs.Json.{string}
use Rattle.json.specs.Tree.{json_tokens}
use Rattle.cal_zone.specs.rules.InstantText.{instant_text}
use Rattle.cal_timers_report.specs.rules.JsonTimes.{utc_clock_text}
use Rattle.cal_timers_report.proofs.LocalTimeLemmas.{utc_text}
use Rattle.cal_timers_report.proofs.documents.times.put_utc_clock.Goals as goal

-- a printed instant in UTC ends in ` UTC`
pub unreachable-requires : goal.unreachable-requires
unreachable-requires c =
    let printed : c.as_slice.result.now ≡ utc_clock_text c.args.instant.secs ++ codes " UTC" =
    c.as_slice.ensures.value ∙ c.push_instant.ensures.text
    ∙ ap (λ items. items ++ instant_text c.utc.result c.args.instant.secs) c.new-text.ensures
    ∙ ap (λ zone. instant_text zone c.args.instant.secs) c.utc.ensures
    ∙ utc_text c.args.instant.secs in
    strip_suffix_is Decides-eqb c.as_slice.result.now (codes " UTC") None c.in_default.ensures.cases (utc_clock_text c.args.instant.secs) printed

-- what comes before ` UTC` is written
pub returns : goal.returns
returns c =
    let printed : c.as_slice.result.now ≡ utc_clock_text c.args.instant.secs ++ codes " UTC" =
    c.as_slice.ensures.value ∙ c.push_instant.ensures.text
    ∙ ap (λ items. items ++ instant_text c.utc.result c.args.instant.secs) c.new-text.ensures
    ∙ ap (λ zone. instant_text zone c.args.instant.secs) c.utc.ensures
    ∙ utc_text c.args.instant.secs in
    let split : c.as_slice.result.now ≡ c.in-Some.shown.now ++ codes " UTC" =
    strip_suffix_is Decides-eqb c.as_slice.result.now (codes " UTC") (Some c.in-Some.shown) c.in-Some.ensures.cases in
    let shown : c.in-Some.shown.now ≡ utc_clock_text c.args.instant.secs =
    append_cancel_right c.in-Some.shown.now (utc_clock_text c.args.instant.secs) (codes " UTC") (sym split ∙ printed) in
    on_ok_weaker c.token.result (λ h. h ∙ ap (λ text. c.args.out.now ++ json_tokens (string text)) (c.in_ok-ascii.ensures ∙ shown)) c.token.ensures.ok
