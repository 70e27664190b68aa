use Rattle.std.proofs.Common.{◌∙◌, All, ap, map, string_bytes, subst}
use Rattle.cal_load.specs.rules.Expressions.{IsMadeOf}
use Rattle.cal_answers.proofs.CrontabTimerLemmas.{last_passes}
use Rattle.cal_answers.proofs.crontab_timers.timer_of_entry.Goals as goal

pub returns-clause-made : goal.returns-clause-made
returns-clause-made g c = λ machine shows.
    let given = map (λ text. text.now) c.as_slice-2.result.now in
    let same = ap (map (λ text. text.now)) c.as_slice-2.ensures.value ∙ c.in_ok-expressions.ensures ∙ ap (map string_bytes) c.as_slice.ensures.value in
    let all = subst (λ timers. All (IsMadeOf machine given) timers) c.in-Some.ensures.items (c.in_ok-loaded.ensures.known machine shows) in
    (c.in_ok-name.ensures, c.in_ok-notes.ensures, subst (λ texts. IsMadeOf machine texts c.in-Some.timer) same (last_passes (IsMadeOf machine given) _ c.in-Some.timer all))
