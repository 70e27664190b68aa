use Rattle.std.proofs.Common.{◌≡◌, ◌∙◌, Some, true, false, ap, codes, rules, string_bytes, sym}
use Rattle.std.specs.Prelude.{option_map}
use Rattle.cal_answers.specs.rules.MachinePath.{variable_on}
use Rattle.cal_answers.specs.rules.Trigger.{is_timer_name}
use Rattle.cal_answers.proofs.TriggerLemmas.{by_other, by_timer}
use Rattle.cal_answers.proofs.trigger.trigger.Goals as goal

pub returns-then-is_timer_name-clause-known : goal.returns-then-is_timer_name-clause-known
returns-then-is_timer_name-clause-known g c = λ machine shows.
    let value : variable_on machine (codes "TRIGGER_UNIT") ≡ Some (string_bytes c.in-Some.name) =
    c.in_ok-name.ensures.known machine shows ∙ ap (option_map string_bytes) c.in-Some.is in
    let timer : is_timer_name (string_bytes c.in-Some.name) ≡ true = search rules in
    sym (by_timer (variable_on machine (codes "TRIGGER_UNIT")) (string_bytes c.in-Some.name) value timer)

pub returns-else-is_timer_name-clause-known : goal.returns-else-is_timer_name-clause-known
returns-else-is_timer_name-clause-known g c = λ machine shows.
    let value : variable_on machine (codes "TRIGGER_UNIT") ≡ Some (string_bytes c.in-Some.name) =
    c.in_ok-name.ensures.known machine shows ∙ ap (option_map string_bytes) c.in-Some.is in
    let other : is_timer_name (string_bytes c.in-Some.name) ≡ false = search rules in
    sym (by_other (variable_on machine (codes "TRIGGER_UNIT")) (string_bytes c.in-Some.name) value other)
