use Rattle.std.proofs.Common.{◌≡◌, ◌∙◌, Some, ap, codes, string_bytes, sym}
use Rattle.std.specs.Prelude.{option_map}
use Rattle.std.specs.Option.{option_and_then}
use Rattle.cal_answers.specs.rules.MachinePath.{variable_on}
use Rattle.cal_answers.specs.rules.Seconds.{number_in}
use Rattle.cal_answers.specs.rules.Trigger.{second_of_micros}
use Rattle.cal_answers.proofs.trigger.elapsed_second.Goals as goal

pub returns-clause-known : goal.returns-clause-known
returns-clause-known g c = λ machine shows.
    let value : variable_on machine (codes "TRIGGER_TIMER_REALTIME_USEC") ≡ Some (string_bytes c.in-Some.value) =
    c.in_ok-value.ensures.known machine shows ∙ ap (option_map string_bytes) c.in-Some.is in
    c.second_of_micros.ensures
    ∙ ap (λ text. option_and_then second_of_micros (number_in text)) c.as_bytes.ensures.value
    ∙ sym (ap (λ found. option_and_then second_of_micros (option_and_then number_in found)) value)
