use Rattle.std.proofs.Common.{◌≡◌, ◌∙◌, ◌++◌, ◌+ℤ◌, ◌-ℤ◌, ◌≤ℤ◌, ◌<ℤ◌, ℤ, unsigned_abs, length, codes, pos, of_z, to_z, sym, ap, arith, w64}
use Rattle.cal_civil.proofs.LocalLemmas.{local_arith}
use Rattle.jiff.specs.Words.{nanos_of_seconds, offset_at}
use Rattle.cal_zone.specs.rules.CivilAt.{at_second}
use Rattle.cal_zone.specs.computed.FormattedDay.{day_text}
use Rattle.cal_zone.specs.rules.InstantText.{zone_word}
use Rattle.cal_zone.specs.rules.Zone.{is_utc, zone_of}
use Rattle.cal_zone.proofs.FormattedDayLemmas.{day_goes_on, seconds_shown, text_on_day}
use Rattle.cal_zone.proofs.formatted_day.FormattedDay.of.Goals as goal
use Rattle.cal_bytes.proofs.General.{min_from}
use Rattle.std.specs.Int.{int_max}

-- an upper bound of two numbers is an upper bound of their maximum
max_to : (a b high : ℤ) → a ≤ℤ high → b ≤ℤ high → int_max a b ≤ℤ high
max_to a b high p q = grind arith

pub overflow_sub-midnight : goal.overflow_sub-midnight
overflow_sub-midnight c =
    let years = c.args.instant.in_range in
    omega (arith, local_arith, c.secs.ensures.value, c.since_midnight.ensures, c.civil_at-shown.ensures.ranges.hour, c.civil_at-shown.ensures.ranges.minute, c.civil_at-shown.ensures.ranges.second)

pub overflow_add-midnight : goal.overflow_add-midnight
overflow_add-midnight c =
    grind (arith, local_arith, c.args.instant.in_range, c.secs.ensures.value, c.since_midnight.ensures, c.civil_at-shown.ensures.ranges.hour, c.civil_at-shown.ensures.ranges.minute, c.civil_at-shown.ensures.ranges.second)

-- `second` minus `time_of_day`, as the code computes it with 64-bit numbers; if `time_of_day` is the number of seconds
-- since midnight, this is the midnight at which the day of `second` began
abbrev midnight_of : ℤ → ℤ → ℤ
midnight_of second time_of_day = to_z w64 (of_z w64 (to_z w64 (of_z w64 second) -ℤ to_z w64 (of_z w64 time_of_day)))

-- the computed midnight is the instant minus the number of seconds since midnight that the clock shows
midnight : (c : goal.After-min) → midnight_of c.secs.result c.since_midnight.result ≡ c.args.instant.secs -ℤ pos (seconds_shown c.civil_at-shown.result)
midnight c =
    grind (arith, local_arith, c.args.instant.in_range, c.secs.ensures.value, c.since_midnight.ensures, c.civil_at-shown.ensures.ranges.hour, c.civil_at-shown.ensures.ranges.minute, c.civil_at-shown.ensures.ranges.second)

abbrev next_midnight_of : ℤ → ℤ → ℤ
next_midnight_of second since = to_z w64 (of_z w64 (midnight_of second since +ℤ pos 86_400))

next_midnight : (c : goal.After-min) → next_midnight_of c.secs.result c.since_midnight.result ≡ c.args.instant.secs -ℤ pos (seconds_shown c.civil_at-shown.result) +ℤ pos 86_400
next_midnight c =
    let years = c.args.instant.in_range in
    let start = midnight c in
    omega (arith, local_arith, c.civil_at-shown.ensures.ranges.hour, c.civil_at-shown.ensures.ranges.minute, c.civil_at-shown.ensures.ranges.second)

-- an instant at or after the start of the returned day is at or after the start of `range` and at or after midnight
at_midnight : (c : goal.After-min) (second : ℤ) → to_z w64 (of_z w64 c.max.result) ≤ℤ second
    → (c.args.range.from ≤ℤ second) × (midnight_of c.secs.result c.since_midnight.result ≤ℤ second)
at_midnight c second from = grind (arith, local_arith, c.max.ensures.self_bound, c.max.ensures.other_bound)

-- an instant before the end of the returned day is before the end of `range` and before the next midnight
at_next_midnight : (c : goal.After-min) (second : ℤ) → second <ℤ to_z w64 (of_z w64 c.min.result)
    → (second <ℤ c.args.range.to) × (second <ℤ (midnight_of c.secs.result c.since_midnight.result +ℤ pos 86_400))
at_next_midnight c second before =
    let start = midnight c in
    let next = next_midnight c in
    (omega (arith, local_arith, c.min.ensures.self_bound), omega (arith, local_arith, c.min.ensures.other_bound))

day : (c : goal.After-min) → c.push_day.new.text.items ≡ day_text c.civil_at-shown.result
day c = c.push_day.ensures.text ∙ ap (λ front. front ++ day_text c.civil_at-shown.result) c.new-day.ensures

space : (c : goal.After-min) → c.push.new.text.items ≡ codes " "
space c = c.push.ensures ∙ ap (λ front. front ++ codes " ") c.new-word.ensures

word : (c : goal.After-min) → c.push_zone.new.text.items ≡ codes " " ++ zone_word (is_utc c.args.zone) c.civil_at-shown.result.offset
word c = grind (arith, local_arith, c.civil_at-shown.ensures.ranges.offset, c.push_zone.ensures.text, space, c.is_utc.ensures)

pub returns-clause-day : goal.returns-clause-day
returns-clause-day c =
    let zone = c.args.zone in
    let tz = zone_of zone in
    let instant : ℤ = c.args.instant.secs in
    let constant = c.requires.constant_offset in
    let here : offset_at tz (nanos_of_seconds instant) ≡ c.args.range.offset.seconds = constant instant c.requires.begun c.requires.within in
    let shown = c.civil_at-shown.ensures.value tz here in
    let start = midnight c in
    let next = next_midnight c in
    record {
      each = λ second from before.
          let after = at_midnight c second from in
          let ahead = at_next_midnight c second before in
          let since = unsigned_abs (second -ℤ midnight_of c.secs.result c.since_midnight.result) in
          let on = day_goes_on tz instant second (midnight_of c.secs.result c.since_midnight.result) (constant second after.0 ahead.0 ∙ sym here) (start ∙ ap (λ c. instant -ℤ pos (seconds_shown c)) shown) after.1 ahead.1 in
          record {
            since_midnight = (omega (arith, local_arith), omega (arith, local_arith));
            text = rw (day c, word c) (text_on_day zone second c.civil_at-shown.result since (on ∙ ap (λ c. at_second c since) (sym shown)));
          };
      short = record {
        date = omega (arith, c.push_day.ensures.short, ap length c.new-day.ensures);
        word = omega (arith, c.push_zone.ensures.short, ap length (space c));
      };
    }

pub returns-clause-begun : goal.returns-clause-begun
returns-clause-begun c = grind (arith, local_arith, midnight, max_to, c.max.ensures.value)

pub returns-clause-within : goal.returns-clause-within
returns-clause-within c =
    let next = next_midnight c in
    let within = c.requires.within in
    let after : (c.args.instant.secs +ℤ pos 1) ≤ℤ c.min.result = rw c.min.ensures.value (min_from (to_z w64 (of_z w64 c.args.range.to)) (next_midnight_of c.secs.result c.since_midnight.result) (c.args.instant.secs +ℤ pos 1) (omega (arith, local_arith)) (omega (arith, local_arith))) in
    omega (arith, local_arith)
