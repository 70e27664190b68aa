use Rattle.std.proofs.Common.{◌≡◌, ◌∙◌, refl, sym, ap, arith}
use Rattle.jiff.specs.Types.{Fixed, TimeZone}
use Rattle.jiff.specs.Words.{civil_nanos, nanos_of_seconds, offset_at}
use Rattle.jiff.proofs.SpanFacts.{signed_arith}
use Rattle.cal_zone.specs.rules.CivilAt.{civil_at_offset}
use Rattle.cal_zone.specs.rules.Zone.{local_shown_at}
use Rattle.cal_zone.proofs.CivilLemmas.{civil_at_offset-civil_of, IsCivil-civil_at_offset}
use Rattle.cal_zone.proofs.civil_time.civil_at.Goals as goal

-- if a zone has the given UTC offset at the instant, the zone's clock shows the civil time that `to_datetime` returns
shown : (c : goal.After-fields) (tz : TimeZone) → offset_at tz (nanos_of_seconds c.args.instant.secs) ≡ c.args.offset.seconds
    → civil_nanos c.to_datetime.result ≡ nanos_of_seconds (local_shown_at tz c.args.instant.secs)
unfolding local_shown_at
shown c tz here = omega (arith, signed_arith, c.to_datetime.ensures, ap (λ t. t.nanosecond) c.to_plain.ensures, c.in-Ok.ensures.value)

-- there is a zone to which the lemma `shown` can be applied: the zone with the given UTC offset as its fixed offset
fixed : (c : goal.After-fields) → offset_at (Fixed c.args.offset) (nanos_of_seconds c.args.instant.secs) ≡ c.args.offset.seconds
unfolding offset_at
fixed c = refl

pub returns-clause-value : goal.returns-clause-value
returns-clause-value c = λ tz here.
    c.fields.ensures ∙ ap (λ o. civil_at_offset o c.to_datetime.result) (sym here) ∙ civil_at_offset-civil_of tz c.args.instant.secs c.to_datetime.result (shown c tz here)

pub returns-clause-ranges : goal.returns-clause-ranges
returns-clause-ranges c =
    let zone : TimeZone = Fixed c.args.offset in
    rw c.fields.ensures (IsCivil-civil_at_offset zone c.to_datetime.result c.args.instant.secs c.args.offset (shown c zone (fixed c)) c.args.instant.in_range)
