use Rattle.std.proofs.Common.{◌≡◌, Ok, refl, sym, ap, rules}
use Rattle.jiff.specs.Types.{Offset}
use Rattle.jiff.specs.Words.{fixed_zone}
use Rattle.cal_zone.specs.rules.Zone.{utc, zone_of}
use Rattle.cal_work.specs.rules.Outcome.{local_by}
use Rattle.cal_work.proofs.WorkLemmas.{finds_rule, finds_name, finds_no_name}
use Rattle.cal_work.proofs.arguments_to_bytes.local_zone.Goals as goal

pub returns-in-Utc : goal.returns-in-Utc
unfolding local_by
returns-in-Utc c = rw c.in-Utc.is (record { zone = utc; is_local = refl; answers = ap (λ z. Ok z) (sym c.utc.ensures) })

pub returns-in-Offset : goal.returns-in-Offset
unfolding local_by
returns-in-Offset c =
    let zone : (offset : Offset) → offset.seconds ≡ c.in-Offset.seconds → zone_of c.offset.result ≡ fixed_zone offset =
    λ offset is. c.offset.ensures.zone offset (search (rules, is)) in
    rw c.in-Offset.is (record { zone = c.offset.result; is_local = (c.offset.ensures.distinct, zone); answers = refl })

pub returns-in-Some : goal.returns-in-Some
returns-in-Some c =
    let rule = rw (c.in-Posix.is, c.in-Some.is) at c.requires.rules in
    rw c.in-Posix.is (finds_rule _ _ _ _ rule.0 rule.1 c.rules.ensures.zone c.rules.ensures.distinct)

pub returns-in-Some-find : goal.returns-in-Some-find
returns-in-Some-find c =
    let named = rw c.as_str.ensures.value at c.in-Some-find.ensures in
    rw c.in-Name.is (finds_name _ _ _ named.zone named.distinct)

pub returns-in-None-find : goal.returns-in-None-find
returns-in-None-find c =
    let named = rw c.as_str.ensures.value at c.in-None-find.ensures in
    rw c.in-Name.is (finds_no_name _ _ named.zone)
