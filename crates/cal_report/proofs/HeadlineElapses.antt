-- Lemmas for the law `headline`: that elapses are instants, how a list of elapses continues after one of its elements,
-- and what the clock of the zone shows at an elapse. A law is the contract of a function that does nothing.
use Rattle.std.proofs.Common.{◌≡◌, ◌<◌, ◌+◌, ◌++◌, ◌∙◌, ℕ, suc, ℤ, pos, ◌≤ℤ◌, ◌<ℤ◌, ◌-ℤ◌, true, List, Option, None, Some, Result, Ok, Err, map, take, drop, refl, sym, ap, subst, arith}
use Rattle.std.proofs.Math.Seq.{take-add}
use Rattle.std.proofs.lemmas.Int.{ints}
use Rattle.std.specs.List.{slice_get}
use Rattle.jiff.proofs.SpanFacts.{signed_arith}
use Rattle.jiff.specs.Types.{Fold, Offset, TimeZone}
use Rattle.jiff.specs.Words.{ambiguous_at}
use Rattle.cal_zone.specs.rules.Instant.{IsInstant}
use Rattle.cal_civil.specs.rules.LocalSecond.{seconds_in_all-is}
use Rattle.cal_zone.specs.rules.Place.{datetime_of, place_of, settle_of}
use Rattle.cal_zone.specs.rules.Zone.{local_shown_at}
use Rattle.cal_zone.proofs.PlaceLemmas.{place_of-Some}
use Rattle.cal_spec.specs.rules.Fields.{Fields}
use Rattle.cal_spec.specs.rules.Match.{matches}
use Rattle.cal_spec.specs.rules.Members.{sets_of}
use Rattle.cal_elapse.specs.rules.ElapsesAfter.{elapses_except}
use Rattle.cal_elapse.specs.rules.Elapses.{AreElapses, IsPlace, Timed, timed}
use Rattle.cal_elapse.proofs.ElapsesLemmas.{AreElapses-elapses_except, AreElapses-only, elapses_except-later}
use Rattle.cal_elapse.proofs.InstantLemmas.{IsInstant-elapse}
use Rattle.cal_stamp.specs.declared.fault.StampFault.{StampFault}
use Rattle.cal_plan.specs.rules.Instants.{AreInstants}
use Rattle.cal_report.specs.rules.Headline.{AreElapsesOf, Expression, Schedule, meaning}
use Rattle.cal_report.specs.rules.RunReport.{base_from, base_in, second_or_fault}
use Rattle.cal_report.specs.rules.TextReport.TimestampReport.{stamp_in}
use Rattle.cal_request.specs.rules.Request.{Request}
use Rattle.cal_report.proofs.HeadlineLemmas.{one_elapses}

-- ## Elapses are instants

second_low : (stamp : Result ℤ StampFault) (base : ℤ) → second_or_fault stamp ≡ Ok base → pos 0 ≤ℤ base
second_low (Ok micros) base h = grind (arith, ints, signed_arith)
second_low (Err fault) base h = cc

base_from_low : (asked : Request) (text : Option (List ℕ)) (base : ℤ) → pos 0 ≤ℤ asked.now → base_from asked text ≡ Ok base → pos 0 ≤ℤ base
base_from_low asked None base low h = subst (λ (b : ℤ). pos 0 ≤ℤ b) (let same : asked.now ≡ base = cc in same) low
base_from_low asked (Some text) base low h = second_low (stamp_in asked text) base h

pub base_low : (asked : Request) (base : ℤ) → IsInstant asked.now → base_in asked ≡ Ok base → pos 0 ≤ℤ base
unfolding base_in
base_low asked base now h = base_from_low asked asked.base base now.0 h

pub elapses_are_instants : (asked : Request) (base : ℤ) (s : Schedule) (xs : List ℤ) → IsInstant asked.now → base_in asked ≡ Ok base
    → AreElapsesOf s base xs → AreInstants xs
elapses_are_instants asked base s xs now sought h i there =
    let elapse = ((AreElapses-elapses_except (map meaning s.expressions) (map meaning s.exceptions) base).members i).1 ((h.members i).0 there) in
    IsInstant-elapse (λ (e : Expression). e.fields) (λ (e : Expression). e.tz) s.expressions (map meaning s.exceptions) base i (base_low asked base now sought) elapse

-- ## Continuing after an elapse

pub goes_on : (ts exceptions : List Timed) (base e : ℤ) (xs : List ℤ) (k : ℕ) → AreElapses ts exceptions base xs → slice_get xs k ≡ Some e → AreElapses ts exceptions e (drop (suc k) xs)
goes_on ts exceptions base e xs k h at =
    let same = AreElapses-only ts exceptions base xs h in
    let at_all : slice_get (elapses_except ts exceptions base) k ≡ Some e = subst (λ (ys : List ℤ). slice_get ys k ≡ Some e) same at in
    subst (AreElapses ts exceptions e) (elapses_except-later ts exceptions base e k at_all ∙ ap (drop (suc k)) (sym same)) (AreElapses-elapses_except ts exceptions e)

pub in_parts : (ts exceptions : List Timed) (base e : ℤ) (xs ys : List ℤ) (k m : ℕ) → AreElapses ts exceptions base xs → slice_get xs k ≡ Some e → AreElapses ts exceptions e ys
    → take (suc k) xs ++ take m ys ≡ take (suc k + m) xs
in_parts ts exceptions base e xs ys k m h at more =
    let rest : ys ≡ drop (suc k) xs = one_elapses ts exceptions e ys (drop (suc k) xs) more (goes_on ts exceptions base e xs k h at) in
    rw rest (sym (take-add (suc k) m xs))

-- ## What the clock of a zone shows

pub is_shown : (fields : Fields) (tz : TimeZone) (i : ℤ) → IsPlace (timed fields tz) i
    → (local : ℕ) × (local < 7_258_118_400) × (matches (sets_of fields) local ≡ true) × (local_shown_at tz i ≡ pos local)
unfolding timed
is_shown fields tz i h =
    (h.local, omega (arith, seconds_in_all-is, h.within), h.is_match, (place_of-Some tz (pos h.local) i h.placed).1)

pub is_alone : (fields : Fields) (tz : TimeZone) (i j : ℤ) → IsPlace (timed fields tz) i → IsPlace (timed fields tz) j → local_shown_at tz i ≡ local_shown_at tz j → i ≡ j
unfolding timed
is_alone fields tz i j h k same = grind (arith, ints, signed_arith, place_of-Some)

none_shown : (tz : TimeZone) (local : ℤ) (o : Option ℤ) → ((second : ℤ) → local_shown_at tz second ≡ local → ⊥) → place_of tz local ≡ o → o ≡ None
none_shown tz local None never e = refl
none_shown tz local (Some second) never e = absurd (never second (place_of-Some tz local second e).1)

pub gap_has_no_place : (tz : TimeZone) (local : ℤ) → ((second : ℤ) → local_shown_at tz second ≡ local → ⊥) → place_of tz local ≡ None
gap_has_no_place tz local never = none_shown tz local (place_of tz local) never refl

-- if the UTC offset `after` is smaller than the UTC offset `before`, a local second converted at `after` is a later
-- instant than the same local second converted at `before`
later_by : (local i before after : ℤ) → i ≡ local -ℤ before → after <ℤ before → i <ℤ (local -ℤ after)
later_by local i before after is less = omega (arith, signed_arith)

pub fold_has_its_first : (tz : TimeZone) (local i : ℤ) (before after : Offset) → ambiguous_at tz (datetime_of local) ≡ Fold before after → place_of tz local ≡ Some i
    → (i ≡ local -ℤ before.seconds) × (after.seconds <ℤ before.seconds → i <ℤ (local -ℤ after.seconds))
unfolding settle_of
fold_has_its_first tz local i before after fold at = grind (arith, ints, signed_arith, place_of-Some, later_by)
