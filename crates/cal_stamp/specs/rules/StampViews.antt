-- How contracts see the arguments and the results of the functions that parse timestamps.
use Rattle.std.specs.Prelude.{ℕ, ℤ, pos, neg_ℤ, List, Option, Result}
use Rattle.std.specs.Result.{result_map_both}
use Rattle.jiff.specs.Types.{TimeZone}
use Rattle.cal_zone.specs.declared.moment.Moment.{Moment}
use Rattle.cal_zone.specs.declared.zone.Zone.{Zone}
use Rattle.cal_zone.specs.rules.Zone.{zone_of}
use Rattle.cal_zone.specs.rules.Setting.{Setting}
use Rattle.cal_bytes.specs.rules.Separators.{words}
use Rattle.cal_stamp.specs.rules.StampCivilRule as meaning
use Rattle.cal_stamp.specs.rules.StampRule as forms
use Rattle.cal_stamp.specs.declared.fault.StampFault.{StampFault}
use Rattle.cal_stamp.specs.declared.form.Form as declared
use Rattle.cal_stamp.specs.declared.form.Form.TheVariants.{Nothing, Present, Later, Earlier, Counted, Midnight, Civil}
use Rattle.cal_stamp.specs.declared.form.RelativeDay.{RelativeDay}
use Rattle.cal_stamp.specs.declared.form.RelativeDay.TheVariants.{Yesterday, Today, Tomorrow}
use Rattle.cal_stamp.specs.declared.civil_stamp.CivilStamp as civil_stamp

-- the result of parsing a timestamp, with the moment as microseconds of Unix time
abbrev pub micros_or_fault : Result Moment StampFault → Result ℤ StampFault
micros_or_fault = result_map_both (λ moment. moment.micros) (λ fault. fault)

abbrev pub zone_or_fault : Result Zone StampFault → Result TimeZone StampFault
zone_or_fault = result_map_both zone_of (λ fault. fault)

abbrev pub civil_stamp_seen : civil_stamp.CivilStamp → meaning.CivilStamp
civil_stamp_seen w = record { weekday = w.weekday; day = w.day; micros = w.micros; zone = zone_of w.zone }

abbrev pub civil_stamp_or_fault : Result civil_stamp.CivilStamp StampFault → Result meaning.CivilStamp StampFault
civil_stamp_or_fault = result_map_both civil_stamp_seen (λ fault. fault)

-- how many days after today the relative day is: -1, 0 or 1
abbrev pub shift_of : RelativeDay → ℤ
shift_of Yesterday = neg_ℤ (pos 1)
shift_of Today = pos 0
shift_of Tomorrow = pos 1

abbrev pub form_seen : declared.Form → forms.Form
form_seen Nothing = forms.nothing
form_seen Present = forms.present
form_seen (Later span) = forms.later span.now
form_seen (Earlier span) = forms.earlier span.now
form_seen (Counted span) = forms.counted span.now
form_seen (Midnight day after) = forms.from_today (shift_of day) (words after.now)
form_seen (Civil text) = forms.civil (words text.now)

-- the zones that a timestamp can refer to, given the local zone and the function that finds a zone by its name
abbrev pub setting : TimeZone → (List ℕ → Option TimeZone) → Setting
setting local find = record { local = local; find = find }
