-- The zone at the end of a calendar expression: a name (systemd.time(7), Calendar Events), or a UTC offset, which
-- systemd doesn't accept.
use Rattle.std.specs.Prelude.{ℕ, ℤ, if◌then◌else◌, List, codes, Option, None, Some, ◌≡◌, true}
use Rattle.cal_civil.specs.rules.OffsetText.{offset_text}
use Rattle.cal_civil.specs.rules.ZoneName.{is_utc_name, is_zone_name}
use Rattle.cal_civil.specs.rules.OffsetWord.{AreWholeMinutes}

-- the name of a zone, or a UTC offset in seconds
pub data ZoneSuffix : Type 0 where
  of_name : List ℕ → ZoneSuffix
  at_offset : ℤ → ZoneSuffix

-- the name that is stored: `UTC` if the word is `UTC` in any case, and otherwise the word itself
abbrev pub kept_name : List ℕ → List ℕ
kept_name word = if is_utc_name word then codes "UTC" else word

-- the zone as it is printed
abbrev pub suffix_text : ZoneSuffix → List ℕ
suffix_text (of_name name) = name
suffix_text (at_offset seconds) = offset_text seconds

-- the name of the zone, if there is a zone suffix and this suffix is a name
abbrev pub name_in : Option ZoneSuffix → Option (List ℕ)
name_in None = None
name_in (Some (of_name name)) = Some name
name_in (Some (at_offset seconds)) = None

-- the offset of the zone in seconds, if it is a UTC offset
abbrev pub offset_said : Option ZoneSuffix → Option ℤ
offset_said None = None
offset_said (Some (of_name name)) = None
offset_said (Some (at_offset seconds)) = Some seconds

-- there is a word that is parsed as this zone
abbrev pub IsSuffix : ZoneSuffix → Type 0
IsSuffix (of_name name) = (is_zone_name name ≡ true) × (kept_name name ≡ name)
IsSuffix (at_offset seconds) = AreWholeMinutes seconds

abbrev pub IsSuffixOption : Option ZoneSuffix → Type 0
IsSuffixOption None = Unit {0}
IsSuffixOption (Some suffix) = IsSuffix suffix
