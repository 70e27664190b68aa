-- Parsing of the zone at the end of a calendar expression: a name (systemd.time(7), Calendar Events), or a UTC offset,
-- which systemd doesn't accept.
use Rattle.std.specs.Prelude.{ℕ, if◌then◌else◌, List, [], ◌∷◌, Option, None, Some, option_map, Result, Ok, Err}
use Rattle.cal_civil.specs.computed.ReadOffset.{offset_in}
use Rattle.cal_civil.specs.rules.ZoneName.{is_zone_name}
use Rattle.cal_spec.specs.declared.spec_fault.SpecFault.{SpecFault}
use Rattle.cal_spec.specs.declared.spec_fault.SpecFault.TheVariants.{StrayWord}
use Rattle.cal_spec.specs.rules.ZoneSuffix.{ZoneSuffix, at_offset, kept_name, of_name}

-- parses a word as the name of a zone or as a UTC offset
unfoldable pub suffix_of : List ℕ → Option ZoneSuffix
suffix_of word = if is_zone_name word then Some (of_name (kept_name word)) else option_map at_offset (offset_in word)

abbrev pub suffix_due : Option ZoneSuffix → Result (Option ZoneSuffix) SpecFault
suffix_due None = Err StrayWord
suffix_due (Some suffix) = Ok (Some suffix)

-- parses the words after the weekdays, date and time: no words, or one word that is a zone
abbrev pub suffix_in : List (List ℕ) → Result (Option ZoneSuffix) SpecFault
suffix_in [] = Ok None
suffix_in (word ∷ []) = suffix_due (suffix_of word)
suffix_in words = Err StrayWord
