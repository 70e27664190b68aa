-- The expansion of two-digit years: systemd.time(7), Calendar Events.
use Rattle.std.specs.Prelude.{ℕ, ◌+◌, nat_lt, Bool, true, false, if◌then◌else◌}
use Rattle.std.specs.Option.{option_map}
use Rattle.cal_spec.specs.declared.field.Part.{Part}
use Rattle.cal_spec.specs.declared.slot.Slot.{Slot}
use Rattle.cal_spec.specs.declared.slot.Slot.TheVariants.{Year}

abbrev pub is_year : Slot → Bool
is_year Year = true
is_year slot = false

-- expands a two-digit year: 0 to 69 become 2000 to 2069, and 70 to 99 become 1970 to 1999; other numbers are unchanged
abbrev pub with_century : ℕ → ℕ
with_century n = if nat_lt n 70 then n + 2000 else (if nat_lt n 100 then n + 1900 else n)

-- the part, with two-digit years expanded if it is a part of the year
abbrev pub with_full_years : Slot → Part → Part
with_full_years slot p =
    if is_year slot then record { start = with_century p.start; end = option_map with_century p.end; step = p.step } else p
