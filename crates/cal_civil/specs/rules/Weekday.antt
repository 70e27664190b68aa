-- The English names of the weekdays: systemd.time(7), Calendar Events.
use Rattle.std.specs.Prelude.{ℕ, List, [], ◌∷◌, codes, take}
use Rattle.jiff_core.specs.declared.civil.weekday.Weekday.{Weekday}
use Rattle.jiff_core.specs.declared.civil.weekday.Weekday.TheVariants.{Monday, Tuesday, Wednesday, Thursday, Friday, Saturday, Sunday}

-- the weekdays in order, from Monday to Sunday
abbrev pub week : List Weekday
week = Monday ∷ Tuesday ∷ Wednesday ∷ Thursday ∷ Friday ∷ Saturday ∷ Sunday ∷ []

-- the full English name of a weekday
unfoldable pub name_of : Weekday → List ℕ
name_of Monday = codes "Monday"
name_of Tuesday = codes "Tuesday"
name_of Wednesday = codes "Wednesday"
name_of Thursday = codes "Thursday"
name_of Friday = codes "Friday"
name_of Saturday = codes "Saturday"
name_of Sunday = codes "Sunday"

-- the first three letters of a weekday's name
abbrev pub short_name_of : Weekday → List ℕ
short_name_of day = take 3 (name_of day)
