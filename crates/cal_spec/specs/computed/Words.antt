-- Recognition of the weekdays, the date, the time and the zone among the words of an expression: systemd.time(7),
-- Calendar Events. The role of a word says which of the four it is.
use Rattle.std.specs.Prelude.{ℕ, if◌then◌else◌, List, [], ◌∷◌, Option, None, Some}
use Rattle.std.specs.List.{list_any}
use Rattle.cal_bytes.specs.rules.Separators.{is_colon}
use Rattle.cal_spec.specs.rules.Shorthand.{any_date, midnight, shorthand_named, expansion_of}
use Rattle.cal_civil.specs.rules.OffsetWord.{begins_zone}
use Rattle.cal_civil.specs.rules.ZoneName.{begins_with_letter}
use Rattle.cal_spec.specs.declared.shorthand.Shorthand.{Shorthand}
use Rattle.cal_spec.specs.rules.UnparsedTexts.{WordRoles}

-- the roles of the words after a date: if the first of them begins with a letter, `+` or `-`, it is a zone, otherwise
-- the time
abbrev pub roles_after_date : Option (List ℕ) → List ℕ → List (List ℕ) → WordRoles
roles_after_date weekdays date [] = record { weekdays = weekdays; date = date; time = midnight; rest = [] }
roles_after_date weekdays date (w ∷ ws) =
    if begins_zone w then record { weekdays = weekdays; date = date; time = midnight; rest = w ∷ ws }
    else record { weekdays = weekdays; date = date; time = w; rest = ws }

-- the roles of `w` and of the words `ws` after it: if `w` contains a colon, it is the time, otherwise the date
abbrev pub date_or_time : Option (List ℕ) → List ℕ → List (List ℕ) → WordRoles
date_or_time weekdays w ws =
    if list_any is_colon w then record { weekdays = weekdays; date = any_date; time = w; rest = ws }
    else roles_after_date weekdays w ws

-- the roles of the words after the weekdays: if the first of them begins with a letter, `+` or `-`, it is a zone,
-- otherwise the date or the time
abbrev pub after_weekdays : Option (List ℕ) → List (List ℕ) → WordRoles
after_weekdays weekdays [] = record { weekdays = weekdays; date = any_date; time = midnight; rest = [] }
after_weekdays weekdays (w ∷ ws) =
    if begins_zone w then record { weekdays = weekdays; date = any_date; time = midnight; rest = w ∷ ws }
    else date_or_time weekdays w ws

-- the roles of all words if the first word `w` is not a shorthand: if `w` begins with a letter, it is the weekday list,
-- otherwise the date or the time, even if it begins with `+` or `-`
abbrev pub roles_in : List ℕ → List (List ℕ) → WordRoles
roles_in w ws = if begins_with_letter w then after_weekdays (Some w) ws else date_or_time None w ws

-- the roles of all words; a shorthand is replaced by what it stands for
abbrev pub roles_by : Option Shorthand → List ℕ → List (List ℕ) → WordRoles
roles_by None w ws = roles_in w ws
roles_by (Some shorthand) w ws =
    record {
      weekdays = (expansion_of shorthand).weekdays;
      date = (expansion_of shorthand).date;
      time = (expansion_of shorthand).time;
      rest = ws;
    }

-- the roles of all words, or None if there are no words
unfoldable pub roles_of : List (List ℕ) → Option WordRoles
roles_of [] = None
roles_of (w ∷ ws) = Some (roles_by (shorthand_named w) w ws)
