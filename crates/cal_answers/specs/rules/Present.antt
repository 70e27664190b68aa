-- The instant that counts as the present of a question.
use Rattle.std.specs.Prelude.{◌≡◌, ⊤, ℤ, Option, None, Some}
use Rattle.cal_zone.specs.rules.Instant.{IsInstant}
use Rattle.cal_zone.specs.declared.instant.Instant.{Instant}

-- Whether the second argument is the present. The first argument is the second of Unix time that the question or the
-- clock states. There is no present if neither states one, or if that second isn't an instant.
abbrev pub IsPresent : Option ℤ → Option Instant → Type 0
IsPresent None None = ⊤
IsPresent None (Some present) = ⊥
IsPresent (Some second) None = IsInstant second → ⊥
IsPresent (Some second) (Some present) = present.secs ≡ second
