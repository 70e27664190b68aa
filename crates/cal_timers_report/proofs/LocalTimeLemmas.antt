-- A printed instant in UTC is what a clock in UTC shows, followed by ` UTC`.
use Rattle.std.proofs.Common.{◌≡◌, ℕ, ℤ, List, [], ◌∷◌, ◌++◌, codes, sym, ◌∙◌}
use Rattle.std.proofs.lemmas.Grind.{flat_map-append}
use Rattle.cal_bytes.specs.rules.Bytes.{joined}
use Rattle.cal_zone.specs.rules.Civil.{civil_of}
use Rattle.cal_zone.specs.rules.InstantText.{instant_text, shown_text, zone_word, weekday_name, date_text, time_text}
use Rattle.cal_zone.specs.rules.Zone.{utc, zone_of}
use Rattle.cal_zone.specs.declared.civil_fields.Civil.{Civil}
use Rattle.cal_timers_report.specs.rules.JsonTimes.{civil_text, utc_clock_text}

last_space : (a b c d e : List ℕ) → joined (a ∷ b ∷ c ∷ d ∷ e ∷ codes " " ∷ []) ++ codes "UTC" ≡ joined (a ∷ b ∷ c ∷ d ∷ e ∷ []) ++ codes " UTC"
last_space a b c d e =
    sym (flat_map-append (λ piece. piece) (a ∷ b ∷ c ∷ d ∷ e ∷ codes " " ∷ []) (codes "UTC" ∷ []))
    ∙ flat_map-append (λ piece. piece) (a ∷ b ∷ c ∷ d ∷ e ∷ []) (codes " " ∷ codes "UTC" ∷ [])

civil_then_utc : (c : Civil) → shown_text c ++ codes "UTC" ≡ civil_text c ++ codes " UTC"
unfolding shown_text
civil_then_utc c = last_space (weekday_name c.weekday) (codes " ") (date_text c) (codes " ") (time_text c.hour c.minute c.second)

pub utc_text : (secs : ℤ) → instant_text utc secs ≡ utc_clock_text secs ++ codes " UTC"
unfolding instant_text zone_word
utc_text secs = civil_then_utc (civil_of (zone_of utc) secs)
