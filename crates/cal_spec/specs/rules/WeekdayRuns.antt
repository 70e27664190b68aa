-- Printing of weekdays: systemd.time(7), Calendar Events. Days are numbered from 0 for Monday.
use Rattle.std.specs.Prelude.{◌==◌, ℕ, ◌+◌, Bool, if◌then◌else◌, List, [], ◌∷◌, codes, slice_index_or}
use Rattle.std.specs.List.{join_by, list_all}
use Rattle.jiff_core.specs.declared.civil.weekday.Weekday.TheVariants.{Monday}
use Rattle.cal_bytes.specs.rules.Bytes.{joined}
use Rattle.cal_civil.specs.rules.Weekday.{week, short_name_of}

-- a run: a maximal range of consecutive weekdays that match
pub record Run : Type 0 where
  pub first : ℕ
  pub last : ℕ

-- adds `day` before the runs; if the first run begins on `day + 1`, this run is extended to begin on `day`
abbrev pub with_day : ℕ → List Run → List Run
with_day day [] = record { first = day; last = day } ∷ []
with_day day (r ∷ rs) =
    if r.first == day + 1
    then record { first = day; last = r.last } ∷ rs
    else record { first = day; last = day } ∷ r ∷ rs

-- the runs of the weekdays that match; `day` is the number of the first weekday in the list
abbrev pub runs_from : ℕ → List Bool → List Run
runs_from day [] = []
runs_from day (b ∷ bs) = if b then with_day day (runs_from (day + 1) bs) else runs_from (day + 1) bs

-- the name of a weekday, shortened to three letters
abbrev pub day_name : ℕ → List ℕ
day_name day = short_name_of (slice_index_or week day Monday)

-- the text of a run after its first day: nothing if the run is one day, `,` and the last day if it is two days, and
-- `..` and the last day if it is longer
abbrev pub text_after_first : ℕ → ℕ → List ℕ
text_after_first first last =
    if first == last then [] else joined ((if first + 1 == last then codes "," else codes "..") ∷ day_name last ∷ [])

-- the text of a run: `lead`, its first day, and then `text_after_first`
unfoldable pub run_text : List ℕ → Run → List ℕ
run_text lead r = joined (lead ∷ day_name r.first ∷ text_after_first r.first r.last ∷ [])

unfoldable pub runs_text : List Run → List ℕ
runs_text = join_by (run_text []) (codes ",")

-- the weekdays that match and a space after them, or nothing if all seven match
unfoldable pub weekdays_text : List Bool → List ℕ
weekdays_text days =
    if list_all (λ d. d) days then [] else joined (runs_text (runs_from 0 days) ∷ codes " " ∷ [])
