-- How a time span is printed (systemd.time(7), Parsing Time Spans): for each unit, from the largest to the smallest,
-- the text says how many whole units fit into what remains after the larger units. Counts that are zero are left out.
use Rattle.std.specs.Prelude.{ℕ, ◌/◌, ◌%◌, List, [], ◌∷◌, codes, decimal, filter, nat_lt}
use Rattle.std.specs.List.{join_by}
use Rattle.cal_bytes.specs.rules.Bytes.{joined}
use Rattle.cal_span.specs.rules.TimeUnit.{size_of, all_units, unit_name}
use Rattle.cal_span.specs.declared.time_unit.TimeUnit.{TimeUnit}

-- a number with its unit, such as 30 minutes
pub record Count : Type 0 where
  pub number : ℕ
  pub unit : TimeUnit

-- the counts that aren't zero
abbrev pub positive : List Count → List Count
positive = filter (λ c. nat_lt 0 c.number)

-- a count as it is printed: its digits, followed directly by its unit
abbrev pub count_text : Count → List ℕ
count_text c = joined (decimal c.number ∷ unit_name c.unit ∷ [])

-- the counts in order, with a space between them
unfoldable pub counts_in_row : List Count → List ℕ
counts_in_row = join_by count_text (codes " ")

-- the printed counts, or `0` if there are none
abbrev pub counts_text : List Count → List ℕ
counts_text [] = codes "0"
counts_text (c ∷ cs) = counts_in_row (c ∷ cs)

-- the counts of n microseconds in these units, by division with remainder
abbrev pub counts_of : List TimeUnit → ℕ → List Count
counts_of [] n = []
counts_of (unit ∷ units) n = record { number = n / size_of unit; unit = unit } ∷ counts_of units (n % size_of unit)

-- the text of n microseconds in these units
unfoldable pub units_text : List TimeUnit → ℕ → List ℕ
units_text units n = counts_text (positive (counts_of units n))

-- the printed span of n microseconds
abbrev pub span_text : ℕ → List ℕ
span_text = units_text all_units
