-- What the text of a printed span is, stated without computing its counts (systemd.time(7), Parsing Time Spans).
use Rattle.std.specs.Prelude.{◌≡◌, ℕ, ◌+◌, ◌*◌, ◌<◌, List, [], ◌∷◌}
use Rattle.cal_span.specs.rules.TimeUnit.{size_of, all_units}
use Rattle.cal_span.specs.declared.time_unit.TimeUnit.{TimeUnit}
use Rattle.cal_span.specs.rules.SpanText.{Count, counts_text, positive}

-- the sum of the counts, in microseconds
abbrev pub weight : List Count → ℕ
weight [] = 0
weight (c ∷ cs) = c.number * size_of c.unit + weight cs

-- There is one count for each unit, in the order of the units. The counts after the count of a unit add up to less than
-- one such unit.
abbrev pub AreReduced : List TimeUnit → List Count → Type 0
AreReduced [] [] = Unit {0}
AreReduced [] (c ∷ cs) = ⊥
AreReduced (unit ∷ units) [] = ⊥
AreReduced (unit ∷ units) (c ∷ cs) = (c.unit ≡ unit) × (weight cs < size_of unit) × AreReduced units cs

-- `cs` are the counts of a span of `n` microseconds: they add up to `n`, and satisfy `AreReduced`
pub record AreCounts (n : ℕ) (cs : List Count) : Type 0 where
  pub sum : weight cs ≡ n
  pub reduced : AreReduced all_units cs

-- the text is the printed span of n microseconds: the counts that aren't zero, or `0` if all counts are zero
abbrev pub IsSpanText : ℕ → List ℕ → Type 0
IsSpanText n text = (cs : List Count) × AreCounts n cs × (text ≡ counts_text (positive cs))
