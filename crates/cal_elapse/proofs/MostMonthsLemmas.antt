-- The largest number of months that a single search examines, among several searches, and how this number changes when
-- more searches are made.
use Rattle.std.proofs.Common.{◌≡◌, ◌∙◌, ℕ, ◌+◌, ◌<◌, ◌≤◌, true, max, arith, inl, inr, option_map, subst, sym, unsigned_abs, ◌⊎◌}
use Rattle.std.proofs.lemmas.Bool.{cases_lt}
use Rattle.cal_spec.specs.rules.Match.{Sets, matches}
use Rattle.cal_elapse.specs.rules.Search.{NonePasses}
use Rattle.cal_elapse.specs.rules.ExaminedMonths.{IsSearch}
use Rattle.cal_elapse.specs.rules.MostMonths.{IsExamined, IsMost, IsMostAfter}
use Rattle.cal_elapse.specs.declared.search.Found.{Found}
use Rattle.cal_elapse.proofs.FoundLemmas.{first_passing}
use Rattle.cal_bytes.proofs.General.{max_from_zero}

pub max_is : (a b : ℕ) → ((max a b ≡ a) × (b ≤ a)) ⊎ ((max a b ≡ b) × (a ≤ b))
max_is a b = grind arith

-- if `found` is the result of a search that starts at `from`, this search examines `found.months` months
pub search_examined : (sets : Sets) (from : ℕ) (found : Found) → IsSearch sets from found → IsExamined sets from found.months
search_examined sets from found search =
    record { answer = option_map unsigned_abs found.local; first = first_passing (matches sets) from found.local search.first; examined = search.counted }

-- Suppose that `t` is the only match from `t` up to but not including `next`, and that the search after `t` examines
-- `months` months. If the largest number of months was `before`, it is now the larger of `before` and `months`.
pub most_next : (sets : Sets) (t next before months : ℕ) → matches sets t ≡ true → IsExamined sets (t + 1) months → t < next → NonePasses (matches sets) (t + 1) next
    → IsMostAfter sets t next before (max before months)
most_next sets t next before months holds examined later none = grind (arith, max_is)

-- Suppose that the searches after the matches of one range change the largest number of months from `x` to `y`, and
-- that the searches after the matches of the adjacent range change it from `y` to `z`. All these searches together then
-- change it from `x` to `z`.
pub most_on : (sets : Sets) (a b c x y z : ℕ) → a ≤ b → b ≤ c → IsMostAfter sets a b x y → IsMostAfter sets b c y z → IsMostAfter sets a c x z
most_on sets a b c x y z low high one two =
    record {
      not_below = omega arith;
      all = λ months l. elim (cases_lt l.local b) [
        | inl early ↦ (let few = one.all months (record { local = l.local; low = l.low; high = early; is_match = l.is_match; examined = l.examined }) in omega arith)
        | inr late ↦ two.all months (record { local = l.local; low = late; high = l.high; is_match = l.is_match; examined = l.examined })
      ];
      one = elim two.one [
        | inl same ↦ elim one.one [
          | inl first ↦ inl (same ∙ first)
          | inr l ↦ inr (record { local = l.local; low = l.low; high = early l.local l.high; is_match = l.is_match; examined = subst (IsExamined sets (l.local + 1)) (sym same) l.examined })
        ]
        | inr l ↦ inr (record { local = l.local; low = late l.local l.low; high = l.high; is_match = l.is_match; examined = l.examined })
      ];
    }
  where
    early : (t : ℕ) → t < b → t < c
    early t below = omega arith

    late : (t : ℕ) → b ≤ t → a ≤ t
    late t above = omega arith

-- if a range with a different end contains the same matches, the largest number of months is the same
pub most_same : (sets : Sets) (start a b most : ℕ) → ((t : ℕ) → start ≤ t → matches sets t ≡ true → (t < a → t < b) × (t < b → t < a)) → IsMost sets start a most → IsMost sets start b most
most_same sets start a b most same h = record {
  first = h.first;
  begun = h.begun;
  later = record {
    not_below = h.later.not_below;
    all = λ months l. h.later.all months (record { local = l.local; low = l.low; high = (same l.local l.low l.is_match).1 l.high; is_match = l.is_match; examined = l.examined });
    one = elim h.later.one [
      | inl first ↦ inl first
      | inr l ↦ inr (record { local = l.local; low = l.low; high = (same l.local l.low l.is_match).0 l.high; is_match = l.is_match; examined = l.examined })
    ];
  };
}

-- Each search examines some months. `most` is the largest number of months that one search examined, among the search
-- that begins at `start` and those after each match from `start` up to but not including `a`. If the searches after the
-- matches from `a` up to but not including `b` are made too, this largest number becomes `more`. Then `more` is the
-- largest number among the search that begins at `start` and those after each match from `start` up to but not
-- including `b`.
pub most_more : (sets : Sets) (start a b most more : ℕ) → start ≤ a → a ≤ b → IsMost sets start a most → IsMostAfter sets a b most more → IsMost sets start b more
most_more sets start a b most more low high h later = record { first = h.first; begun = h.begun; later = most_on sets start a b h.first most more low high h.later later }

-- if there is no match from `start` up to but not including `bound`, the largest number of months is the number that
-- the first search examines
pub most_start : (sets : Sets) (start bound old most months : ℕ) → IsExamined sets start months → start ≤ bound → NonePasses (matches sets) start bound → old ≡ 0
    → most ≡ max old months → IsMost sets start bound most
most_start sets start bound old most months examined low none zero is = grind (arith, max_from_zero, most_same)
