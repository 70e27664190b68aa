-- Examples of how late a run can be, and of persistent timers.
use Rattle.std.proofs.Common.{◌≡◌, ◌+◌, ℕ, List, [], ◌∷◌, Some, None, codes, false, refl, true}
use Rattle.cal_span.specs.computed.SpanValue.{pairs_in, span_of, words_in}
use Rattle.cal_span.specs.rules.PairValue.{is_number, number_worth, unit_named, worth_of}
use Rattle.cal_span.specs.rules.UnitSpellings.{spellings_of}
use Rattle.cal_timer.specs.rules.Assignments.{Assignment}
use Rattle.cal_load.specs.rules.Timing.{is_persistent_in, last_value, reach_in}

-- assignments with these keys and values, on consecutive lines, the first on line `line`
settings : ℕ → List (List ℕ × List ℕ) → List Assignment
settings line [] = []
settings line (setting ∷ more) = record { number = line; key = setting.0; value = setting.1 } ∷ settings (line + 1) more

-- without settings, a run is at most a minute late
usual : reach_in [] ≡ Some 60
unfolding last_value
usual = refl

-- the sum of the three time spans is rounded up
summed : reach_in (settings 1 (
    (codes "RandomizedDelaySec", codes "1h") ∷ (codes "AccuracySec", codes "1us") ∷ (codes "RandomizedOffsetSec", codes "1min")
    ∷ []))
    ≡ Some 3661
unfolding settings last_value span_of pairs_in words_in is_number number_worth unit_named worth_of spellings_of
summed = refl

-- an invalid or empty value is ignored, and a valid value replaces the earlier ones
last_valid : reach_in (settings 1 (
    (codes "AccuracySec", codes "1h") ∷ (codes "AccuracySec", codes "1s") ∷ (codes "AccuracySec", codes "soon")
    ∷ (codes "AccuracySec", []) ∷ []))
    ≡ Some 1
unfolding settings last_value span_of pairs_in words_in is_number number_worth unit_named worth_of spellings_of
last_valid = refl

endless : reach_in (settings 1 ((codes "RandomizedDelaySec", codes "infinity") ∷ [])) ≡ None
unfolding settings last_value span_of pairs_in words_in is_number number_worth unit_named worth_of spellings_of
endless = refl

persistent : is_persistent_in (settings 1 ((codes "Persistent", codes "no") ∷ (codes "Persistent", codes "Yes") ∷ (codes "Persistent", codes "2") ∷ [])) ≡ true
unfolding settings last_value
persistent = refl

not_persistent : is_persistent_in (settings 1 ((codes "Persistent", codes "true") ∷ (codes "Persistent", codes "off") ∷ [])) ≡ false
unfolding settings last_value
not_persistent = refl
