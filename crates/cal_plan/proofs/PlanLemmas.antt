-- Lemmas on zones that are missing from the zone table, and on the elapses that the merge yields.
use Rattle.std.proofs.Common.{◌≢◌, ◌≡◌, ℕ, zero, suc, ◌+◌, ◌<◌, ◌++◌, Bool, true, false, List, [], ◌∷◌, length, map, take, get_or, Option, None, Some, ℤ, pos, ◌≤ℤ◌, refl, sym, ap, ◌∙◌, arith}
use Rattle.std.specs.List.{AllZip, find}
use Rattle.std.specs.Option.{option_map, unwrap_or}
use Rattle.std.proofs.lemmas.Bool.{false_from_ne_true}
use Rattle.std.proofs.lemmas.List.{take_more, map-append}
use Rattle.jiff.specs.Types.{TimeZone, UTC}
use Rattle.cal_zone.specs.rules.Setting.{Setting}
use Rattle.cal_rising.specs.rules.Merge.{Merge, merged}
use Rattle.cal_elapse.proofs.ElapsesLemmas.{AreElapses-elapses_except}
use Rattle.cal_elapse.proofs.InstantLemmas.{IsInstant-elapse}
use Rattle.cal_elapse.specs.rules.Elapses.{AreElapses, Timed, timed}
use Rattle.cal_timer.specs.rules.TimerEntries.{TimerLine, Timer}
use Rattle.cal_timer.specs.rules.TimerView.{shown}
use Rattle.cal_timer.specs.declared.timer.TimerLine as declared_line
use Rattle.cal_spec.specs.rules.Fields.{Fields}
use Rattle.cal_plan.specs.rules.Instants.{AreInstants}
use Rattle.cal_plan.specs.rules.TimerElapses.{IsMergeOf, IsTimed, elapses_of_lists, timed_entry, zone_or_utc}
use Rattle.cal_plan.specs.rules.ZoneFor.{first_unzoned, lacks_zone, lesser_line, unzoned}

pub none_mapped : (o : Option (TimerLine Fields)) → option_map (λ (e : TimerLine Fields). e.number) o ≡ None → o ≡ None
none_mapped None h = refl
none_mapped (Some e) h = cc

-- what contracts see of the first `i + 1` lines is what they see of the first `i` lines, followed by what they see of
-- the line at index `i`
pub shown_more : (lines : List declared_line.TimerLine) (i : ℕ) (d : declared_line.TimerLine) → i < length lines → map shown (take (i + 1) lines) ≡ map shown (take i lines) ++ shown (get_or lines i d) ∷ []
shown_more lines i d h = rw (take_more lines i d h) (map-append shown (take i lines) (get_or lines i d ∷ []))

-- if a line of `es` passes the test `p`, then a line of `e ∷ es` does too
found_there : (p : TimerLine Fields → Bool) (e : TimerLine Fields) (es : List (TimerLine Fields)) (here : Bool) → p e ≡ here → (find p es ≢ None) → find p (e ∷ es) ≢ None
found_there p e es true is h = rw is (λ never. cc)
found_there p e es false is h = rw is h

pub line_found : (p : TimerLine Fields → Bool) (lines : List declared_line.TimerLine) (i : ℕ) (line : declared_line.TimerLine) → i < length lines → line ≡ get_or lines i line → p (shown line) ≡ true → find p (map shown lines) ≢ None
line_found p [] i line h is lacks = absurd (omega arith)
line_found p (x ∷ lines) zero line h is lacks = grind arith
line_found p (x ∷ lines) (suc i) line h is lacks =
    found_there p (shown x) (map shown lines) (p (shown x)) refl (line_found p lines i line (omega arith) is lacks)

pub zoned_at : (at : Setting) (lines : List declared_line.TimerLine) (i : ℕ) (line : declared_line.TimerLine) → i < length lines → line ≡ get_or lines i line
    → first_unzoned at (map shown lines) ≡ None → lacks_zone at (shown line) ≡ false
zoned_at at lines i line h is none =
    false_from_ne_true (lacks_zone at (shown line)) (λ lacks. line_found (lacks_zone at) lines i line h is lacks (none_mapped (find (lacks_zone at) (map shown lines)) none))

-- `lesser_line`, which returns the smaller of two line numbers, returns `None` only if both are missing
lesser_none : (a b : Option ℕ) → lesser_line a b ≡ None → (a ≡ None) × (b ≡ None)
lesser_none None b h = (refl, h)
lesser_none (Some x) None h = cc
lesser_none (Some x) (Some y) h = cc

pub all_zoned : (at : Setting) (lists : Timer Fields) → unzoned at lists ≡ None
    → (first_unzoned at lists.expressions ≡ None) × (first_unzoned at lists.exceptions ≡ None)
unfolding unzoned
all_zoned at lists h = lesser_none (first_unzoned at lists.expressions) (first_unzoned at lists.exceptions) h

-- if `merge` is the merge of a timer, as `IsMergeOf` says, and the base time isn't negative, then the elapses that it
-- yields are instants
pub merge_instants : (at : Setting) (base : ℤ) (lists : Timer Fields) (merge : Merge) → IsMergeOf at base lists merge → pos 0 ≤ℤ base → AreInstants (merged merge)
unfolding timed_entry elapses_of_lists
merge_instants at base lists merge m low i h =
    IsInstant-elapse (λ (e : TimerLine Fields). e.expr) (zone_or_utc at) lists.expressions
    (map (timed_entry at) lists.exceptions) base i low (rw m.is at h)

-- if the zones of all expressions of `list` are known, and `es` are these expressions in their zones (`IsTimed`), then
-- `timed_entry` returns `es`
pub timed_entries : (at : Setting) (list : List (TimerLine Fields)) (es : List Timed) → AllZip (IsTimed at) list es → map (timed_entry at) list ≡ es
unfolding timed_entry
timed_entries at [] [] h = refl
timed_entries at [] (e ∷ es) h = absurd h
timed_entries at (line ∷ list) [] h = absurd h
timed_entries at (line ∷ list) (e ∷ es) h =
    ap (λ (o : Option TimeZone). timed line.expr (unwrap_or o UTC) ∷ map (timed_entry at) list) h.0.1
    ∙ (ap (λ (t : Timed). t ∷ map (timed_entry at) list) (sym h.0.2) ∙ ap (λ (ts : List Timed). e ∷ ts) (timed_entries at list es h.1))

-- Suppose that the zones of a timer's expressions and exceptions are all known, and that `es` and `exceptions` are the
-- expressions and the exceptions in their zones (`IsTimed`). Then `elapses_of_lists` returns exactly the elapses of
-- `es` after the base time, without those of `exceptions`.
pub elapses_of_zones : (at : Setting) (base : ℤ) (lists : Timer Fields) (es exceptions : List Timed) → AllZip (IsTimed at) lists.expressions es → AllZip (IsTimed at) lists.exceptions exceptions
    → AreElapses es exceptions base (elapses_of_lists at base lists)
unfolding elapses_of_lists
elapses_of_zones at base lists es exceptions here there =
    rw (timed_entries at lists.expressions es here, timed_entries at lists.exceptions exceptions there) (AreElapses-elapses_except es exceptions base)
