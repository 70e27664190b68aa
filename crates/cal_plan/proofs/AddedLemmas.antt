-- Lemmas on the expressions of a timer file: expressions that an exception covers are skipped, and the others are added
-- to the merge.
use Rattle.std.proofs.Common.{◌≡◌, ◌++◌, ℕ, zero, suc, ◌+◌, ◌<◌, false, List, [], ◌∷◌, length, map, get_or, ℤ, inr, sym, ap, ◌∙◌, arith, take}
use Rattle.std.proofs.lemmas.List.{append_assoc, map-append}
use Rattle.cal_elapse.proofs.CoveredLemmas.{elapses_except-kept, kept_one, kept_without, matches_among}
use Rattle.cal_elapse.proofs.ElapsesLemmas.{without-elapses}
use Rattle.cal_elapse.specs.rules.Covered.{AreAmong}
use Rattle.cal_elapse.specs.rules.ElapsesAfter.{elapses_after, each_after}
use Rattle.cal_elapse.specs.rules.Elapses.{IsPlace, Timed, timed}
use Rattle.cal_elapse.specs.computed.Masks.{sets_in}
use Rattle.cal_elapse.specs.declared.masks.Masks.{Masks}
use Rattle.cal_timer.specs.rules.TimerEntries.{TimerLine, Timer}
use Rattle.cal_timer.specs.rules.TimerView.{shown}
use Rattle.cal_timer.specs.declared.timer.TimerLine as declared_line
use Rattle.cal_rising.specs.rules.Merge.{Merge, merged}
use Rattle.cal_spec.specs.rules.Fields.{Fields}
use Rattle.cal_spec.specs.rules.Match.{Sets}
use Rattle.cal_plan.proofs.PlanLemmas.{shown_more}
use Rattle.cal_plan.specs.rules.TimerElapses.{IsAdded, IsCoveredEntry, each_of, elapses_of_lists, entry_sets, timed_entry}
use Rattle.cal_zone.specs.rules.Setting.{Setting}

-- if `f` has the same zone suffix as `e`, and each field of `f` matches all values that the same field of `e` matches,
-- then every elapse of `e` is an elapse of `f`
place_among : (e f : TimerLine Fields) → e.expr.zone ≡ f.expr.zone → AreAmong (entry_sets e) (entry_sets f) → (at : Setting) (i : ℤ)
    → IsPlace (timed_entry at e) i → IsPlace (timed_entry at f) i
unfolding timed_entry timed
place_among e f zone among at i p = grind (arith, matches_among)

pub covered_at : (e : TimerLine Fields) (lines : List declared_line.TimerLine) (masks : List Masks) (own : Sets) (i : ℕ) (line : declared_line.TimerLine) (theirs : Masks)
    → map sets_in masks ≡ map entry_sets (map shown lines) → i < length lines → i < length masks → line ≡ get_or lines i line → theirs ≡ get_or masks i theirs
    → own ≡ entry_sets e → e.expr.zone ≡ line.expr.zone → AreAmong own (sets_in theirs) → IsCoveredEntry e (map shown lines)
covered_at e [] masks own i line theirs all h k is so same zone among at j p = absurd (omega arith)
covered_at e (x ∷ lines) [] own i line theirs all h k is so same zone among at j p = absurd (omega arith)
covered_at e (x ∷ lines) (m ∷ masks) own zero line theirs all h k is so same zone among at j p = grind (arith, place_among)
covered_at e (x ∷ lines) (m ∷ masks) own (suc i) line theirs all h k is so same zone among at j p =
    inr (covered_at e lines masks own i line theirs (cc) (omega arith) (omega arith) is so same zone among at j p)

timed_more : (at : Setting) (lines : List declared_line.TimerLine) (i : ℕ) (line : declared_line.TimerLine) → i < length lines → line ≡ get_or lines i line
    → map (timed_entry at) (map shown (take (i + 1) lines)) ≡ map (timed_entry at) (map shown (take i lines)) ++ timed_entry at (shown line) ∷ []
timed_more at lines i line h is =
    ap (map (timed_entry at)) (shown_more lines i line h ∙ ap (λ x. map shown (take i lines) ++ shown x ∷ []) (sym is))
    ∙ map-append (timed_entry at) (map shown (take i lines)) (shown line ∷ [])

pub added_one : (at : Setting) (base : ℤ) (lines : List declared_line.TimerLine) (exceptions : List (TimerLine Fields)) (i : ℕ) (line : declared_line.TimerLine) (old mid new : Merge) (elapses : List ℤ)
    → i < length lines → line ≡ get_or lines i line → IsAdded at base (map shown (take i lines)) exceptions old mid
    → elapses ≡ elapses_after (timed_entry at (shown line) ∷ []) base → new ≡ record { started = false; lists = mid.lists ++ elapses ∷ []; exceptions = mid.exceptions }
    → IsAdded at base (map shown (take (i + 1) lines)) exceptions old new
added_one at base lines exceptions i line old mid new elapses h is a so with_it =
    let e = timed_entry at (shown line) in
    let each = λ (t : Timed). elapses_after (t ∷ []) base in
    let lists : mid.lists ++ elapses ∷ [] ≡ old.lists ++ each_after (a.kept ++ e ∷ []) base
    = ap (λ (m : Merge). m.lists ++ elapses ∷ []) a.is ∙ append_assoc old.lists (each_after a.kept base) (elapses ∷ [])
    ∙ ap (λ (l : List (List ℤ)). old.lists ++ l) (ap (λ (l : List ℤ). each_after a.kept base ++ l ∷ []) so ∙ sym (map-append each a.kept (e ∷ []))) in
    record {
      kept = a.kept ++ e ∷ [];
      are_kept = rw (timed_more at lines i line h is) (kept_one (map (timed_entry at) (map shown (take i lines))) (map (timed_entry at) exceptions) a.kept e a.are_kept);
      is = with_it ∙ (λ j. record { started = false; lists = lists j; exceptions = ap (λ (m : Merge). m.exceptions) a.is j });
    }

pub added_without : (at : Setting) (base : ℤ) (lines : List declared_line.TimerLine) (exceptions : List (TimerLine Fields)) (i : ℕ) (line : declared_line.TimerLine) (old new : Merge)
    → i < length lines → line ≡ get_or lines i line → IsAdded at base (map shown (take i lines)) exceptions old new → IsCoveredEntry (shown line) exceptions
    → IsAdded at base (map shown (take (i + 1) lines)) exceptions old new
added_without at base lines exceptions i line old new h is a covered =
    let e = timed_entry at (shown line) in
    record {
      kept = a.kept;
      are_kept = rw (timed_more at lines i line h is) (kept_without (map (timed_entry at) (map shown (take i lines))) (map (timed_entry at) exceptions) a.kept e (covered at) a.are_kept);
      is = a.is;
    }

-- if the expressions of a timer file, and then its exceptions, have been added to an empty merge, the merge yields the
-- elapses of the timer file
pub merge_added : (at : Setting) (base : ℤ) (lists : Timer Fields) (empty some merge : Merge) → empty ≡ record { started = false; lists = []; exceptions = [] }
    → IsAdded at base lists.expressions lists.exceptions empty some
    → merge ≡ record { started = false; lists = some.lists; exceptions = some.exceptions ++ each_of at base lists.exceptions }
    → merged merge ≡ elapses_of_lists at base lists
unfolding elapses_of_lists
merge_added at base lists empty some merge none a all = grind (arith, without-elapses, elapses_except-kept)
