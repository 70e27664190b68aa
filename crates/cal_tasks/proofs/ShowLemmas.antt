-- Lemmas on the elapses of a shown timer: they are its first ones after the present.
use Rattle.std.proofs.Common.{◌≡◌, ◌⊎◌, ℕ, zero, suc, ◌+◌, ◌≤◌, List, [], ◌∷◌, ◌++◌, Option, None, Some, inl, inr, ℤ, ◌<ℤ◌, arith, ap, drop, length, refl, slice_get, subst, sym, take, take-add, ◌∙◌}
use Rattle.std.proofs.lemmas.Map.Keys.{sorted_tail}
use Rattle.std.specs.List.{AllByRecursion, last_or}
use Rattle.std.specs.List.Sorted.{IsStrictlySortedBy}
use Rattle.std.specs.Ordering.{int_cmp}
use Rattle.std.specs.declared.cmp.Ordering.TheVariants.{Less}
use Rattle.cal_bytes.proofs.General.{slice_get-take}
use Rattle.cal_elapse.proofs.ElapsesLemmas.{AreElapses-elapses_except, elapses_except-later}
use Rattle.cal_elapse.specs.rules.Elapses.{IsElapseExcept}
use Rattle.cal_load.specs.declared.loaded.LoadedTimer.{LoadedTimer}
use Rattle.cal_plan.specs.rules.TimerElapses.{elapses_of_lists}
use Rattle.cal_rising.proofs.RisingLemmas.{above_first}
use Rattle.cal_rising.specs.rules.Elements.{Has}
use Rattle.cal_timers_report.specs.rules.ReportView.{TimerView}
use Rattle.cal_zone.specs.declared.zone.Zone.{Zone}
use Rattle.cal_zone.specs.rules.Zone.{zone_of}
use Rattle.cal_zone.specs.rules.ZoneTable.{zone_named}
use Rattle.cal_tasks.specs.rules.Unguarded.{UnguardedView}
use Rattle.cal_tasks.proofs.SameLemmas.{rising}
use Rattle.cal_tasks.specs.declared.present.Present.{Present}
use Rattle.cal_tasks.specs.rules.LastElapse.{timed_exceptions, timed_expressions}
use Rattle.cal_tasks.specs.rules.LoadedElapses.{elapses_in, lists_of_loaded}
use Rattle.cal_tasks.specs.rules.ShowLaw.{AreFirstElapses}
use Rattle.cal_tasks.specs.rules.ShowReport.{IsShownTimer}

-- ## The first elements of a list

all-take : (P : ℤ → Type 0) (n : ℕ) (xs : List ℤ) → AllByRecursion P xs → AllByRecursion P (take n xs)
all-take P zero xs all = tt
all-take P (suc n) [] all = tt
all-take P (suc n) (x ∷ xs) all = (all.0, all-take P n xs all.1)

rises-take : (n : ℕ) (xs : List ℤ) → IsStrictlySortedBy int_cmp xs → IsStrictlySortedBy int_cmp (take n xs)
unfolding IsStrictlySortedBy
rises-take zero xs h = tt
rises-take (suc n) [] h = tt
rises-take (suc n) (x ∷ xs) h = (all-take (λ y. int_cmp x y ≡ Less) n xs h.0, rises-take n xs h.1)

few-take : (n : ℕ) (xs : List ℤ) → length (take n xs) ≤ n
few-take zero xs = omega arith
few-take (suc n) [] = omega arith
few-take (suc n) (x ∷ xs) = let few = few-take n xs in omega arith

Has-take : (n : ℕ) (xs : List ℤ) (i : ℤ) → Has (take n xs) i → Has xs i
Has-take zero xs i m = absurd m
Has-take (suc n) [] i m = absurd m
Has-take (suc n) (x ∷ xs) i (inl same) = inl same
Has-take (suc n) (x ∷ xs) i (inr later) = inr (Has-take n xs i later)

-- a number of a strictly increasing list is among its first `n` numbers, or after all of them, and then there are `n`
first_or_later : (n : ℕ) (xs : List ℤ) (i : ℤ) → IsStrictlySortedBy int_cmp xs → Has xs i
    → Has (take n xs) i ⊎ ((length (take n xs) ≡ n) × ((shown : ℤ) → Has (take n xs) shown → shown <ℤ i))
first_or_later zero xs i h m = inr (refl, λ shown none. absurd none)
first_or_later (suc n) [] i h m = absurd m
first_or_later (suc n) (x ∷ xs) i h (inl same) = inl (inl same)
first_or_later (suc n) (x ∷ xs) i h (inr later) =
    elim (first_or_later n xs i (sorted_tail int_cmp x xs h) later) [
      | inl there ↦ inl (inr there)
      | inr full ↦ inr (
        ap suc full.0,
        λ shown m. elim m [
          | inl same ↦ subst (λ (z : ℤ). z <ℤ i) same (above_first x i xs h later)
          | inr more ↦ full.1 shown more
        ],
      )
    ]

drop-length-take : (n : ℕ) (xs : List ℤ) → drop (length (take n xs)) xs ≡ drop n xs
drop-length-take zero xs = refl
drop-length-take (suc n) [] = refl
drop-length-take (suc n) (x ∷ xs) = drop-length-take n xs

-- the last element of a list is the one before its end
last_is : (xs : List ℤ) (o : Option ℤ) (e : ℤ) → last_or o xs ≡ Some e
    → ((xs ≡ []) × (o ≡ Some e)) ⊎ ((k : ℕ) × (suc k ≡ length xs) × (slice_get xs k ≡ Some e))
last_is [] o e h = inl (refl, h)
last_is (x ∷ xs) o e h =
    elim (last_is xs (Some x) e h) [
      | inl only ↦ inr (0, ap (λ (l : List ℤ). suc (length l)) (sym only.0), only.1)
      | inr later ↦ inr (suc later.0, ap suc later.1, later.2)
    ]

-- ## The elapses

members : (at : Present) (timer : LoadedTimer) (base i : ℤ)
    → (Has (elapses_in at base timer) i → (base <ℤ i) × IsElapseExcept (timed_expressions at timer) (timed_exceptions at timer) i)
    × ((base <ℤ i) × IsElapseExcept (timed_expressions at timer) (timed_exceptions at timer) i → Has (elapses_in at base timer) i)
unfolding elapses_of_lists
members at timer base i = (AreElapses-elapses_except (timed_expressions at timer) (timed_exceptions at timer) base).members i

elapses_later : (at : Present) (timer : LoadedTimer) (base e : ℤ) (k : ℕ) → slice_get (elapses_in at base timer) k ≡ Some e
    → elapses_in at e timer ≡ drop (suc k) (elapses_in at base timer)
unfolding elapses_of_lists
elapses_later at timer base e k here = elapses_except-later (timed_expressions at timer) (timed_exceptions at timer) base e k here

first_are : (at : Present) (timer : LoadedTimer) (count : ℕ) → AreFirstElapses at timer count (take count (elapses_in at at.now.secs timer))
first_are at timer count =
    let xs = elapses_in at at.now.secs timer in
    record {
      rises = rises-take count xs (rising at at.now.secs timer);
      few = few-take count xs;
      are_later = λ secs m. (members at timer at.now.secs secs).0 (Has-take count xs secs m);
      first = λ secs is. first_or_later count xs secs (rising at at.now.secs timer) ((members at timer at.now.secs secs).1 is);
    }

pub shown_are_first : (at : Present) (count : ℕ) (warnings : List (List ℕ)) (unguarded : List UnguardedView) (timer : LoadedTimer) (view : TimerView) → IsShownTimer at count warnings unguarded timer view
    → AreFirstElapses at timer count view.elapses
shown_are_first at count warnings unguarded timer view is =
    subst (λ (xs : List ℤ). AreFirstElapses at timer count xs) (sym is.elapses) (first_are at timer count)

-- the first elapses, followed by those after the last of them
first_then_later : (at : Present) (timer : LoadedTimer) (count more : ℕ) (base e : ℤ) → last_or None (take count (elapses_in at base timer)) ≡ Some e
    → take count (elapses_in at base timer) ++ take more (elapses_in at e timer) ≡ take (count + more) (elapses_in at base timer)
first_then_later at timer count more base e last =
    let xs = elapses_in at base timer in
    elim (last_is (take count xs) None e last) [
      | inl none ↦ absurd (let never : None ≡ Some e = none.1 in cc)
      | inr found ↦
          let rest : elapses_in at e timer ≡ drop count xs
          = elapses_later at timer base e found.0 (slice_get-take count xs found.0 e found.2)
          ∙ ap (λ (n : ℕ). drop n xs) found.1 ∙ drop-length-take count xs in
          ap (λ (ys : List ℤ). take count xs ++ take more ys) rest ∙ sym (take-add count more xs)
    ]

same_elapses : (at later : Present) (timer : LoadedTimer) (base : ℤ) → later.local ≡ at.local → elapses_in later base timer ≡ elapses_in at base timer
same_elapses at later timer base same =
    ap (λ (zone : Zone). elapses_of_lists (record { local = zone_of zone; find = zone_named timer.zones }) base (lists_of_loaded timer.calendar)) same

pub show_goes_on : (at later : Present) (count more : ℕ) (warnings others : List (List ℕ)) (unguarded those : List UnguardedView) (timer : LoadedTimer) (view again : TimerView)
    → IsShownTimer at count warnings unguarded timer view → IsShownTimer later more others those timer again
    → later.local ≡ at.local → last_or None view.elapses ≡ Some later.now.secs
    → view.elapses ++ again.elapses ≡ take (count + more) (elapses_in at at.now.secs timer)
show_goes_on at later count more warnings others unguarded those timer view again is then same last =
    (λ i. is.elapses i ++ (then.elapses ∙ ap (take more) (same_elapses at later timer later.now.secs same)) i)
    ∙ first_then_later at timer count more at.now.secs later.now.secs (ap (last_or None) (sym is.elapses) ∙ last)
