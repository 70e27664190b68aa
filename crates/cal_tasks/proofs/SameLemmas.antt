-- Lemmas on the difference of two timers: it is empty if and only if their elapses are the same.
use Rattle.std.proofs.Common.{◌≡◌, ◌↔◌, Bool, true, false, List, [], None, ℤ, map, refl, sym, subst, true≢false, ◌∙◌}
use Rattle.std.specs.List.Sorted.{IsStrictlySortedBy}
use Rattle.std.specs.Ordering.{int_cmp, int_eq}
use Rattle.std.specs.Set.{is_member}
use Rattle.cal_bytes.proofs.General.{list-no_first}
use Rattle.cal_rising.specs.rules.Elements.{Has}
use Rattle.cal_rising.specs.rules.RisingList.{without}
use Rattle.cal_rising.proofs.RisingLemmas.{same_rising}
use Rattle.cal_rising.proofs.WithoutLemmas.{Has-is_member, Has-without, is_member-Has}
use Rattle.cal_elapse.proofs.ElapsesLemmas.{AreElapses-elapses_except, first-none}
use Rattle.cal_load.specs.declared.loaded.LoadedTimer.{LoadedTimer}
use Rattle.cal_plan.specs.rules.TimerElapses.{elapses_of_lists, timed_entry}
use Rattle.cal_tasks.specs.declared.present.Present.{Present}
use Rattle.cal_tasks.specs.rules.Difference.{first_only_in}
use Rattle.cal_tasks.specs.rules.LoadedElapses.{elapses_in, lists_of_loaded, setting_for}
use Rattle.cal_tasks.specs.rules.SameReport.{side_of}

-- if no number is in `xs` but not in `ys`, all numbers of `xs` are in `ys`
member_of : (xs ys : List ℤ) (i : ℤ) (there : Bool) → is_member int_eq ys i ≡ there → without xs ys ≡ [] → Has xs i → Has ys i
member_of xs ys i true is none here = Has-is_member ys i is
member_of xs ys i false is none here =
    absurd (subst (λ (zs : List ℤ). Has zs i) none ((Has-without xs ys i).1 (here, λ other. true≢false (sym (is_member-Has ys i other) ∙ is))))

all_members : (xs ys : List ℤ) → first_only_in xs ys ≡ None → (i : ℤ) → Has xs i → Has ys i
all_members xs ys none i = member_of xs ys i (is_member int_eq ys i) refl (list-no_first (without xs ys) none)

none_only : (xs ys : List ℤ) → xs ≡ ys → first_only_in xs ys ≡ None
none_only xs ys same =
    first-none (without xs ys) (λ i there. ((Has-without xs ys i).0 there).1 (subst (λ (zs : List ℤ). Has zs i) same ((Has-without xs ys i).0 there).0))

-- the elapses of a timer after a base are strictly increasing
pub rising : (at : Present) (base : ℤ) (timer : LoadedTimer) → IsStrictlySortedBy int_cmp (elapses_in at base timer)
unfolding elapses_of_lists
rising at base timer =
    let lists = lists_of_loaded timer.calendar in
    (AreElapses-elapses_except (map (timed_entry (setting_for at timer)) lists.expressions) (map (timed_entry (setting_for at timer)) lists.exceptions) base).rises

pub no_difference : (at : Present) (one other : LoadedTimer)
    → (((side_of at one other).only ≡ None) × ((side_of at other one).only ≡ None)) ↔ (elapses_in at at.now.secs one ≡ elapses_in at at.now.secs other)
no_difference at one other =
    let xs = elapses_in at at.now.secs one in
    let ys = elapses_in at at.now.secs other in (
      λ none. same_rising xs ys (rising at at.now.secs one) (rising at at.now.secs other) (λ i. (all_members xs ys none.0 i, all_members ys xs none.1 i)),
      λ same. (none_only xs ys same, none_only ys xs (sym same)),
    )
