-- Lemmas on the test whether a timer elapses at an instant, and on the list of elapses that begins with this instant.
use Rattle.std.proofs.Common.{◌≡◌, ◌↔◌, ◌⊎◌, Bool, true, false, cond, List, [], ◌∷◌, ◌++◌, ◌||◌, ◌&&◌, not, inl, inr, ℕ, None, Some, ℤ, pos, negsuc, unsigned_abs, ◌<ℤ◌, ◌≤ℤ◌, ◌-ℤ◌, arith, map, refl, sym, ap, subst, ◌∙◌}
use Rattle.std.proofs.lemmas.Bool.{false≢true}
use Rattle.std.proofs.lemmas.Int.{by_lt_z, ints}
use Rattle.std.specs.Cmp.{both_ways, int_cmp_is}
use Rattle.std.specs.List.{list_any}
use Rattle.std.specs.List.Sorted.{IsStrictlySortedBy}
use Rattle.std.specs.Ordering.{int_cmp, int_eq}
use Rattle.std.specs.Set.{is_member}
use Rattle.std.specs.declared.cmp.Ordering.TheVariants.{Less}
use Rattle.cal_rising.proofs.OrderLemmas.{all_from}
use Rattle.cal_rising.proofs.WithoutLemmas.{Has-is_member, is_member-Has}
use Rattle.cal_rising.specs.rules.Elements.{Has}
use Rattle.cal_elapse.proofs.ElapsesLemmas.{AreElapses-elapses_except, AreElapses-only, Has-places}
use Rattle.cal_elapse.specs.rules.Elapses.{AreAbove, IsElapse, IsElapseExcept, IsPlace, Timed, timed}
use Rattle.cal_elapse.specs.rules.ElapsesAfter.{elapses_except, places}
use Rattle.cal_civil.specs.rules.LocalSecond.{IsLocalSecond, seconds_in_all-is}
use Rattle.cal_elapse.specs.computed.Masks.{sets_in}
use Rattle.cal_elapse.specs.computed.Window.{timed_by}
use Rattle.cal_elapse.specs.declared.masks.Masks.{Masks}
use Rattle.cal_elapse.specs.rules.Search.{IsFirstLocal}
use Rattle.cal_spec.specs.rules.Match.{matches}
use Rattle.cal_spec.specs.rules.Members.{sets_of}
use Rattle.cal_zone.specs.declared.zone.Zone.{Zone}
use Rattle.cal_zone.specs.rules.Place.{place_of}
use Rattle.cal_zone.specs.rules.Zone.{zone_of}
use Rattle.jiff.specs.Types.{TimeZone}
use Rattle.cal_plan.specs.rules.TimerElapses.{elapses_of_lists, timed_entry}
use Rattle.cal_spec.specs.rules.Fields.{Fields}
use Rattle.cal_timer.specs.rules.TimerEntries.{Timer, TimerLine}
use Rattle.cal_zone.specs.rules.Setting.{Setting}
use Rattle.cal_tasks.specs.computed.AtInstant.{elapses_at, line_elapses_at}

-- an instant is in the elapse set of an expression if and only if it is the place of a matching local second
pub member_if_place : (e : Timed) (i : ℤ) (b : Bool) → (b ≡ true) ↔ IsPlace e i → b ≡ is_member int_eq (places e) i
member_if_place e i b h =
    both_ways b (is_member int_eq (places e) i)
    (λ t. is_member-Has (places e) i ((Has-places e i).1 (h.0 t)))
    (λ t. h.1 ((Has-places e i).0 (Has-is_member (places e) i t)))

place_if_member : (e : Timed) (i : ℤ) → (is_member int_eq (places e) i ≡ true) ↔ IsPlace e i
place_if_member e i = (
  λ t. (Has-places e i).0 (Has-is_member (places e) i t),
  λ p. is_member-Has (places e) i ((Has-places e i).1 p),
)

-- if masks match the same values as the fields of an expression, they have the same matches and places in the same zone
pub same_timed : (masks : Masks) (zone : Zone) (fields : Fields) (tz : TimeZone) → sets_in masks ≡ sets_of fields → zone_of zone ≡ tz → timed_by masks zone ≡ timed fields tz
unfolding timed_by timed
same_timed masks zone fields tz sets is = λ j. record { matches = matches (sets j); place = λ local. place_of (is j) (pos local) }

-- Let `first` be the first local second from `local` on that passes. Then `local` passes if and only if it is `first`.
pub match_here : (passes : ℕ → Bool) (local first : ℤ) (here : Bool) → pos 0 ≤ℤ local → (here ≡ true → first ≡ local) → (first ≡ local → here ≡ true) → IsFirstLocal passes local (Some first) → here ≡ passes (unsigned_abs local)
match_here passes (pos n) first here low is_same same (least, below, at, before) =
    both_ways here (passes n)
    (λ t. subst (λ (x : ℤ). passes (unsigned_abs x) ≡ true) (is_same t) at)
    (λ m. same (by_lt_z (pos n) first
    (λ lt. absurd (false≢true (sym (before n (omega (arith, ints)) lt) ∙ m)))
    (λ ge. omega (arith, ints))))
match_here passes (negsuc n) first here low is_same same found = absurd (omega (arith, ints))

pub no_match_here : (passes : ℕ → Bool) (local : ℤ) → IsLocalSecond local → IsFirstLocal passes local None → false ≡ passes (unsigned_abs local)
no_match_here passes (pos n) inside none = sym (none n (omega (arith, ints)) (let count = seconds_in_all-is in omega (arith, ints, inside.0, inside.1)))
no_match_here passes (negsuc n) inside none = absurd (omega (arith, ints, inside.0))

any_more : (P Q : Type 0) (one more : Bool) → (one ≡ true) ↔ P → (more ≡ true) ↔ Q → ((one || more) ≡ true) ↔ (P ⊎ Q)
any_more P Q true more one_is more_is = (λ h. inl (one_is.0 refl), λ h. refl)
any_more P Q false more one_is more_is = (
  λ h. inr (more_is.0 h),
  λ h. elim h [ inl p ↦ absurd (false≢true (one_is.1 p)) | inr q ↦ more_is.1 q ],
)

-- the test `line_elapses_at` succeeds for at least one expression if and only if the instant is an elapse of one of the
-- expressions
pub any_if_elapse : (at : Setting) (secs : ℤ) (list : List (TimerLine Fields)) → (list_any (line_elapses_at at secs) list ≡ true) ↔ IsElapse (map (timed_entry at) list) secs
any_if_elapse at secs [] = (λ h. absurd (false≢true h), λ n. absurd n)
any_if_elapse at secs (line ∷ list) =
    any_more (IsPlace (timed_entry at line) secs) (IsElapse (map (timed_entry at) list) secs) (line_elapses_at at secs line) (list_any (line_elapses_at at secs) list)
    (place_if_member (timed_entry at line) secs) (any_if_elapse at secs list)

both_if : (P Q : Type 0) (one other : Bool) → (one ≡ true) ↔ P → (other ≡ true) ↔ Q → ((one && not other) ≡ true) ↔ (P × (Q → ⊥))
both_if P Q false other one_is other_is = (λ h. absurd (false≢true h), λ h. absurd (false≢true (one_is.1 h.0)))
both_if P Q true true one_is other_is = (λ h. absurd (false≢true h), λ h. absurd (h.1 (other_is.0 refl)))
both_if P Q true false one_is other_is = (λ h. (one_is.0 refl, λ q. false≢true (other_is.1 q)), λ h. refl)

-- `elapses_at` is `true` if and only if the instant is an elapse of an expression, and not of an exception
pub at_if_elapse : (at : Setting) (secs : ℤ) (lists : Timer Fields)
    → (elapses_at at secs lists ≡ true) ↔ IsElapseExcept (map (timed_entry at) lists.expressions) (map (timed_entry at) lists.exceptions) secs
at_if_elapse at secs lists =
    both_if (IsElapse (map (timed_entry at) lists.expressions) secs) (IsElapse (map (timed_entry at) lists.exceptions) secs)
    (list_any (line_elapses_at at secs) lists.expressions) (list_any (line_elapses_at at secs) lists.exceptions)
    (any_if_elapse at secs lists.expressions) (any_if_elapse at secs lists.exceptions)

-- a number after `b - 1` is `b`, or it is after `b`
at_or_after : (b i : ℤ) → (b -ℤ pos 1) <ℤ i → (b ≡ i) ⊎ (b <ℤ i)
at_or_after b i low = by_lt_z b i (λ lt. inr lt) (λ ge. inl (omega (arith, ints)))

-- a strictly increasing list with a smaller number in front of it is strictly increasing
rises_with : (b : ℤ) (ys : List ℤ) → IsStrictlySortedBy int_cmp ys → ((i : ℤ) → Has ys i → b <ℤ i) → IsStrictlySortedBy int_cmp (b ∷ ys)
unfolding IsStrictlySortedBy
rises_with b ys h above = (all_from (λ (y : ℤ). int_cmp b y ≡ Less) ys (λ y m. sym (int_cmp_is b y Less (above y m))), h)

-- Let `ys` be the list of the numbers after `b` that satisfy `Holds`. With `b` in front of it if `b` satisfies `Holds`,
-- `ys` becomes the list of the numbers after `b - 1` that satisfy `Holds`.
with_base : (Holds : ℤ → Type 0) (b : ℤ) (here : Bool) (ys : List ℤ) → (here ≡ true) ↔ Holds b → AreAbove Holds b ys → AreAbove Holds (b -ℤ pos 1) (cond here (b ∷ []) [] ++ ys)
with_base Holds b true ys is all = record {
  rises = rises_with b ys all.rises (λ i m. ((all.members i).0 m).0);
  members = λ i. (
    λ m. elim m [
      | inl e ↦ (subst (λ (x : ℤ). (b -ℤ pos 1) <ℤ x) e (omega (arith, ints)), subst Holds e (is.0 refl))
      | inr n ↦ (let over = ((all.members i).0 n).0 in omega (arith, ints), ((all.members i).0 n).1)
    ],
    λ p. elim (at_or_after b i p.0) [ inl e ↦ inl e | inr over ↦ inr ((all.members i).1 (over, p.1)) ],
  );
}
with_base Holds b false ys is all = record {
  rises = all.rises;
  members = λ i. (
    λ m. (let over = ((all.members i).0 m).0 in omega (arith, ints), ((all.members i).0 m).1),
    λ p. elim (at_or_after b i p.0) [ inl e ↦ absurd (false≢true (is.1 (subst Holds (sym e) p.1))) | inr over ↦ (all.members i).1 (over, p.1) ],
  );
}

-- the elapses from an instant on are the elapse at this instant, if the timer elapses then, and the elapses after it
pub elapses_from : (at : Setting) (secs : ℤ) (lists : Timer Fields)
    → elapses_of_lists at (secs -ℤ pos 1) lists ≡ cond (elapses_at at secs lists) (secs ∷ []) [] ++ elapses_of_lists at secs lists
unfolding elapses_of_lists
elapses_from at secs lists =
    let es = map (timed_entry at) lists.expressions in
    let exceptions = map (timed_entry at) lists.exceptions in
    sym (AreElapses-only es exceptions (secs -ℤ pos 1) (cond (elapses_at at secs lists) (secs ∷ []) [] ++ elapses_except es exceptions secs)
    (with_base (IsElapseExcept es exceptions) secs (elapses_at at secs lists) (elapses_except es exceptions secs) (at_if_elapse at secs lists) (AreElapses-elapses_except es exceptions secs)))

-- `elapses_from`, with other names for the setting, the expressions, the exceptions and the result of the test
pub elapses_from_here : (at here : Setting) (secs : ℤ) (lists : Timer Fields) (es exceptions : List (TimerLine Fields)) (starts : Bool) → here ≡ at → es ≡ lists.expressions → exceptions ≡ lists.exceptions
    → starts ≡ elapses_at here secs (record { expressions = es; exceptions = exceptions }) → elapses_of_lists at (secs -ℤ pos 1) lists ≡ cond starts (secs ∷ []) [] ++ elapses_of_lists at secs lists
elapses_from_here at here secs lists es exceptions starts same these those is =
    let elapses : starts ≡ elapses_at at secs lists = is ∙ (λ j. elapses_at (same j) secs (record { expressions = these j; exceptions = those j })) in
    elapses_from at secs lists ∙ ap (λ (b : Bool). cond b (secs ∷ []) [] ++ elapses_of_lists at secs lists) (sym elapses)
