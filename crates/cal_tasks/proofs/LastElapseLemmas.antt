-- Lemmas on the search for the last elapse of a timer up to the present.
use Rattle.std.proofs.Common.{◌≡◌, ◌⊎◌, ◌↔◌, Bool, true, List, ◌∷◌, drop, inl, inr, map, slice_get, None, Option, Some, ℤ, pos, ◌<ℤ◌, ◌≤ℤ◌, arith, refl, subst, sym, ◌∙◌}
use Rattle.std.proofs.lemmas.Int.{by_lt_z, ints}
use Rattle.std.specs.List.{list_any}
use Rattle.std.specs.List.Sorted.{IsStrictlySortedBy}
use Rattle.std.specs.Ordering.{int_cmp}
use Rattle.cal_rising.proofs.RisingLemmas.{later_members}
use Rattle.cal_rising.specs.rules.Elements.{Has}
use Rattle.cal_bytes.proofs.General.{list-first}
use Rattle.cal_elapse.proofs.ElapsesLemmas.{AreElapses-elapses_except}
use Rattle.cal_elapse.specs.rules.Elapses.{IsElapse, IsElapseExcept, Timed}
use Rattle.cal_load.specs.declared.loaded.LoadedTimer.{LoadedTimer}
use Rattle.cal_load.specs.rules.CalendarZones.{expressions_in}
use Rattle.cal_plan.specs.rules.TimerElapses.{elapses_of_lists, timed_entry}
use Rattle.cal_spec.specs.rules.Fields.{Fields}
use Rattle.cal_timer.specs.rules.TimerEntries.{TimerLine}
use Rattle.cal_zone.specs.rules.Instant.{IsInstant}
use Rattle.cal_zone.specs.rules.Setting.{Setting}
use Rattle.cal_tasks.proofs.AtInstantLemmas.{any_if_elapse, at_if_elapse}
use Rattle.cal_tasks.specs.computed.AtInstant.{elapses_at, line_elapses_at}
use Rattle.cal_tasks.specs.computed.LastSearch.{IsLastAfter, IsLastUntil}
use Rattle.cal_tasks.specs.declared.present.Present.{Present}
use Rattle.cal_tasks.specs.rules.LastElapse.{IsLastElapse, IsLastOf, timed_expressions, timed_lines}
use Rattle.cal_tasks.specs.rules.LoadedElapses.{setting_for}

-- a number has been taken, and `x` is at most the last number taken
abbrev pub IsUpTo : Option ℤ → ℤ → Type 0
IsUpTo None x = ⊥
IsUpTo (Some last) x = x ≤ℤ last

-- the last number that was taken, if any, is one of `xs`, and at most `until`
abbrev pub IsTaken : ℤ → List ℤ → Option ℤ → Type 0
IsTaken until xs None = Unit {0}
IsTaken until xs (Some last) = Has xs last × (last ≤ℤ until)

-- `left` are the numbers of `xs` that have yet to be taken. The others were taken in increasing order, and `last` is
-- the last one taken.
pub record IsSearchedUpTo (until : ℤ) (xs left : List ℤ) (last : Option ℤ) : Type 0 where
  pub passed : (x : ℤ) → Has xs x → Has left x ⊎ IsUpTo last x
  pub inside : (x : ℤ) → Has left x → Has xs x
  pub above : (x y : ℤ) → Has left x → IsUpTo last y → y ≤ℤ x
  pub taken : IsTaken until xs last

pub search_begins : (until : ℤ) (xs : List ℤ) → IsSearchedUpTo until xs xs None
search_begins until xs = record { passed = λ x h. inl h; inside = λ x h. h; above = λ x y h n. absurd n; taken = tt }

searched_head : (until : ℤ) (xs : List ℤ) (last : Option ℤ) (x : ℤ) (ys : List ℤ) → IsStrictlySortedBy int_cmp (x ∷ ys) → x ≤ℤ until
    → IsSearchedUpTo until xs (x ∷ ys) last → IsSearchedUpTo until xs ys (Some x)
searched_head until xs last x ys rises low s =
    let later = later_members x ys rises in
    record {
      passed = λ z h. elim (s.passed z h) [
        | inl m ↦ elim m [ inl e ↦ inr (subst (λ (w : ℤ). w ≤ℤ x) e (omega (arith, ints))) | inr n ↦ inl n ]
        | inr u ↦ inr (s.above x z (inl refl) u)
      ];
      inside = λ z h. s.inside z (inr h);
      above = λ z w h u. (let over = ((later z).0 h).0 in omega (arith, ints));
      taken = (s.inside x (inl refl), low);
    }

-- if the first of the numbers that are left is at most `until` and is taken, `IsSearchedUpTo` still holds
pub search_goes_on : (until : ℤ) (xs left : List ℤ) (last : Option ℤ) (x : ℤ) → slice_get left 0 ≡ Some x → IsStrictlySortedBy int_cmp left → x ≤ℤ until
    → IsSearchedUpTo until xs left last → IsSearchedUpTo until xs (drop 1 left) (Some x)
search_goes_on until xs left last x first rises low s =
    let split = list-first left x first in
    searched_head until xs last x (drop 1 left) (subst (λ (l : List ℤ). IsStrictlySortedBy int_cmp l) split rises) low
    (subst (λ (l : List ℤ). IsSearchedUpTo until xs l last) split s)

-- if all numbers that are left are above `until`, the last number taken is the last one up to `until`
search_ends : (until : ℤ) (xs left : List ℤ) (last : Option ℤ) → ((y : ℤ) → Has left y → until <ℤ y) → IsSearchedUpTo until xs left last → IsLastUntil until xs last
search_ends until xs left None late s = λ y h. elim (s.passed y h) [ inl n ↦ late y n | inr u ↦ absurd u ]
search_ends until xs left (Some last) late s = (
  s.taken.0,
  s.taken.1,
  λ y h low. elim (s.passed y h) [ inl n ↦ (let over = late y n in absurd (omega (arith, ints))) | inr u ↦ u ],
)

late_head : (until x : ℤ) (ys : List ℤ) → IsStrictlySortedBy int_cmp (x ∷ ys) → until <ℤ x → (y : ℤ) → Has (x ∷ ys) y → until <ℤ y
late_head until x ys rises late y (inl e) = subst (λ (w : ℤ). until <ℤ w) e late
late_head until x ys rises late y (inr n) = let over = ((later_members x ys rises y).0 n).0 in omega (arith, ints)

pub search_ends-late : (until : ℤ) (xs left : List ℤ) (last : Option ℤ) (x : ℤ) → slice_get left 0 ≡ Some x → IsStrictlySortedBy int_cmp left → until <ℤ x
    → IsSearchedUpTo until xs left last → IsLastUntil until xs last
search_ends-late until xs left last x first rises late s =
    let split = list-first left x first in
    search_ends until xs left last
    (λ y h. late_head until x (drop 1 left) (subst (λ (l : List ℤ). IsStrictlySortedBy int_cmp l) split rises) late y (subst (λ (l : List ℤ). Has l y) split h)) s

-- a number is in the list of the elapses after `base` if and only if it is an elapse and after `base`
members_after : (at : Setting) (base : ℤ) (list except : List (TimerLine Fields)) (i : ℤ)
    → Has (elapses_of_lists at base (record { expressions = list; exceptions = except })) i ↔ ((base <ℤ i) × IsElapseExcept (map (timed_entry at) list) (map (timed_entry at) except) i)
unfolding elapses_of_lists
members_after at base list except i = (AreElapses-elapses_except (map (timed_entry at) list) (map (timed_entry at) except) base).members i

-- In the list of the elapses after `base`, the last element up to the present is the last elapse. If there is no such
-- element, there is no elapse after `base` up to the present.
last_after_base : (at : Present) (timer : LoadedTimer) (except : List (TimerLine Fields)) (base : ℤ) (last : Option ℤ) → pos 0 ≤ℤ base → IsInstant at.now.secs
    → IsLastUntil at.now.secs (elapses_of_lists (setting_for at timer) base (record { expressions = expressions_in timer.calendar; exceptions = except })) last
    → IsLastAfter at timer (timed_lines at timer except) base last
last_after_base at timer except base None low now found =
    let members = members_after (setting_for at timer) base (expressions_in timer.calendar) except in
    λ secs above p. (let over = found secs ((members secs).1 (above, p.is_elapse)) in let under = p.past in absurd (omega (arith, ints)))
last_after_base at timer except base (Some last) low now found =
    let members = members_after (setting_for at timer) base (expressions_in timer.calendar) except in
    let is = (members last).0 found.0 in
    let above = is.0 in
    let under = found.1 in
    record {
      elapsed = record {
        instant = (omega (arith, ints, now.0, now.1), omega (arith, ints, now.0, now.1));
        past = under;
        is_elapse = is.1;
      };
      last = λ other p. by_lt_z base other
          (λ lt. found.2 other ((members other).1 (lt, p.is_elapse)) p.past)
          (λ ge. omega (arith, ints));
    }

-- `last_after_base`, with other names for the setting, the expressions and the list of elapses
pub last_after_here : (at : Present) (timer : LoadedTimer) (except : List (TimerLine Fields)) (base : ℤ) (last : Option ℤ) (here : Setting) (list : List (TimerLine Fields)) (xs : List ℤ) → pos 0 ≤ℤ base → IsInstant at.now.secs
    → here ≡ setting_for at timer → list ≡ expressions_in timer.calendar
    → xs ≡ elapses_of_lists here base (record { expressions = list; exceptions = except }) → IsLastUntil at.now.secs xs last → IsLastAfter at timer (timed_lines at timer except) base last
last_after_here at timer except base last here list xs low now same these is found =
    let all : xs ≡ elapses_of_lists (setting_for at timer) base (record { expressions = expressions_in timer.calendar; exceptions = except })
    = is ∙ (λ j. elapses_of_lists (same j) base (record { expressions = these j; exceptions = except })) in
    last_after_base at timer except base last low now (subst (λ (l : List ℤ). IsLastUntil at.now.secs l last) all found)

-- Suppose that there is no elapse after 0, the first of all instants. If 0 is an elapse, it is the last elapse;
-- otherwise there is none (`none_at_first`).
pub last_at_first : (at : Present) (timer : LoadedTimer) (exceptions : List Timed) (first : ℤ) → first ≡ pos 0 → IsInstant at.now.secs → IsLastAfter at timer exceptions first None
    → IsElapseExcept (timed_expressions at timer) exceptions first → IsLastElapse at timer exceptions first
last_at_first at timer exceptions first zero now none is =
    record {
      elapsed = record {
        instant = (omega (arith, ints, zero), omega (arith, ints, zero));
        past = (let low = now.0 in omega (arith, ints, zero));
        is_elapse = is;
      };
      last = λ other p. by_lt_z first other (λ lt. absurd (none other lt p)) (λ ge. ge);
    }

at_or_below_first : (first i : ℤ) → first ≡ pos 0 → pos 0 ≤ℤ i → i ≤ℤ first → i ≡ first
at_or_below_first first i zero low high = omega (arith, ints)

pub none_at_first : (at : Present) (timer : LoadedTimer) (exceptions : List Timed) (first : ℤ) → first ≡ pos 0 → IsLastAfter at timer exceptions first None
    → (IsElapseExcept (timed_expressions at timer) exceptions first → ⊥) → IsLastOf at timer exceptions None
none_at_first at timer exceptions first zero none is_not =
    λ secs p. by_lt_z first secs (λ lt. none secs lt p)
    (λ ge. is_not (subst (λ (i : ℤ). IsElapseExcept (timed_expressions at timer) exceptions i) (at_or_below_first first secs zero p.instant.0 ge) p.is_elapse))

-- `any_if_elapse`, with other names for the setting and the lines
pub any_here : (at here : Setting) (secs : ℤ) (these list : List (TimerLine Fields)) (any : Bool) → here ≡ at → these ≡ list
    → any ≡ list_any (line_elapses_at here secs) these → (any ≡ true) ↔ IsElapse (map (timed_entry at) list) secs
any_here at here secs these list any same is tested =
    let all : any ≡ list_any (line_elapses_at at secs) list = tested ∙ (λ j. list_any (line_elapses_at (same j) secs) (is j)) in
    let found = any_if_elapse at secs list in
    (λ h. found.0 (sym all ∙ h), λ e. all ∙ found.1 e)

-- `at_if_elapse`, with other names for the setting and the expressions
pub elapses_here : (at here : Setting) (secs : ℤ) (these list except : List (TimerLine Fields)) (elapses : Bool) → here ≡ at → these ≡ list
    → elapses ≡ elapses_at here secs (record { expressions = these; exceptions = except })
    → (elapses ≡ true) ↔ IsElapseExcept (map (timed_entry at) list) (map (timed_entry at) except) secs
elapses_here at here secs these list except elapses same is tested =
    let all : elapses ≡ elapses_at at secs (record { expressions = list; exceptions = except })
    = tested ∙ (λ j. elapses_at (same j) secs (record { expressions = is j; exceptions = except })) in
    let found = at_if_elapse at secs (record { expressions = list; exceptions = except }) in
    (λ h. found.0 (sym all ∙ h), λ e. all ∙ found.1 e)
