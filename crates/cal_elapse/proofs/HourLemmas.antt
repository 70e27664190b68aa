-- The matches that follow a match in its minute, or in the later minutes of its hour: which bits stand for them, how
-- many there are, and which of them a search finds.
use Rattle.std.proofs.Common.{◌≡◌, ◌∙◌, ℕ, zero, suc, ◌+◌, ◌-◌, ◌*◌, ◌/◌, ◌%◌, ◌^◌, ◌<◌, ◌≤◌, ◌&&◌, Bool, true, Some, cond, count_ones, ap, arith, inl, inr, pos, refl, sym, ◌+ℤ◌}
use Rattle.std.proofs.lemmas.Bool.{and_from, and_parts, cases_Bool, cases_lt, false_from_ne_true}
use Rattle.std.proofs.lemmas.Int.{ints}
use Rattle.cal_civil.specs.rules.LocalSecond.{seconds_in_all-is}
use Rattle.cal_spec.specs.rules.Match.{matches}
use Rattle.cal_elapse.specs.computed.Bits.{is_bit}
use Rattle.cal_elapse.specs.computed.Masks.{sets_in}
use Rattle.cal_elapse.specs.computed.RemainingMatches.{AreNext, AreRemaining, minute_matches}
use Rattle.cal_elapse.specs.computed.Ring.{IsInMinutes}
use Rattle.cal_elapse.specs.rules.ExaminedMonths.{IsSearch}
use Rattle.cal_elapse.specs.rules.Search.{IsFirstPassing, NonePasses, count_from}
use Rattle.cal_elapse.specs.declared.masks.Masks.{Masks}
use Rattle.cal_elapse.proofs.BitLemmas.{is_bit-above}
use Rattle.cal_elapse.proofs.CountLemmas.{count_from-begun, count_from-both, count_from-next, count_from-none, count_from-nothing, count_from-one, count_from-ones}
use Rattle.cal_elapse.proofs.MinuteLemmas.{match_inside, minutes_of_all, none_left, search_on}
use Rattle.cal_bytes.proofs.General.{below_end}

-- No local second between `local` and `start` passes. `minute` and `second` are the highest set bits of `minutes` and
-- `seconds`, and `last` is `minute` minutes and `second` seconds after `start`, in the hour of `local`. Up to `last`,
-- the local second that is m minutes and s seconds after `start`, where s is below 60, passes if and only if bit m of
-- `minutes` and bit s of `seconds` are set.
pub record AreInHour (passes : ℕ → Bool) (local start minutes seconds minute second last : ℕ) : Type 0 where
  pub later : local < start
  pub none : NonePasses passes (local + 1) start
  pub last_is : last ≡ start + minute * 60 + second
  pub hour : last / 3_600 ≡ local / 3_600
  pub small : second < 60
  pub minute_set : is_bit minutes minute ≡ true
  pub minute_top : minutes < 2 ^ (minute + 1)
  pub second_set : is_bit seconds second ≡ true
  pub second_top : seconds < 2 ^ (second + 1)
  pub bits_say : (a s : ℕ) → s < 60 → start + a * 60 + s ≤ last → passes (start + a * 60 + s) ≡ (is_bit minutes a && is_bit seconds s)

first_set : is_bit 1 0 ≡ true
unfolding is_bit
first_set = refl

-- `AreInHour` holds for the later matches in the minute of `local`: `bits` has one bit for each of them, and `top` is
-- the highest set bit
pub in_minute : (passes : ℕ → Bool) (local bits top : ℕ) → AreRemaining passes local bits → is_bit bits top ≡ true → bits < 2 ^ (top + 1)
    → AreInHour passes local (local + 1) 1 bits 0 top (local + 1 + top)
in_minute passes local bits top h set above =
    let same = h.unit top set in
    record {
      later = omega arith;
      none = λ t low high. absurd (omega arith);
      last_is = omega arith;
      hour = omega arith;
      small = omega arith;
      minute_set = first_set;
      minute_top = omega arith;
      second_set = set;
      second_top = above;
      bits_say = λ a s below early.
          let minute : a ≡ 0 = omega arith in
          let place : local + 1 + a * 60 + s ≡ local + 1 + s = omega arith in
          let bit : local + 1 + s - (local + 1) ≡ s = omega arith in
          ap passes place ∙ (h.passing (local + 1 + s) (omega arith) (omega arith) ∙ (ap (is_bit bits) bit ∙ rw (minute, first_set) refl));
    }

-- if no match is left in the minute of `local`, `AreInHour` holds for the matches in the later minutes of its hour:
-- `minutes` has one bit for each of these minutes, and `minute` is the highest set bit
pub in_hour : (m : Masks) (local minutes minute second : ℕ) → matches (sets_in m) local ≡ true → AreRemaining (matches (sets_in m)) local 0
    → AreRemaining (minute_matches (sets_in m)) (local / 60) minutes → is_bit minutes minute ≡ true → minutes < 2 ^ (minute + 1)
    → is_bit m.seconds second ≡ true → m.seconds < 2 ^ (second + 1)
    → AreInHour (matches (sets_in m)) local ((local / 60 + 1) * 60) minutes m.seconds minute second ((local / 60 + 1 + minute) * 60 + second)
in_hour m local minutes minute second holds none h minute_set minute_top second_set second_top =
    let count = seconds_in_all-is in
    let inside = match_inside (sets_in m) local holds in
    let small = below_end (is_bit m.seconds) 60 second m.last_second second_set in
    let same = h.unit minute minute_set in
    record {
      later = omega arith;
      none = λ t low high. none_left _ local t none (omega arith) (omega arith);
      last_is = omega arith;
      hour = omega arith;
      small = small;
      minute_set = minute_set;
      minute_top = minute_top;
      second_set = second_set;
      second_top = second_top;
      bits_say = λ a s below early.
          let number : local / 60 + 1 + a - (local / 60 + 1) ≡ a = omega arith in
          let place : (local / 60 + 1) * 60 + a * 60 + s ≡ (local / 60 + 1 + a) * 60 + s = omega arith in
          ap (matches (sets_in m)) place
          ∙ ((minutes_of_all m).split (local / 60 + 1 + a) s (omega arith) below
          ∙ ap (λ (b : Bool). b && is_bit m.seconds s) (h.passing (local / 60 + 1 + a) (omega arith) (omega arith) ∙ ap (is_bit minutes) number));
    }

at_of : (start x t : ℕ) → pos start +ℤ pos x ≡ pos t → start + x ≡ t
at_of start x t is = omega (arith, ints)

of_at : (start x t : ℕ) → start + x ≡ t → pos start +ℤ pos x ≡ pos t
of_at start x t is = omega (arith, ints)

module _ (passes : ℕ → Bool) (local start minutes seconds minute second last : ℕ) (h : AreInHour passes local start minutes seconds minute second last) where
  minute_low : (a : ℕ) → is_bit minutes a ≡ true → a < minute + 1
  minute_low a set = below_end (is_bit minutes) (minute + 1) a (λ j high. is_bit-above minutes (minute + 1) j h.minute_top high) set

  second_low : (s : ℕ) → is_bit seconds s ≡ true → s < second + 1
  second_low s set = below_end (is_bit seconds) (second + 1) s (λ j high. is_bit-above seconds (second + 1) j h.second_top high) set

  last_passes : passes last ≡ true
  last_passes =
      let end = h.last_is in
      ap passes h.last_is ∙ (h.bits_say minute second h.small (omega arith) ∙ and_from _ _ h.minute_set h.second_set)

  found_by : (a s t : ℕ) → is_bit minutes a ≡ true → is_bit seconds s ≡ true → start + (a * 60 + s) ≡ t → (t ≤ last) × (passes t ≡ true)
  found_by a s t minute_there second_there is =
      let early = minute_low a minute_there in
      let low = second_low s second_there in
      let small = h.small in
      let end = h.last_is in
      let place : t ≡ start + a * 60 + s = omega arith in
      (omega arith, ap passes place ∙ (h.bits_say a s (omega arith) (omega arith) ∙ and_from _ _ minute_there second_there))

  all_by : (t : ℕ) → local < t → t ≤ last → passes t ≡ true → IsInMinutes (pos start) minutes seconds (pos t)
  all_by t later early holds =
      let after : start ≤ t = elim (cases_lt t start) [ inl before ↦ absurd (let no = h.none t (omega arith) before in cc) | inr on ↦ on ] in
      let a : ℕ = (t - start) / 60 in
      let s : ℕ = (t - start) % 60 in
      let place : t ≡ start + a * 60 + s = omega arith in
      let both = and_parts _ _ (sym (h.bits_say a s (omega arith) (omega arith)) ∙ (sym (ap passes place) ∙ holds)) in
      record { minute = a; second = s; minute_set = both.0; second_set = both.1; is = of_at start (a * 60 + s) t (omega arith) }

  -- Let `a` be less than `minute`. Of the 60 local seconds that begin `a` minutes after `start`, as many pass as
  -- `seconds` has set bits if bit `a` of `minutes` is set, and otherwise none.
  minute_counted : (a : ℕ) → a < minute → count_from passes (start + a * 60) 60 ≡ cond (is_bit minutes a) 1 0 * count_ones seconds
  minute_counted a early =
      let small = h.small in
      let end = h.last_is in
      let says = λ (t : ℕ) (above : start + a * 60 ≤ t) (below : t < start + a * 60 + 60).
      (let s : ℕ = t - (start + a * 60) in
      let place : t ≡ start + a * 60 + s = omega arith in
      ap passes place ∙ h.bits_say a s (omega arith) (omega arith)) in
      elim (cases_Bool (is_bit minutes a)) [
        | inl set ↦
            (let length : second + 1 + (60 - (second + 1)) ≡ 60 = omega arith in
            let after = count_from-none passes (start + a * 60) (second + 1) (60 - (second + 1))
            (λ t above below. says t (omega arith) (omega arith) ∙ rw set (is_bit-above seconds (second + 1) (t - (start + a * 60)) h.second_top (omega arith))) in
            let counted = count_from-ones passes (start + a * 60) (second + 1) seconds h.second_top (λ s below. h.bits_say a s (omega arith) (omega arith) ∙ rw set refl) in
            rw set (ap (count_from passes (start + a * 60)) (sym length) ∙ (after ∙ (counted ∙ omega arith))))
        | inr clear ↦
            (let length : start + a * 60 + 60 - (start + a * 60) ≡ 60 = omega arith in
            rw clear (rw length at (count_from-begun passes (start + a * 60) (start + a * 60 + 60) (omega arith) (λ t above below. says t above below ∙ rw clear refl)) ∙ omega arith))
      ]

  minutes_counted : (n : ℕ) → n ≤ minute → count_from passes start (n * 60) ≡ count_from (is_bit minutes) 0 n * count_ones seconds
  minutes_counted zero early =
      let none : 0 * count_ones seconds ≡ 0 = omega arith in
      rw (count_from-nothing passes start 0, count_from-nothing (is_bit minutes) 0 0) (sym none)
  minutes_counted (suc n) early =
      let length : suc n * 60 ≡ n * 60 + 60 = omega arith in
      let before = minutes_counted n (omega arith) in
      let here = minute_counted n (omega arith) in
      let number : 0 + n ≡ n = omega arith in
      let one = rw number at (count_from-next (is_bit minutes) 0 n) in
      ap (count_from passes start) length ∙ (count_from-both passes start (n * 60) 60 ∙ rw one (omega arith))

  all_counted : count_from passes (local + 1) (last - local) ≡ count_ones minutes * count_ones seconds
  all_counted =
      let end = h.last_is in
      let later = h.later in
      let small = h.small in
      let ends : last - local ≡ start - (local + 1) + (minute * 60 + (second + 1)) = omega arith in
      let begun : local + 1 + (start - (local + 1)) ≡ start = omega arith in
      let gap = count_from-begun passes (local + 1) start (omega arith) h.none in
      let whole = minutes_counted minute (omega arith) in
      let part = count_from-ones passes (start + minute * 60) (second + 1) seconds h.second_top (λ s below. h.bits_say minute s (omega arith) (omega arith) ∙ rw h.minute_set refl) in
      let number : 0 + minute ≡ minute = omega arith in
      let top = count_from-one (is_bit minutes) 0 minute (ap (is_bit minutes) number ∙ h.minute_set) in
      let ones = count_from-ones (is_bit minutes) 0 (minute + 1) minutes h.minute_top (λ i below. ap (is_bit minutes) (omega arith)) in
      ap (count_from passes (local + 1)) ends
      ∙ (count_from-both passes (local + 1) (start - (local + 1)) (minute * 60 + (second + 1))
      ∙ rw (gap, begun, count_from-both passes start (minute * 60) (second + 1), whole, part, ← ones, top) (omega arith))

  -- the set bits of `minutes` and `seconds` stand for exactly the local seconds after `local` up to `last` that pass
  pub are_next : AreNext passes local start minutes seconds last
  are_next =
      let end = h.last_is in
      record {
        later = h.later;
        some = omega arith;
        hour = h.hour;
        is_match = last_passes;
        found = λ t one. found_by one.minute one.second t one.minute_set one.second_set (at_of start (one.minute * 60 + one.second) t one.is);
        all = all_by;
        counted = all_counted;
      }

-- A search that starts just after `local` examines one month, and finds the first of the matches that the bits of
-- `minutes` and `seconds` stand for. This match is `minute` minutes and `second` seconds after `start`, if these are
-- the lowest set bits of `minutes` and `seconds`.
pub search_next : (m : Masks) (local start minutes seconds last minute second : ℕ) → AreNext (matches (sets_in m)) local start minutes seconds last → IsFirstPassing (is_bit minutes) 0 64 (Some minute)
    → IsFirstPassing (is_bit seconds) 0 64 (Some second) → IsSearch (sets_in m) (local + 1) (record { local = Some (pos (start + (minute * 60 + second))); months = 1 })
search_next m local start minutes seconds last minute second next minute_first second_first =
    let passes = matches (sets_in m) in
    let t : ℕ = start + (minute * 60 + second) in
    let found = next.found t (record { minute = minute; second = second; minute_set = minute_first.2; second_set = second_first.2; is = of_at start (minute * 60 + second) t refl }) in
    let early = found.0 in
    let later = next.later in
    let hour = next.hour in
    search_on (sets_in m) local t (omega arith) (
      omega arith,
      match_inside (sets_in m) t found.1,
      found.1,
      λ u above below. false_from_ne_true _ (λ holds.
          let one = next.all u (omega arith) (omega arith) holds in
          let place = at_of start (one.minute * 60 + one.second) u one.is in
          let no_minute : one.minute < minute → ⊥ = λ low. (let clear = minute_first.3 one.minute (omega arith) low in let set = one.minute_set in cc) in
          let no_second : one.second < second → ⊥ = λ low. (let clear = second_first.3 one.second (omega arith) low in let set = one.second_set in cc) in
          omega arith),
    )
