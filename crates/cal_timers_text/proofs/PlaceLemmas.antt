-- Lemmas on the places of lines whose numbers continue from file to file.
use Rattle.std.proofs.Common.{◌≡◌, ◌∙◌, ◌+◌, ◌-◌, ◌<◌, ◌≤◌, ◌^◌, ℕ, Bor, List, Option, None, Some, true, false, ap, arith, get_or, length, refl, reverse, string_bytes, sym, suc, zero}
use Rattle.std.proofs.lemmas.Bool.Decides.{nat_tests}
use Rattle.std.proofs.lemmas.List.{get_or-reverse, length-reverse}
use Rattle.std.proofs.lemmas.List.Sums.{prefix_len_stops, suffix_len_is}
use Rattle.std.specs.List.{suffix_len}
use Rattle.std.specs.Option.{option_and_then, unwrap_or}
use Rattle.std.specs.Prelude.{MatchOption, if◌then◌else◌, nat_lt, slice_get, slice_index}
use Rattle.cal_bytes.proofs.General.{in_suffix}
use Rattle.cal_load.specs.declared.timer_files.TimerFiles.{TimerFiles}
use Rattle.cal_load.specs.rules.Position.{IsLastUntil, IsPosition}
use Rattle.cal_unit_index.specs.declared.files.UnitText.{UnitText}
use Rattle.cal_timers_text.specs.rules.ErrorLines.{begun, place_at, place_in, place_of, place_text, position_text}

is_below : (number first : ℕ) → number < first → nat_lt number first ≡ true
is_below number first h = grind (arith, nat_tests)

is_not_below : (number first : ℕ) → first ≤ number → nat_lt number first ≡ false
is_not_below number first h = grind (arith, nat_tests)

below : (number first : ℕ) → nat_lt number first ≡ true → number < first
below number first h = grind (arith, nat_tests)

not_below : (number first : ℕ) → nat_lt number first ≡ false → first ≤ number
not_below number first h = grind (arith, nat_tests)

-- if the file at `index` is the last one that begins at or before a line, `begun` returns `index` + 1
begun_until : (first_lines : List ℕ) (number index : ℕ) → IsLastUntil first_lines number index → begun first_lines number ≡ suc index
begun_until first_lines number index h =
    let within : index < length first_lines = h.0 in
    let same : index + 1 - 1 ≡ index = omega arith in
    let begins : nat_lt number (get_or first_lines (index + 1 - 1) 0) ≡ false =
    ap (λ i. nat_lt number (get_or first_lines i 0)) same ∙ is_not_below number (get_or first_lines index 0) h.1 in
    let after = suffix_len_is (nat_lt number) first_lines (index + 1) 0 (omega arith)
    (λ k above under. is_below number (get_or first_lines k 0) (h.2 k (omega arith) under)) (λ _. begins) in
    omega (arith, after)

-- if `begun` returns `index` + 1, the file at `index` is the last one that begins at or before the line
last_begun : (first_lines : List ℕ) (number index : ℕ) → begun first_lines number ≡ suc index → IsLastUntil first_lines number index
last_begun first_lines number index h =
    let n = suffix_len (nat_lt number) first_lines in
    let count : length first_lines - suffix_len (nat_lt number) first_lines ≡ suc index = h in
    let within : n < length first_lines = omega (arith, count) in
    let there : n < length (reverse first_lines) = omega (arith, length-reverse first_lines, within) in
    let here : length first_lines - 1 - n ≡ index = omega (arith, count) in
    let stops : nat_lt number (get_or first_lines index 0) ≡ false =
    rw (← here, ← get_or-reverse first_lines n 0 within) (prefix_len_stops (nat_lt number) (reverse first_lines) 0 there) in (
      omega (arith, count),
      not_below number (get_or first_lines index 0) stops,
      λ k above under. below number (get_or first_lines k 0) (in_suffix (nat_lt number) first_lines k 0 (omega (arith, count)) under),
    )

-- if a line has a position, and its number in the file fits into 32 bits, then `place_of` returns this position
pub at_position : (files : List UnitText) (first_lines : List ℕ) (number : ℕ) (path : List ℕ) (line : ℕ)
    → IsPosition files first_lines number path line → line < 2 ^ 32 → place_of files first_lines number ≡ Some (path, line)
unfolding place_of
at_position files first_lines number path line h fits =
    let count : begun first_lines number ≡ suc h.index = begun_until first_lines number h.index h.is_last in
    let same : number + 1 - slice_index first_lines h.index ≡ line = omega (arith, h.counted) in
    ap (place_at files first_lines number) count
    ∙ ap (λ n. option_and_then (place_in n) (slice_get files h.index)) same
    ∙ ap (λ file. option_and_then (place_in line) file) h.is_at
    ∙ ap (λ b. if b then Some (string_bytes h.file.path, line) else None) (is_below line (2 ^ 32) fits)
    ∙ ap (λ (text : List ℕ). Some (text, line)) (sym h.has_path)

in_no_file : (files : List UnitText) (first_lines : List ℕ) (number index : ℕ) (file : Option UnitText)
    → slice_get files index ≡ file → IsLastUntil first_lines number index
    → ((path : List ℕ) (line : ℕ) → IsPosition files first_lines number path line → 2 ^ 32 ≤ line)
    → option_and_then (place_in (number + 1 - slice_index first_lines index)) file ≡ None
in_no_file files first_lines number index None at last none = refl
in_no_file files first_lines number index (Some file) at last none =
    let line = number + 1 - slice_index first_lines index in
    let counted : slice_index first_lines index + line ≡ number + 1 = omega (arith, last.1) in
    let far : 2 ^ 32 ≤ line =
    none (string_bytes file.path) line (record { index = index; file = file; is_at = at; has_path = refl; is_last = last; counted = counted }) in
    ap (λ b. if b then Some (string_bytes file.path, line) else None) (is_not_below line (2 ^ 32) far)

pub at_no_position : (files : List UnitText) (first_lines : List ℕ) (number count : ℕ) → begun first_lines number ≡ count
    → ((path : List ℕ) (line : ℕ) → IsPosition files first_lines number path line → 2 ^ 32 ≤ line)
    → place_at files first_lines number count ≡ None
at_no_position files first_lines number zero h none = refl
at_no_position files first_lines number (suc index) h none =
    in_no_file files first_lines number index (slice_get files index) refl (last_begun first_lines number index h) none

-- printing what `position` returns for a line, or else the timer and the continued number, yields `place_text`
pub place_is : (timer : Bor (List ℕ)) (files : TimerFiles) (number : ℕ) (found : Option (Bor (List ℕ) × ℕ)) (place : Bor (List ℕ) × ℕ)
    → place ≡ unwrap_or found (timer, number)
    → MatchOption found
    ((path : List ℕ) (line : ℕ) → IsPosition files.texts.items files.first_lines.items number path line → 2 ^ 32 ≤ line)
    (λ position. IsPosition files.texts.items files.first_lines.items number position.0.now position.1)
    → place.1 < 2 ^ 32
    → position_text place.0.now place.1 ≡ place_text timer.now files number
unfolding place_text place_of
place_is timer files number None place e h fits =
    rw e (sym (ap (λ (o : Option (List ℕ × ℕ)). position_text (unwrap_or o (timer.now, number)).0 (unwrap_or o (timer.now, number)).1)
    (at_no_position files.texts.items files.first_lines.items number (begun files.first_lines.items number) refl h)))
place_is timer files number (Some position) place e h fits =
    let small : position.1 < 2 ^ 32 = rw e at fits in
    rw e (sym (ap (λ (o : Option (List ℕ × ℕ)). position_text (unwrap_or o (timer.now, number)).0 (unwrap_or o (timer.now, number)).1)
    (at_position files.texts.items files.first_lines.items number position.0.now position.1 h small)))
