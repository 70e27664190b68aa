-- Lemmas on the places of lines whose numbers continue from file to file, as `lint` reports them.
use Rattle.std.proofs.Common.{◌≡◌, ◌<◌, ◌≤◌, ◌^◌, ℕ, List, Option, ap, refl}
use Rattle.std.specs.Option.{unwrap_or}
use Rattle.cal_load.specs.declared.timer_files.TimerFiles.{TimerFiles}
use Rattle.cal_load.specs.rules.Position.{IsPosition}
use Rattle.cal_timers_text.proofs.PlaceLemmas.{at_no_position, at_position}
use Rattle.cal_timers_text.specs.rules.ErrorLines.{begun, place_of}
use Rattle.cal_answers.specs.rules.LintTimers as timers

-- if a line has a position, and its number in the file fits into 32 bits, `lint` reports this position
pub placed_at : (timer : List ℕ) (files : TimerFiles) (number : ℕ) (path : List ℕ) (line : ℕ)
    → IsPosition files.texts.items files.first_lines.items number path line → line < 2 ^ 32 → timers.place_in timer files number ≡ (path, line)
placed_at timer files number path line at fits =
    ap (λ place. unwrap_or place (timer, number)) (at_position files.texts.items files.first_lines.items number path line at fits)

-- if a line has no position, or only one whose number doesn't fit into 32 bits, `lint` reports the timer and the
-- continued number
pub not_placed : (timer : List ℕ) (files : TimerFiles) (number : ℕ)
    → ((path : List ℕ) (line : ℕ) → IsPosition files.texts.items files.first_lines.items number path line → 2 ^ 32 ≤ line)
    → timers.place_in timer files number ≡ (timer, number)
unfolding place_of
not_placed timer files number none =
    ap (λ (place : Option (List ℕ × ℕ)). unwrap_or place (timer, number))
    (at_no_position files.texts.items files.first_lines.items number (begun files.first_lines.items number) refl none)
