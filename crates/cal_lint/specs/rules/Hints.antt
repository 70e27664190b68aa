-- Common mistakes in invalid calendar expressions that concern the whole text, and not one of its words:
-- systemd.time(7), Calendar Events and Parsing Time Spans.
use Rattle.std.specs.Prelude.{◌≡◌, ℕ, ◌==◌, Bool, false, true, IsTrue, ◌&&◌, ◌||◌, if◌then◌else◌, List, codes, Option, None, Some, IfSome, MatchOption, is_ok}
use Rattle.std.specs.List.{list_any}
use Rattle.std.specs.Char.{is_ascii_alphabetic}
use Rattle.std.specs.Str.{str_eq_ignore_ascii_case}
use Rattle.cal_bytes.specs.rules.Separators.{is_equals}
use Rattle.cal_span.specs.computed.SpanValue.{span_of}
use Rattle.cal_lint.specs.rules.Crontab.{is_crontab}
use Rattle.cal_lint.specs.declared.hints.Mistake.{Mistake}
use Rattle.cal_lint.specs.declared.hints.Mistake.TheVariants.{Assignment, Comment, Now, Span, Crontab, TwelveHours, Point, BareHour, ShortOffset, YearMonth, Weekday, Shorthand}

-- whether the byte begins a comment: `#` or `;`
abbrev pub is_comment_mark : ℕ → Bool
is_comment_mark b = (b == 35) || (b == 59)

-- whether the text has a letter and is a time span; a number without a unit is a span too, in seconds, but in an
-- expression it more likely stands for an hour
abbrev pub is_span : List ℕ → Bool
is_span text = list_any is_ascii_alphabetic text && is_ok (span_of text)

-- the first mistake that concerns the whole text, if there is one; the text is an invalid expression
unfoldable pub mistake_in : List ℕ → Option Mistake
mistake_in text =
    if list_any is_equals text then Some Assignment
    else (if list_any is_comment_mark text then Some Comment
    else (if str_eq_ignore_ascii_case text (codes "now") then Some Now
    else (if is_span text then Some Span
    else (if is_crontab text then Some Crontab else None))))

-- whether the mistake concerns a word, and not the whole text
abbrev pub is_of_word : Mistake → Bool
is_of_word Assignment = false
is_of_word Comment = false
is_of_word Now = false
is_of_word Span = false
is_of_word Crontab = false
is_of_word TwelveHours = true
is_of_word Point = true
is_of_word BareHour = true
is_of_word ShortOffset = true
is_of_word YearMonth = true
is_of_word Weekday = true
is_of_word Shorthand = true

-- whether `found` is the mistake that concerns the whole text or, if no mistake does, either a mistake that concerns a
-- word, or None
abbrev pub IsMistakeIn : List ℕ → Option Mistake → Type 0
IsMistakeIn text found = MatchOption (mistake_in text) (IfSome found (λ mistake. IsTrue (is_of_word mistake))) (λ mistake. found ≡ Some mistake)
