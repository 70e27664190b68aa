-- How to continue a report that was cut off. The definitions say which elapses have a complete first line in a prefix
-- of the report, and which request shows the remaining elapses (systemd-analyze(1), calendar, --iterations= and
-- --base-time=; systemd.timer(5), OnCalendar=).
use Rattle.std.specs.Prelude.{◌≡◌, ◌↔◌, ◌≤◌, ◌<◌, ◌+◌, ◌-◌, ◌++◌, ℕ, zero, suc, ℤ, List, [], ◌∷◌, Option, None, Some, Result, Ok, take, drop, length, slice_get, codes, option_map}
use Rattle.std.specs.List.{AllZip, filter_map, flat_map}
use Rattle.cal_bytes.specs.declared.whole.WholeFault.{WholeFault}
use Rattle.cal_zone.specs.rules.InstantText.{instant_text}
use Rattle.cal_report.specs.rules.ElapseLines.{elapse_texts, elapses_text, label_text}
use Rattle.cal_report.specs.rules.Headline.{AreElapsesOf, Expression, IsAccepted, IsRejected, Schedule, alone, base_text, headings}
use Rattle.cal_report.specs.rules.RunReport.{report}
use Rattle.cal_report.specs.rules.BaseTime.{IsBase}
use Rattle.cal_request.specs.rules.Request.{Request}

-- `shown` are the elapses that a report shows: the first `asked.iterations` after the base time
pub record AreShown (asked : Request) (base : ℤ) (s : Schedule) (shown : List ℤ) : Type 0 where
  pub elapses : List ℤ
  pub these : AreElapsesOf s base elapses
  pub first : shown ≡ take asked.iterations elapses

-- the report that shows these elapses: the headings, and then the elapses with labels that count from 1, or `never` if
-- there are none
abbrev pub showing : Request → Schedule → List ℤ → List ℕ
showing asked s shown = headings s ++ elapses_text asked.local asked.now shown

-- the report up to the end of the first line of `elapse`, including the line feed; `before` are the elapses shown
-- before `elapse`
abbrev pub up_to_line : Request → Schedule → List ℤ → ℤ → List ℕ
up_to_line asked s before elapse =
    headings s ++ (elapse_texts asked.local asked.now 1 before ++ (label_text (length before + 1) ++ (instant_text asked.local elapse ++ codes "\n")))

pub record Begins (text lead : List ℕ) : Type 0 where
  pub rest : List ℕ
  pub is : text ≡ lead ++ rest

-- Exactly the first `k` of the elapses shown have a complete first line in the prefix `front`.
pub record Stand (asked : Request) (s : Schedule) (shown : List ℤ) (front : List ℕ) (k : ℕ) : Type 0 where
  pub few : k ≤ length shown
  pub whole : (before : List ℤ) (elapse : ℤ) (after : List ℤ) → shown ≡ before ++ (elapse ∷ after)
      → Begins front (up_to_line asked s before elapse) ↔ (length before < k)

-- `from` is the base time of the next run: the `k`-th of the elapses shown, or the old base time if `k` is 0
abbrev pub IsBaseAfter : ℤ → List ℤ → ℕ → ℤ → Type 0
IsBaseAfter base shown zero from = from ≡ base
IsBaseAfter base shown (suc before) from = slice_get shown before ≡ Some from

-- `again` is a request that continues `asked` after the first `k` elapses shown: its base time is the `k`-th of the
-- elapses shown, or the old base time if `k` is 0, and it asks for `k` fewer elapses.
pub record IsBegunAgain (asked : Request) (base : ℤ) (shown : List ℤ) (k : ℕ) (again : Request) : Type 0 where
  pub verb : again.verb ≡ asked.verb
  pub texts : again.texts ≡ asked.texts
  pub now : again.now ≡ asked.now
  pub local : again.local ≡ asked.local
  pub zones : again.zones ≡ asked.zones
  pub count : k + again.iterations ≡ asked.iterations
  pub from : ℤ
  pub sought : IsBase again from
  pub after : IsBaseAfter base shown k from

-- the base time of the next run as a user writes it: `@` and the seconds of the `k`-th of the elapses shown, or the old
-- base time if `k` is 0
abbrev pub base_after : Option (List ℕ) → List ℤ → ℕ → Option (List ℕ)
base_after base shown zero = base
base_after base shown (suc before) = option_map base_text (slice_get shown before)

-- the request that continues `asked` after the first `k` elapses shown, and asks for `k` fewer elapses
abbrev pub begun_again : Request → List ℤ → ℕ → Request
begun_again asked shown k = record asked { iterations = asked.iterations - k; base = base_after asked.base shown k }

-- How to continue a prefix `front` of the report. Exactly the first `number` elapses have a complete first line in
-- `front`; the prefix determines this number. Every request that continues after these elapses shows exactly the
-- remaining ones.
pub record Resumes (asked : Request) (base : ℤ) (s : Schedule) (read : Result (List ℕ) WholeFault) (front : List ℕ) : Type 0 where
  pub shown : List ℤ
  pub these : AreShown asked base s shown
  pub printed : (report asked read).out ≡ showing asked s shown
  pub number : ℕ
  pub stand : Stand asked s shown front number
  pub only : (k : ℕ) → Stand asked s shown front k → k ≡ number
  pub others : (again : Request) → IsBegunAgain asked base shown number again
      → (report again read).out ≡ showing asked s (drop number shown)

-- the text is rejected (`None`), or it is the text of this accepted expression (`Some`)
abbrev pub IsReadAs : Request → List ℕ → Option Expression → Type 0
IsReadAs asked text None = IsRejected asked text
IsReadAs asked text (Some e) = (text ≡ e.text) × IsAccepted asked e

-- `es` are the expressions of the accepted texts, in order. Every other text is rejected.
pub record AreAcceptedAmong (asked : Request) (texts : List (List ℕ)) (es : List Expression) : Type 0 where
  pub found : List (Option Expression)
  pub each : AllZip (IsReadAs asked) texts found
  pub kept : es ≡ filter_map (λ it. it) found

-- the request `asked` with this as its only text
abbrev pub for_text : Request → List ℕ → Request
for_text asked text = record asked { texts = text ∷ [] }

-- the standard output of the request `asked` with this expression as its only text
abbrev pub report_of_one : Request → Result (List ℕ) WholeFault → Expression → List ℕ
report_of_one asked read e = (report (for_text asked e.text) read).out

-- How to continue a prefix `front` of the reports of several expressions. The prefix consists of the complete reports
-- of the expressions in `before`, each followed by an empty line, and of a prefix `last` of the report of `e`. To
-- continue `last`, proceed as if `e` had been the only text.
pub record ResumesAmong (asked : Request) (base : ℤ) (es : List Expression) (read : Result (List ℕ) WholeFault) (front : List ℕ) : Type 0 where
  pub before : List Expression
  pub e : Expression
  pub after : List Expression
  pub texts : es ≡ before ++ (e ∷ after)
  pub last : List ℕ
  pub rest : List ℕ
  pub layout : front ≡ flat_map (λ d. report_of_one asked read d ++ codes "\n") before ++ last
  pub begins : report_of_one asked read e ≡ last ++ rest
  pub resumes : Resumes (for_text asked e.text) base (alone e) read last
