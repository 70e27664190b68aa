-- Lemmas for the law `cut_output_resumes`, about one report: how many elapses have a complete first line in a prefix of
-- the report, and what a request that continues after these elapses shows. A law is the contract of a function that
-- does nothing.
use Rattle.std.proofs.Common.{◌≡◌, ◌↔◌, ◌≤◌, ◌<◌, ◌+◌, ◌++◌, ◌∙◌, ℕ, zero, suc, ℤ, Bool, true, false, List, [], ◌∷◌, Option, None, Some, Result, Ok, Err, map, take, drop, length, codes, nat_le, refl, sym, ap, subst, arith, append-nil, append_assoc, length-append}
use Rattle.std.proofs.Math.Seq.{take-append_seam}
use Rattle.std.proofs.lemmas.Bool.Decides.{nat_tests}
use Rattle.std.proofs.lemmas.List.{drop-take, take-append-drop, take-append-le}
use Rattle.std.specs.Io.KnownBytes.{Appends}
use Rattle.std.specs.List.{AllByRecursion, AllZip, join_by}
use Rattle.jiff.specs.Types.{TimeZone}
use Rattle.cal_bytes.proofs.General.{slice_get-take}
use Rattle.cal_bytes.specs.rules.Writes.{AppendsFront, Writes}
use Rattle.cal_bytes.specs.declared.whole.WholeFault.{WholeFault}
use Rattle.cal_zone.specs.rules.InstantText.{instant_text}
use Rattle.cal_zone.specs.declared.zone.Zone.{Zone}
use Rattle.cal_elapse.specs.rules.Elapses.{AreElapses, Timed}
use Rattle.cal_report.specs.rules.ElapseLines.{elapse_text, elapse_texts, elapses_text, label_text}
use Rattle.cal_spec.specs.rules.ZoneSuffix.{ZoneSuffix, of_name, at_offset}
use Rattle.cal_report.specs.rules.Headline.{AreAllAccepted, AreReportsOf, Expression, IsAccepted, IsFileOf, IsReportOf, IsZoneFor, Schedule, alone, headings, meaning}
use Rattle.cal_report.specs.rules.RunReport.{ByReading, IsReported, base_in, report}
use Rattle.cal_zone.specs.rules.Instant.{micros_of}
use Rattle.cal_report.specs.rules.ReportLines.{distance_text, utc_line}
use Rattle.cal_report.proofs.BaseLemmas.{base_is}
use Rattle.cal_report.specs.rules.Resume.{AreShown, Begins, IsBaseAfter, IsBegunAgain, Resumes, Stand, showing, up_to_line}
use Rattle.cal_request.specs.rules.Request.{Request}
use Rattle.cal_request.specs.declared.request.RunFault.{RunFault}
use Rattle.cal_request.specs.declared.request.Status.{Status}
use Rattle.cal_request.specs.declared.verb.Verb.TheVariants.{Calendar, Timer}
use Rattle.cal_report.proofs.HeadlineElapses.{goes_on}
use Rattle.cal_report.proofs.HeadlineLemmas.{calendar_report_is, one_elapses, timer_report_is}

-- ## The first line of an elapse

abbrev first_line : Zone → ℕ → ℤ → List ℕ
first_line local number elapse = label_text number ++ (instant_text local elapse ++ codes "\n")

-- the lines of an elapse after the first one
abbrev more_lines : Zone → ℤ → ℤ → List ℕ
more_lines local now elapse =
    utc_line local elapse ++ (codes "       From now: " ++ (distance_text (micros_of now) (micros_of elapse) ++ (codes "\n" ++ [])))

text_begins : (local : Zone) (now : ℤ) (number : ℕ) (elapse : ℤ)
    → elapse_text local now number elapse ≡ first_line local number elapse ++ more_lines local now elapse
unfolding elapse_text
text_begins local now number elapse =
    sym (append_assoc (label_text number) (instant_text local elapse ++ codes "\n") (more_lines local now elapse)
    ∙ ap (λ (t : List ℕ). label_text number ++ t) (append_assoc (instant_text local elapse) (codes "\n") (more_lines local now elapse)))

line_within : (local : Zone) (now : ℤ) (number : ℕ) (elapse : ℤ)
    → length (first_line local number elapse) ≤ length (elapse_text local now number elapse)
line_within local now number elapse =
    omega (arith, ap length (text_begins local now number elapse) ∙ length-append (first_line local number elapse) (more_lines local now elapse))

texts_in_parts : (local : Zone) (now : ℤ) (number : ℕ) (xs ys : List ℤ)
    → elapse_texts local now number (xs ++ ys) ≡ elapse_texts local now number xs ++ elapse_texts local now (number + length xs) ys
texts_in_parts local now number [] ys = ap (λ (n : ℕ). elapse_texts local now n ys) (omega arith)
texts_in_parts local now number (x ∷ xs) ys =
    let later : number + 1 + length xs ≡ number + length (x ∷ xs) = omega arith in
    ap (λ (t : List ℕ). elapse_text local now number x ++ t)
    (texts_in_parts local now (number + 1) xs ys
    ∙ ap (λ (n : ℕ). elapse_texts local now (number + 1) xs ++ elapse_texts local now n ys) later)
    ∙ sym (append_assoc (elapse_text local now number x) (elapse_texts local now (number + 1) xs) (elapse_texts local now (number + length (x ∷ xs)) ys))

-- ## Where the first lines end

-- the number of bytes up to the end of the first line of `elapse`; `before` are the elapses shown before `elapse`, and
-- `start` bytes come before all elapses
abbrev line_end : Zone → ℤ → ℕ → ℕ → List ℤ → ℤ → ℕ
line_end local now number start before elapse =
    start + (length (elapse_texts local now number before) + length (first_line local (number + length before) elapse))

end_of_first : (local : Zone) (now : ℤ) (number start : ℕ) (elapse : ℤ)
    → line_end local now number start [] elapse ≡ start + length (first_line local number elapse)
end_of_first local now number start elapse =
    let same : length (first_line local (number + 0) elapse) ≡ length (first_line local number elapse)
    = ap (λ (n : ℕ). length (first_line local n elapse)) (omega arith) in
    omega (arith, same)

end_of_later : (local : Zone) (now : ℤ) (number start : ℕ) (x : ℤ) (before : List ℤ) (elapse : ℤ)
    → line_end local now number start (x ∷ before) elapse
    ≡ line_end local now (number + 1) (start + length (elapse_text local now number x)) before elapse
end_of_later local now number start x before elapse =
    let same : length (first_line local (number + length (x ∷ before)) elapse) ≡ length (first_line local (number + 1 + length before) elapse)
    = ap (λ (n : ℕ). length (first_line local n elapse)) (omega arith) in
    omega (arith, same, length-append (elapse_text local now number x) (elapse_texts local now (number + 1) before))

-- if `x` is the first of the elapses, then no elapse has a first line that ends before the first line of `x` does
end_low : (local : Zone) (now : ℤ) (number start : ℕ) (x : ℤ) (xs before : List ℤ) (elapse : ℤ) (after : List ℤ)
    → x ∷ xs ≡ before ++ (elapse ∷ after) → start + length (first_line local number x) ≤ line_end local now number start before elapse
end_low local now number start x xs [] elapse after split =
    let same : x ≡ elapse = cc in
    let line : length (first_line local number x) ≡ length (first_line local number elapse) = ap (λ (e : ℤ). length (first_line local number e)) same in
    omega (arith, line, end_of_first local now number start elapse)
end_low local now number start x xs (y ∷ before) elapse after split =
    let same : x ≡ y = cc in
    let line : length (first_line local number x) ≡ length (first_line local number y) = ap (λ (e : ℤ). length (first_line local number e)) same in
    omega (arith, line, line_within local now number y, end_of_later local now number start y before elapse)

-- exactly the first `k` elapses have a first line that ends within `size` bytes
record End (local : Zone) (now : ℤ) (number start size : ℕ) (xs : List ℤ) (k : ℕ) : Type 0 where
  few : k ≤ length xs
  whole : (before : List ℤ) (elapse : ℤ) (after : List ℤ) → xs ≡ before ++ (elapse ∷ after)
      → (line_end local now number start before elapse ≤ size) ↔ (length before < k)

none_in_none : (before : List ℤ) (elapse : ℤ) (after : List ℤ) → [] ≡ before ++ (elapse ∷ after) → ⊥
none_in_none [] elapse after split = cc
none_in_none (x ∷ before) elapse after split = cc

end_with_first : (local : Zone) (now : ℤ) (number start size : ℕ) (x : ℤ) (xs : List ℤ) (k : ℕ)
    → End local now (number + 1) (start + length (elapse_text local now number x)) size xs k
    → start + length (first_line local number x) ≤ size
    → (before : List ℤ) (elapse : ℤ) (after : List ℤ) → x ∷ xs ≡ before ++ (elapse ∷ after)
    → (line_end local now number start before elapse ≤ size) ↔ (length before < suc k)
end_with_first local now number start size x xs k h fits [] elapse after split =
    let same : x ≡ elapse = cc in
    let line : length (first_line local number x) ≡ length (first_line local number elapse) = ap (λ (e : ℤ). length (first_line local number e)) same in
    (λ _. omega arith, λ _. omega (arith, line, end_of_first local now number start elapse))
end_with_first local now number start size x xs k h fits (y ∷ before) elapse after split =
    let same : y ≡ x = cc in
    let rest : xs ≡ before ++ (elapse ∷ after) = cc in
    let there = h.whole before elapse after rest in
    let at : line_end local now number start (y ∷ before) elapse
    ≡ line_end local now (number + 1) (start + length (elapse_text local now number x)) before elapse
    = ap (λ (e : ℤ). line_end local now number start (e ∷ before) elapse) same ∙ end_of_later local now number start x before elapse in (
      λ (within : line_end local now number start (y ∷ before) elapse ≤ size).
          let less : length before < k = there.0 (omega arith) in
          omega arith,
      λ (less : length (y ∷ before) < suc k).
          let within : line_end local now (number + 1) (start + length (elapse_text local now number x)) before elapse ≤ size = there.1 (omega arith) in
          omega arith,
    )

ends_from : (local : Zone) (now : ℤ) (number start size : ℕ) (x : ℤ) (xs : List ℤ) (k : ℕ)
    → End local now (number + 1) (start + length (elapse_text local now number x)) size xs k
    → (fits : Bool) → nat_le (start + length (first_line local number x)) size ≡ fits
    → (n : ℕ) × End local now number start size (x ∷ xs) n
ends_from local now number start size x xs k h true is =
    let fits : start + length (first_line local number x) ≤ size = grind (arith, nat_tests) in
    (suc k, record { few = omega (arith, h.few); whole = end_with_first local now number start size x xs k h fits })
ends_from local now number start size x xs k h false is =
    let beyond : size < start + length (first_line local number x) = grind (arith, nat_tests) in (
      0,
      record {
        few = omega arith;
        whole = λ before elapse after split. (
          λ (within : line_end local now number start before elapse ≤ size).
              absurd (omega (arith, end_low local now number start x xs before elapse after split)),
          λ (less : length before < 0). absurd (omega arith),
        );
      },
    )

ends : (local : Zone) (now : ℤ) (number start size : ℕ) (xs : List ℤ) → (k : ℕ) × End local now number start size xs k
ends local now number start size [] =
    (0, record { few = omega arith; whole = λ before elapse after split. absurd (none_in_none before elapse after split) })
ends local now number start size (x ∷ xs) =
    let later = ends local now (number + 1) (start + length (elapse_text local now number x)) size xs in
    ends_from local now number start size x xs later.0 later.1 (nat_le (start + length (first_line local number x)) size) refl

-- ## The elapses whose first line is complete in a prefix

-- if two texts are prefixes of the same text, the longer one begins with the shorter one
longer_begins : (front rest lead more : List ℕ) → front ++ rest ≡ lead ++ more → length lead ≤ length front → Begins front lead
longer_begins front rest lead more same within =
    let is : take (length lead) front ≡ lead
    = sym (take-append-le (length lead) front rest within) ∙ (ap (take (length lead)) same ∙ take-append_seam lead more) in
    record {
      rest = drop (length lead) front;
      is = sym (take-append-drop (length lead) front) ∙ ap (λ (t : List ℕ). t ++ drop (length lead) front) is;
    }

begins_longer : (front lead : List ℕ) → Begins front lead → length lead ≤ length front
begins_longer front lead h = omega (arith, ap length h.is ∙ length-append lead h.rest)

some_shown : (local : Zone) (now : ℤ) (before : List ℤ) (elapse : ℤ) (after : List ℤ)
    → elapses_text local now (before ++ (elapse ∷ after)) ≡ elapse_texts local now 1 (before ++ (elapse ∷ after))
some_shown local now [] elapse after = refl
some_shown local now (x ∷ before) elapse after = refl

-- the part of a report after the first line of `elapse`
abbrev after_line : Request → List ℤ → ℤ → List ℤ → List ℕ
after_line asked before elapse after =
    more_lines asked.local asked.now elapse ++ elapse_texts asked.local asked.now (length before + 1 + 1) after

elapses_begin : (asked : Request) (before : List ℤ) (elapse : ℤ) (after : List ℤ)
    → elapses_text asked.local asked.now (before ++ (elapse ∷ after))
    ≡ elapse_texts asked.local asked.now 1 before ++ (first_line asked.local (length before + 1) elapse ++ after_line asked before elapse after)
elapses_begin asked before elapse after =
    let local = asked.local in
    let now = asked.now in
    let number : 1 + length before ≡ length before + 1 = omega arith in
    some_shown local now before elapse after
    ∙ (texts_in_parts local now 1 before (elapse ∷ after)
    ∙ ap (λ (t : List ℕ). elapse_texts local now 1 before ++ t)
    (ap (λ (n : ℕ). elapse_texts local now n (elapse ∷ after)) number
    ∙ (ap (λ (t : List ℕ). t ++ elapse_texts local now (length before + 1 + 1) after) (text_begins local now (length before + 1) elapse)
    ∙ append_assoc (first_line local (length before + 1) elapse) (more_lines local now elapse) (elapse_texts local now (length before + 1 + 1) after))))

report_begins : (asked : Request) (s : Schedule) (before : List ℤ) (elapse : ℤ) (after : List ℤ)
    → showing asked s (before ++ (elapse ∷ after)) ≡ up_to_line asked s before elapse ++ after_line asked before elapse after
report_begins asked s before elapse after =
    let texts = elapse_texts asked.local asked.now 1 before in
    let line = first_line asked.local (length before + 1) elapse in
    let rest = after_line asked before elapse after in
    ap (λ (t : List ℕ). headings s ++ t) (elapses_begin asked before elapse after ∙ sym (append_assoc texts line rest))
    ∙ sym (append_assoc (headings s) (texts ++ line) rest)

length_up_to : (asked : Request) (s : Schedule) (before : List ℤ) (elapse : ℤ)
    → length (up_to_line asked s before elapse) ≡ line_end asked.local asked.now 1 (length (headings s)) before elapse
length_up_to asked s before elapse =
    let texts = elapse_texts asked.local asked.now 1 before in
    let line = first_line asked.local (length before + 1) elapse in
    let same : length line ≡ length (first_line asked.local (1 + length before) elapse)
    = ap (λ (n : ℕ). length (first_line asked.local n elapse)) (omega arith) in
    omega (arith, same, length-append (headings s) (texts ++ line), length-append texts line)

some_stand : (asked : Request) (s : Schedule) (shown : List ℤ) (front rest : List ℕ) → showing asked s shown ≡ front ++ rest
    → (k : ℕ) × Stand asked s shown front k
some_stand asked s shown front rest cut =
    let counted = ends asked.local asked.now 1 (length (headings s)) (length front) shown in (
      counted.0,
      record {
        few = counted.1.few;
        whole = λ before elapse after split.
            let there = counted.1.whole before elapse after split in
            let size = length_up_to asked s before elapse in
            let same : front ++ rest ≡ up_to_line asked s before elapse ++ after_line asked before elapse after
            = sym cut ∙ (ap (showing asked s) split ∙ report_begins asked s before elapse after) in (
              λ (begins : Begins front (up_to_line asked s before elapse)).
                  there.0 (omega (arith, size, begins_longer front (up_to_line asked s before elapse) begins)),
              λ (less : length before < counted.0).
                  let within : line_end asked.local asked.now 1 (length (headings s)) before elapse ≤ length front = there.1 less in
                  longer_begins front rest (up_to_line asked s before elapse) (after_line asked before elapse after) same (omega arith),
            );
      },
    )

-- a list, split at the index `k` into the elements before it, the element at it, and the elements after it
record SplitAt (xs : List ℤ) (k : ℕ) : Type 0 where
  before : List ℤ
  elapse : ℤ
  after : List ℤ
  is : xs ≡ before ++ (elapse ∷ after)
  number : length before ≡ k

split_at : (xs : List ℤ) (k : ℕ) → k < length xs → SplitAt xs k
split_at [] k within = absurd (omega arith)
split_at (x ∷ xs) zero within = record { before = []; elapse = x; after = xs; is = refl; number = refl }
split_at (x ∷ xs) (suc k) within =
    let later = split_at xs k (omega arith) in
    record {
      before = x ∷ later.before;
      elapse = later.elapse;
      after = later.after;
      is = ap (λ (ys : List ℤ). x ∷ ys) later.is;
      number = ap suc later.number;
    }

-- the number of complete first lines can't be both `k` and a greater number `m`: if it is `m`, the first line of the
-- elapse with index `k` is complete, and if it is `k`, this line isn't
not_fewer : (asked : Request) (s : Schedule) (shown : List ℤ) (front : List ℕ) (k m : ℕ)
    → Stand asked s shown front k → Stand asked s shown front m → k < m → ⊥
not_fewer asked s shown front k m h g less =
    let split = split_at shown k (omega (arith, g.few)) in
    let begins = (g.whole split.before split.elapse split.after split.is).1 (omega (arith, split.number)) in
    let below : length split.before < k = (h.whole split.before split.elapse split.after split.is).0 begins in
    omega (arith, split.number, below)

one_stands : (asked : Request) (s : Schedule) (shown : List ℤ) (front : List ℕ) (k m : ℕ)
    → Stand asked s shown front k → Stand asked s shown front m → k ≡ m
one_stands asked s shown front k m h g =
    let at_least : k < m → ⊥ = not_fewer asked s shown front k m h g in
    let at_most : m < k → ⊥ = not_fewer asked s shown front m k g h in
    omega (arith, at_least, at_most)

-- ## The request that continues a report

-- if `from` is the base time of a request that continues after the first `k` elapses of `xs`, then the elapses after
-- `from` are the elements of `xs` after the first `k`
elapses_from : (ts exceptions : List Timed) (base from : ℤ) (n : ℕ) (xs : List ℤ) (k : ℕ) → AreElapses ts exceptions base xs → IsBaseAfter base (take n xs) k from
    → AreElapses ts exceptions from (drop k xs)
elapses_from ts exceptions base from n xs zero h after = subst (λ (b : ℤ). AreElapses ts exceptions b xs) (sym after) h
elapses_from ts exceptions base from n xs (suc k) h after = goes_on ts exceptions base from xs k h (slice_get-take n xs k from after)

pub zone_again : (asked again : Request) (suffix : Option ZoneSuffix) (tz : TimeZone) → again.local ≡ asked.local → again.zones ≡ asked.zones
    → IsZoneFor asked suffix tz → IsZoneFor again suffix tz
zone_again asked again None tz local zones h = rw local h
zone_again asked again (Some (of_name name)) tz local zones h = rw zones h
zone_again asked again (Some (at_offset seconds)) tz local zones h = h

module _ (asked : Request) (base : ℤ) (shown : List ℤ) (k : ℕ) (again : Request) (begun : IsBegunAgain asked base shown k again) where
  accepted_again : (e : Expression) → IsAccepted asked e → IsAccepted again e
  accepted_again e h = record { spelled = h.spelled; zone = zone_again asked again e.fields.zone e.tz begun.local begun.zones h.zone }

  each_accepted_again : (es : List Expression) → AllByRecursion (IsAccepted asked) es → AllByRecursion (IsAccepted again) es
  each_accepted_again [] all = tt
  each_accepted_again (e ∷ es) all = (accepted_again e all.0, each_accepted_again es all.1)

  all_accepted_again : (s : Schedule) → AreAllAccepted asked s → AreAllAccepted again s
  all_accepted_again s all = record { expressions = each_accepted_again s.expressions all.expressions; exceptions = each_accepted_again s.exceptions all.exceptions }

  shows_others : (s : Schedule) (text : List ℕ) → AreShown asked base s shown → IsReportOf again begun.from s text
      → text ≡ showing asked s (drop k shown)
  shows_others s text first h =
      let xs = first.elapses in
      let after : IsBaseAfter base (take asked.iterations xs) k begun.from
      = subst (λ (ys : List ℤ). IsBaseAfter base ys k begun.from) first.first begun.after in
      let same : h.elapses ≡ drop k xs
      = one_elapses (map meaning s.expressions) (map meaning s.exceptions) begun.from h.elapses (drop k xs) h.these
      (elapses_from (map meaning s.expressions) (map meaning s.exceptions) base begun.from asked.iterations xs k first.these after) in
      let others : take again.iterations h.elapses ≡ drop k shown
      = ap (take again.iterations) same
      ∙ (sym (drop-take k again.iterations xs) ∙ (ap (λ (n : ℕ). drop k (take n xs)) begun.count ∙ ap (drop k) (sym first.first))) in
      h.layout
      ∙ (ap (λ (ys : List ℤ). headings s ++ elapses_text again.local again.now ys) others
      ∙ (ap (λ (z : Zone). headings s ++ elapses_text z again.now (drop k shown)) begun.local
      ∙ ap (λ (i : ℤ). headings s ++ elapses_text asked.local i (drop k shown)) begun.now))

-- ## How to continue a prefix of a report

of_reports : (asked : Request) (base : ℤ) (e : Expression) (text : List ℕ) (reports : List (List ℕ))
    → AllZip (λ e report. IsReportOf asked base (alone e) report) (e ∷ []) reports
    → text ≡ join_by (λ report. report) (codes "\n") reports → IsReportOf asked base (alone e) text
of_reports asked base e text [] each layout = absurd each
of_reports asked base e text (a ∷ []) each layout = subst (IsReportOf asked base (alone e)) (sym (layout ∙ append-nil a)) each.0
of_reports asked base e text (a ∷ (b ∷ reports)) each layout = absurd each.1

one_report_of : (asked : Request) (base : ℤ) (e : Expression) (text : List ℕ) → AreReportsOf asked base (e ∷ []) text → IsReportOf asked base (alone e) text
one_report_of asked base e text h = of_reports asked base e text h.reports h.each h.layout

-- a request for one accepted text prints the report of the expression `e` with this text
pub text_report : (asked : Request) (read : Result (List ℕ) WholeFault) (base : ℤ) (e : Expression)
    → asked.verb ≡ Calendar → base_in asked ≡ Ok base → asked.texts ≡ e.text ∷ [] → IsAccepted asked e
    → IsReportOf asked base (alone e) (report asked read).out
text_report asked read base e verb sought texts accepted =
    one_report_of asked base e (report asked read).out (calendar_report_is asked read base (e ∷ []) verb sought texts (accepted, tt)).0

resumes_by : (asked : Request) (base : ℤ) (s : Schedule) (read : Result (List ℕ) WholeFault) (front rest : List ℕ)
    → IsReportOf asked base s (report asked read).out → (report asked read).out ≡ front ++ rest
    → ((shown : List ℤ) (k : ℕ) (again : Request) → (begun : IsBegunAgain asked base shown k again) → IsReportOf again begun.from s (report again read).out)
    → Resumes asked base s read front
resumes_by asked base s read front rest h cut reported =
    let shown = take asked.iterations h.elapses in
    let these : AreShown asked base s shown = record { elapses = h.elapses; these = h.these; first = refl } in
    let found = some_stand asked s shown front rest (sym h.layout ∙ cut) in
    record {
      shown = shown;
      these = these;
      printed = h.layout;
      number = found.0;
      stand = found.1;
      only = λ k there. one_stands asked s shown front k found.0 there found.1;
      others = λ again begun.
          shows_others asked base shown found.0 again begun s (report again read).out these (reported shown found.0 again begun);
    }

pub text_resumes : (asked : Request) (read : Result (List ℕ) WholeFault) (base : ℤ) (e : Expression) (front rest : List ℕ)
    → asked.verb ≡ Calendar → base_in asked ≡ Ok base → asked.texts ≡ e.text ∷ [] → IsAccepted asked e
    → (report asked read).out ≡ front ++ rest → Resumes asked base (alone e) read front
text_resumes asked read base e front rest verb sought texts accepted cut =
    resumes_by asked base (alone e) read front rest (text_report asked read base e verb sought texts accepted) cut
    (λ shown k again begun.
    text_report again read begun.from e (begun.verb ∙ verb) (base_is again begun.from begun.sought) (begun.texts ∙ texts)
    (accepted_again asked base shown k again begun e accepted))

pub file_resumes : (asked : Request) (bytes : List ℕ) (base : ℤ) (s : Schedule) (front rest : List ℕ)
    → asked.verb ≡ Timer → base_in asked ≡ Ok base → IsFileOf bytes s → AreAllAccepted asked s
    → (report asked (Ok bytes)).out ≡ front ++ rest → Resumes asked base s (Ok bytes) front
file_resumes asked bytes base s front rest verb sought file all cut =
    resumes_by asked base s (Ok bytes) front rest (timer_report_is asked bytes base s verb sought file all).0 cut
    (λ shown k again begun.
    (timer_report_is again bytes begun.from s (begun.verb ∙ verb) (base_is again begun.from begun.sought) file
    (all_accepted_again asked base shown k again begun s all)).0)

-- ## What a run writes, whether or not it is cut off

-- whatever a call returns, what it wrote is a prefix of what it should have written
pub front_written : {T E : Type 0} (result : Result T E) (old new : Option (List ℕ)) (text : List ℕ) → Writes old new result text → AppendsFront old new text
front_written (Ok x) old new text h = record { front = text; rest = []; whole = sym (append-nil text); written = h }
front_written (Err e) old new text h = h

pub text_cut : (asked : Request) (base : ℤ) (e : Expression) (result : Result Status RunFault) (old new : Option (List ℕ)) (failed : Bool)
    (out_old out_new err_old err_new : Option (List ℕ)) → asked.verb ≡ Calendar → base_in asked ≡ Ok base → asked.texts ≡ e.text ∷ [] → IsAccepted asked e
    → (run : ByReading asked old new failed (IsReported result out_old out_new err_old err_new))
    → (front : List ℕ) × Appends out_old out_new front × Resumes asked base (alone e) run.read front
text_cut asked base e result old new failed out_old out_new err_old err_new verb sought texts accepted run =
    let there = front_written result out_old out_new (report asked run.read).out run.holds.out in
    (there.front, there.written, text_resumes asked run.read base e there.front there.rest verb sought texts accepted there.whole)

pub file_cut : (asked : Request) (bytes : List ℕ) (base : ℤ) (s : Schedule) (result : Result Status RunFault) (old new : Option (List ℕ)) (failed : Bool)
    (out_old out_new err_old err_new : Option (List ℕ)) → asked.verb ≡ Timer → base_in asked ≡ Ok base → IsFileOf bytes s → AreAllAccepted asked s
    → (run : ByReading asked old new failed (IsReported result out_old out_new err_old err_new)) → run.read ≡ Ok bytes
    → (front : List ℕ) × Appends out_old out_new front × Resumes asked base s (Ok bytes) front
file_cut asked bytes base s result old new failed out_old out_new err_old err_new verb sought file all run read =
    let there = front_written result out_old out_new (report asked run.read).out run.holds.out in
    let whole = ap (λ (r : Result (List ℕ) WholeFault). (report asked r).out) (sym read) ∙ there.whole in
    (there.front, there.written, file_resumes asked bytes base s there.front there.rest verb sought file all whole)
