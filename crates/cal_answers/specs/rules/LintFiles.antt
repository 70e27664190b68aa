-- The problems of files that `lint` lists, each file checked by itself.
use Rattle.std.specs.Prelude.{◌≡◌, ℕ, nat_lt, ◌*◌, All, Bool, false, true, List, [], ◌++◌, Some, length, map, option_map, string_bytes}
use Rattle.std.specs.List.{AllZip, flat_map}
use Rattle.std.specs.Str.Lossy.{utf8_lossy}
use Rattle.cal_lint.specs.declared.problems.Finding.{Finding}
use Rattle.cal_lint.specs.rules.Findings.{HasGoodSuggestion, findings_in, shown_finding}
use Rattle.cal_timers_report.specs.declared.style.Style.{Style}
use Rattle.cal_timers_report.specs.rules.ReportView.{ProblemView}
use Rattle.cal_timers_text.specs.rules.LintText.{finding_lines}
use Rattle.cal_timers_text.specs.rules.Messages.{finding_message}
use Rattle.cal_unit_index.specs.declared.files.UnitText.{UnitText}
use Rattle.cal_answers.specs.rules.LintRows.{Listed, is_error_kind}

-- ## A finding

abbrev pub finding_row : List ℕ → Finding → ProblemView
finding_row path finding = record {
  file = path;
  line = Some finding.line;
  column = Some finding.column;
  is_error = is_error_kind finding.kind;
  message = finding_message finding.problem finding.mistake;
  suggestion = option_map string_bytes finding.suggestion;
}

-- a problem that was found in the file at `path`, whose content is `text`
abbrev pub listed_finding : Style → List ℕ → List ℕ → Finding → Listed
listed_finding style path text finding =
    record { row = finding_row path finding; text = finding_lines style path text finding }

-- ## The files

-- The findings are the problems of this text. The contract leaves open which mistakes they name and what they suggest,
-- except that systemd 252 doesn't reject a suggestion.
abbrev pub AreFindingsIn : List ℕ → List Finding → Type 0
AreFindingsIn text found = (map shown_finding found ≡ findings_in text) × All HasGoodSuggestion found

-- the maximum size of a text that is checked, in bytes: a file has at most 1,048,576 bytes, and at most three bytes
-- replace each byte that isn't UTF-8, so no file has a longer text
abbrev pub max_text : ℕ
max_text = 3 * 1_048_576

abbrev pub AreProblemsUnless : Bool → Style → List ℕ → List ℕ → List Listed → Type 0
AreProblemsUnless true style path text listed = listed ≡ []
AreProblemsUnless false style path text listed =
    (found : List Finding) × AreFindingsIn text found × (listed ≡ map (listed_finding style path text) found)

-- the problems of a file with this content, in the order of its lines
abbrev pub AreProblemsOfText : Style → List ℕ → List ℕ → List Listed → Type 0
AreProblemsOfText style path text listed = AreProblemsUnless (nat_lt max_text (length text)) style path text listed

-- the problems of a file; bytes that aren't UTF-8 are replaced, since systemd accepts them in comments
abbrev pub AreProblemsOfFile : Style → UnitText → List Listed → Type 0
AreProblemsOfFile style file listed = AreProblemsOfText style (string_bytes file.path) (utf8_lossy file.bytes.items) listed

-- the problems of all files, file by file
abbrev pub AreProblemsOfFiles : Style → List UnitText → List Listed → Type 0
AreProblemsOfFiles style files listed =
    (each : List (List Listed)) × AllZip (AreProblemsOfFile style) files each × (listed ≡ flat_map (λ own. own) each)

-- ## Steps

-- `new` is `old`, followed by problems that satisfy `Are`
abbrev pub HasAlso : (List Listed → Type 0) → List Listed → List Listed → Type 0
HasAlso Are old new = (more : List Listed) × Are more × (new ≡ old ++ more)
