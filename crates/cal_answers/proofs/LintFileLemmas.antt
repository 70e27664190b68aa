-- Lemmas on the problems of files.
use Rattle.std.proofs.Common.{◌≡◌, ◌∙◌, ℕ, ◌+◌, ◌<◌, false, true, List, [], ◌∷◌, ◌++◌, ap, append_assoc, get_or, length, map, refl, string_bytes, subst, sym, take}
use Rattle.std.proofs.lemmas.List.{append-nil, flat_map_more, take_more}
use Rattle.std.specs.List.{AllZip}
use Rattle.std.specs.Prelude.{All, nat_lt}
use Rattle.std.specs.Str.Lossy.{utf8_lossy}
use Rattle.cal_lint.specs.declared.problems.Finding.{Finding}
use Rattle.cal_lint.specs.rules.Findings.{HasGoodSuggestion, findings_in, shown_finding}
use Rattle.cal_timers_report.proofs.RowLemmas.{all_zip_push}
use Rattle.cal_timers_report.specs.declared.style.Style.{Style}
use Rattle.cal_unit_index.specs.declared.files.UnitText.{UnitText}
use Rattle.cal_answers.specs.rules.LintFiles.{AreProblemsOfFile, AreProblemsOfFiles, AreProblemsOfText, AreProblemsUnless, HasAlso, listed_finding, max_text}
use Rattle.cal_answers.specs.rules.LintRows.{Listed}

pub no_files : (style : Style) (old : List Listed) → HasAlso (AreProblemsOfFiles style []) old old
no_files style old = ([], ([], tt, refl), sym (append-nil old))

-- adding the problems of a file's text, decoded as UTF-8 with replacement characters, adds the problems of the file
pub file_as : (style : Style) (file : UnitText) (path text : List ℕ) (old new : List Listed) → path ≡ string_bytes file.path → text ≡ utf8_lossy file.bytes.items
    → HasAlso (AreProblemsOfText style path text) old new → HasAlso (AreProblemsOfFile style file) old new
file_as style file path text old new same is has =
    (has.0, subst (λ text. AreProblemsOfText style (string_bytes file.path) text has.0) is (subst (λ path. AreProblemsOfText style path text has.0) same has.1), has.2)

pub one_file_more : (style : Style) (files : List UnitText) (i : ℕ) (file : UnitText) (old now new : List Listed) → i < length files → file ≡ get_or files i file
    → HasAlso (AreProblemsOfFiles style (take i files)) old now → HasAlso (AreProblemsOfFile style file) now new
    → HasAlso (AreProblemsOfFiles style (take (i + 1) files)) old new
one_file_more style files i file old now new within is was more =
    let all : take i files ++ file ∷ [] ≡ take (i + 1) files = ap (λ one. take i files ++ one ∷ []) is ∙ sym (take_more files i file within) in
    let each = was.1.0 in (
      was.0 ++ more.0,
      (
        each ++ more.0 ∷ [],
        subst (λ files. AllZip (AreProblemsOfFile style) files (each ++ more.0 ∷ [])) all
            (all_zip_push (AreProblemsOfFile style) (take i files) each file more.0 was.1.1 more.1),
        ap (λ listed. listed ++ more.0) was.1.2 ∙ flat_map_more (λ own. own) [] each more.0,
      ),
      more.2 ∙ ap (λ listed. listed ++ more.0) was.2 ∙ append_assoc old was.0 more.0,
    )

pub no_findings : (style : Style) (path text : List ℕ) (old : List Listed) → nat_lt max_text (length text) ≡ true → HasAlso (AreProblemsOfText style path text) old old
no_findings style path text old long =
    ([], subst (λ is_long. AreProblemsUnless is_long style path text []) (sym long) refl, sym (append-nil old))

pub all_findings : (style : Style) (path text : List ℕ) (old new : List Listed) (found : List Finding) → nat_lt max_text (length text) ≡ false
    → map shown_finding found ≡ findings_in text → All HasGoodSuggestion found → new ≡ old ++ map (listed_finding style path text) found
    → HasAlso (AreProblemsOfText style path text) old new
all_findings style path text old new found short are good is =
    let listed = map (listed_finding style path text) found in
    (listed, subst (λ is_long. AreProblemsUnless is_long style path text listed) (sym short) (found, (are, good), refl), is)
