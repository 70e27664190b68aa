-- Lemmas on what the files of a unit say, where line numbers continue from file to file.
use Rattle.std.proofs.Common.{◌≡◌, ◌+◌, ◌<◌, ℕ, List, Option, None, Some, [], ◌∷◌, ◌++◌, ◌∙◌, add-one, ap, append_assoc, append-nil, drop, drop-cons, get_or, length, map, refl, sym}
use Rattle.std.specs.Str.Lines.{lines}
use Rattle.std.specs.Prelude.{slice_get}
use Rattle.std.proofs.Math.Seq.{drop-length}
use Rattle.std.proofs.lemmas.Option.{same_Some}
use Rattle.cal_unit_index.specs.rules.Files.{UnitText as FileText, shown_unit_text}
use Rattle.cal_unit_index.specs.declared.files.UnitText.{UnitText}
use Rattle.cal_load.specs.declared.readable.BrokenLine.{BrokenLine}
use Rattle.cal_load.specs.rules.Loaded.{assignments_from, broken_from, broken_of_files, broken_own, bytes_in}
use Rattle.cal_load.specs.rules.Readable.{assignments_read, broken_line}

-- `one` returns a list for a single file, and `from` joins the lists of several files
module _ {X : Type 0} (one : ℕ → List ℕ → List X) (from : ℕ → List (List ℕ) → List X)
    (step : (first : ℕ) (bytes : List ℕ) (rest : List (List ℕ)) → from first (bytes ∷ rest) ≡ one first bytes ++ from (first + length (lines bytes)) rest)
    (none : (first : ℕ) → from first [] ≡ []) where
  -- the list of the files from index `i` on is the list of the file at this index, followed by the list of the later
  -- files
  found_here : (files : List UnitText) (i : ℕ) (file : UnitText) (first : ℕ) → i < length files → file ≡ get_or files i file
      → one first file.bytes.items ++ from (first + length (lines file.bytes.items)) (bytes_in (map shown_unit_text (drop (i + 1) files)))
      ≡ from first (bytes_in (map shown_unit_text (drop i files)))
  found_here files i file first h at =
      rw (drop-cons files i file h, ← at, add-one) (sym (step first file.bytes.items _))

  pub found_more : (old new : List X) (files : List UnitText) (i : ℕ) (file : UnitText) (first next : ℕ) (all : List X)
      → i < length files → file ≡ get_or files i file → next ≡ first + length (lines file.bytes.items) → new ≡ old ++ one first file.bytes.items
      → old ++ from first (bytes_in (map shown_unit_text (drop i files))) ≡ all
      → new ++ from next (bytes_in (map shown_unit_text (drop (i + 1) files))) ≡ all
  found_more old new files i file first next all h at number pushed before =
      let rest = bytes_in (map shown_unit_text (drop (i + 1) files)) in
      ap (λ list. list ++ from next rest) pushed
      ∙ append_assoc old (one first file.bytes.items) (from next rest)
      ∙ ap (λ n. old ++ (one first file.bytes.items ++ from n rest)) number
      ∙ ap (λ list. old ++ list) (found_here files i file first h at)
      ∙ before

  pub found_all : (found : List X) (first : ℕ) (files : List UnitText) (i : ℕ) (all : List X) → i ≡ length files
      → found ++ from first (bytes_in (map shown_unit_text (drop i files))) ≡ all → found ≡ all
  found_all found first files i all e before =
      sym (append-nil found)
      ∙ ap (λ list. found ++ list) (sym (ap (λ rest. from first (bytes_in (map shown_unit_text rest))) (ap (λ n. drop n files) e ∙ drop-length files) ∙ none first))
      ∙ before

-- the assignments of several files are those of the first file, followed by those of the others
pub assignments_step : (first : ℕ) (bytes : List ℕ) (rest : List (List ℕ))
    → assignments_from first (bytes ∷ rest) ≡ assignments_read first bytes ++ assignments_from (first + length (lines bytes)) rest
unfolding assignments_from
assignments_step first bytes rest = refl

pub no_assignments : (first : ℕ) → assignments_from first [] ≡ []
unfolding assignments_from
no_assignments first = refl

-- the line at which systemd stops reading one file, as a list
abbrev pub broken_in_one : ℕ → List ℕ → List (Option BrokenLine)
broken_in_one first bytes = broken_line first bytes ∷ []

pub broken_step : (first : ℕ) (bytes : List ℕ) (rest : List (List ℕ))
    → broken_from first (bytes ∷ rest) ≡ broken_in_one first bytes ++ broken_from (first + length (lines bytes)) rest
unfolding broken_from
broken_step first bytes rest = refl

pub none_broken : (first : ℕ) → broken_from first [] ≡ []
unfolding broken_from
none_broken first = refl

-- the first element of the list of the lines at which systemd stops is the one for the unit's own file
pub first_broken : (files : List FileText) (line : Option BrokenLine) → slice_get (broken_of_files files) 0 ≡ Some line → line ≡ broken_own files
unfolding broken_from
first_broken [] line e = absurd (cc)
first_broken (own ∷ drop_ins) line e = sym (same_Some _ line e)

pub no_first_broken : (files : List FileText) → slice_get (broken_of_files files) 0 ≡ None → None ≡ broken_own files
unfolding broken_from
no_first_broken [] e = refl
no_first_broken (own ∷ drop_ins) e = absurd (cc)
