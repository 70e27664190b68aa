-- Lemmas on the rows of `lint` and on the folders of the search path.
use Rattle.std.proofs.Common.{◌≡◌, ◌∙◌, ℕ, ◌+◌, ◌-◌, Bool, false, true, List, [], ◌∷◌, None, Some, ap, arith, cond, count_by, length, map, not, refl, string_bytes, sym}
use Rattle.std.proofs.lemmas.List.Sums.{sum_by-cons}
use Rattle.std.specs.List.{list_any}
use Rattle.std.specs.Prelude.{slice_get}
use Rattle.cal_bytes.proofs.General.{list_any-map}
use Rattle.cal_machine.specs.rules.Machine.{Machine}
use Rattle.cal_unit_index.specs.declared.files.UnitText.{UnitText}
use Rattle.cal_unit_index.specs.declared.index.UnitIndex.{UnitIndex}
use Rattle.cal_unit_index.specs.rules.Index.{IsIndexOf, Searched, searched, shown_folder}
use Rattle.cal_answers.specs.declared.problems.Problem.{Problem}
use Rattle.cal_answers.specs.rules.LintRows.{Listed, lint_counts, listed_as}
use Rattle.cal_answers.specs.rules.LintUnits.{is_directly_in, is_in_folders}

-- ## Tests of rows

-- ## Counts

pub one_or_other : (passes : Bool) → cond passes 1 0 + cond (not passes) 1 0 ≡ 1
one_or_other true = refl
one_or_other false = refl

counted_both : {X : Type 0} (test : X → Bool) (xs : List X) → count_by test xs + count_by (λ x. not (test x)) xs ≡ length xs
counted_both test [] = refl
counted_both test (x ∷ xs) =
    omega (arith, sum_by-cons (λ y. cond (test y) 1 0) x xs, sum_by-cons (λ y. cond (not (test y)) 1 0) x xs, one_or_other (test x), counted_both test xs)

-- the number of elements that fail the test is the length less the number of those that pass it
counted_others : {X : Type 0} (test : X → Bool) (xs : List X) → length xs - count_by test xs ≡ count_by (λ x. not (test x)) xs
counted_others test xs = omega (arith, counted_both test xs)

count_by-map : {X Y : Type 0} (test : Y → Bool) (view : X → Y) (xs : List X) → count_by test (map view xs) ≡ count_by (λ x. test (view x)) xs
count_by-map test view [] = refl
count_by-map test view (x ∷ xs) =
    sum_by-cons (λ y. cond (test y) 1 0) (view x) (map view xs)
    ∙ ap (λ n. cond (test (view x)) 1 0 + n) (count_by-map test view xs)
    ∙ sym (sum_by-cons (λ y. cond (test (view y)) 1 0) x xs)

pub counts_are : (problems : List Problem) (errors warnings : ℕ) → errors ≡ count_by (λ (problem : Problem). problem.is_error) problems
    → warnings ≡ length problems - errors → record { errors = errors; warnings = warnings } ≡ lint_counts (map listed_as problems)
counts_are problems errors warnings is others =
    let found : errors ≡ count_by (λ (problem : Listed). problem.row.is_error) (map listed_as problems) =
    is ∙ sym (count_by-map (λ (problem : Listed). problem.row.is_error) listed_as problems) in
    let rest : warnings ≡ count_by (λ (problem : Listed). not problem.row.is_error) (map listed_as problems) =
    others ∙ ap (λ n. length problems - n) is ∙ counted_others (λ (problem : Problem). problem.is_error) problems
    ∙ sym (count_by-map (λ (problem : Listed). not problem.row.is_error) listed_as problems) in
    rw (found, rest) refl

-- ## The search path

-- a folder of an index passes a test if and only if a folder of its search path does
pub folders_any : (machine : Machine) (search_path : List (List ℕ)) (index : UnitIndex) (test : List ℕ → Bool) → IsIndexOf machine search_path index
    → list_any (λ folder. test (string_bytes folder.path)) index.folders.items ≡ list_any test search_path
folders_any machine search_path index test is =
    sym (list_any-map (λ (folder : Searched). test folder.path) shown_folder index.folders.items)
    ∙ ap (list_any (λ (folder : Searched). test folder.path)) is.folders
    ∙ list_any-map (λ (folder : Searched). test folder.path) (searched machine) search_path

pub first_in : (search_path : List (List ℕ)) (files : List UnitText) (own : UnitText) → slice_get files 0 ≡ Some own
    → list_any (λ folder. is_directly_in folder (string_bytes own.path)) search_path ≡ is_in_folders search_path files
first_in search_path [] own is = absurd (cc)
first_in search_path (file ∷ rest) own is =
    let same : file ≡ own = cc in
    ap (λ (file : UnitText). list_any (λ folder. is_directly_in folder (string_bytes file.path)) search_path) (sym same)

pub none_in : (search_path : List (List ℕ)) (files : List UnitText) → slice_get files 0 ≡ None → false ≡ is_in_folders search_path files
none_in search_path [] is = refl
none_in search_path (file ∷ rest) is = absurd (cc)
