-- Lines of several files, with numbers that continue from file to file: the first line of the first file has the number
-- 1, and the first line of any other file follows the last line of the file before it.
use Rattle.std.specs.Prelude.{◌≡◌, ◌+◌, ◌<◌, ◌≤◌, ℕ, List, ◌∷◌, ◌++◌, Some, length, slice_get, slice_index, string_bytes, take}
use Rattle.std.specs.List.{flat_map}
use Rattle.std.specs.Str.Lines.{lines}
use Rattle.cal_unit_index.specs.declared.files.UnitText as texts
use Rattle.cal_unit_index.specs.rules.Files.{UnitText}

-- how many lines these files have together
abbrev pub total_lines : List UnitText → ℕ
total_lines files = length (flat_map (λ file. lines file.bytes) files)

-- one of these files has the line with this continued number
abbrev pub HasLine : List UnitText → ℕ → Type 0
HasLine files number = (1 ≤ number) × (number ≤ total_lines files)

-- the line with the continued number `number` is line `line`, counted from 1, of the file at `path`
pub record IsLineIn (files : List UnitText) (number : ℕ) (path : List ℕ) (line : ℕ) : Type 0 where
  pub before : List UnitText
  pub file : UnitText
  pub after : List UnitText
  pub divided : files ≡ before ++ file ∷ after
  pub has_path : file.path ≡ path
  pub counted : number ≡ total_lines before + line
  pub is_within : (1 ≤ line) × (line ≤ length (lines file.bytes))

-- `numbers` has the continued number of each file's first line
abbrev pub AreFirstLines : List UnitText → List ℕ → Type 0
AreFirstLines files numbers =
    (length numbers ≡ length files)
    × ((k : ℕ) → k < length files → slice_index numbers k ≡ total_lines (take k files) + 1)

-- `index` is the index of the last element of `numbers` that is at most `number`
abbrev pub IsLastUntil : List ℕ → ℕ → ℕ → Type 0
IsLastUntil numbers number index =
    (index < length numbers) × (slice_index numbers index ≤ number)
    × ((k : ℕ) → index < k → k < length numbers → number < slice_index numbers k)

-- `first_lines` has the continued number of each file's first line. The line with the continued number `number` is line
-- `line`, counted from 1, of the file at `path`, the last file that begins at or before that line.
pub record IsPosition (files : List texts.UnitText) (first_lines : List ℕ) (number : ℕ) (path : List ℕ) (line : ℕ) : Type 0 where
  pub index : ℕ
  pub file : texts.UnitText
  pub is_at : slice_get files index ≡ Some file
  pub has_path : path ≡ string_bytes file.path
  pub is_last : IsLastUntil first_lines number index
  pub counted : slice_index first_lines index + line ≡ number + 1
