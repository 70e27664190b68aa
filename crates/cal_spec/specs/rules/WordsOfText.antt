-- The words of a text and where they are, as relations: these say what the words are, not how to find them.
use Rattle.std.specs.Prelude.{ℕ, ◌<◌, ◌≡◌, true, false, List, [], ◌∷◌, ◌++◌, length, ⊤, ◌≤◌, ◌+◌, slice_index}
use Rattle.std.specs.List.{list_all, list_any}
use Rattle.cal_bytes.specs.rules.Separators.{is_blank}

-- a word is not empty and contains no blanks
pub record IsWord (word : List ℕ) : Type 0 where
  pub some : 0 < length word
  pub solid : list_any is_blank word ≡ false

-- the text is empty or begins with a blank
abbrev pub Ends : List ℕ → Type 0
Ends [] = ⊤
Ends (b ∷ bs) = is_blank b ≡ true

-- the words of the text are exactly those in the list, with only blanks before, between and after them
abbrev pub AreWords : List ℕ → List (List ℕ) → Type 0
AreWords text [] = list_all is_blank text ≡ true
AreWords text (w ∷ ws) =
    (lead : List ℕ) × (rest : List ℕ) × (text ≡ lead ++ (w ++ rest)) × (list_all is_blank lead ≡ true) × IsWord w × Ends rest × AreWords rest ws

-- The bytes `start..end` are a word: there is at least one byte, and none of them is a blank. Directly before them is a
-- blank or the start of the text, and directly after them is a blank or the end of the text.
pub record IsWordAt (text : List ℕ) (start end : ℕ) : Type 0 where
  pub some : start < end
  pub within : end ≤ length text
  pub solid : (i : ℕ) → start ≤ i → i < end → is_blank (slice_index text i) ≡ false
  pub before : (i : ℕ) → i + 1 ≡ start → is_blank (slice_index text i) ≡ true
  pub after : end < length text → is_blank (slice_index text end) ≡ true
