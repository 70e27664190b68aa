-- Trimming as a relation between a text and its trimmed form. Each definition takes the test for blanks as its first
-- argument.
use Rattle.std.specs.Prelude.{◌≡◌, ℕ, Bool, true, false, List, [], ◌∷◌, ◌++◌, reverse}
use Rattle.std.specs.List.{AllByRecursion}

-- the text is empty, or its first byte is not a blank
abbrev pub StartsSolid : (ℕ → Bool) → List ℕ → Type 0
StartsSolid is_blank [] = Unit {0}
StartsSolid is_blank (b ∷ bs) = is_blank b ≡ false

-- `text` is `line` without its leading blanks; trailing blanks stay
pub record IsUnindented (is_blank : ℕ → Bool) (line text : List ℕ) : Type 0 where
  pub indent : List ℕ
  pub blanks : AllByRecursion (λ b. is_blank b ≡ true) indent
  pub whole : line ≡ indent ++ text
  pub solid_start : StartsSolid is_blank text

-- `trimmed` is `text` without its leading and trailing blanks
pub record IsTrimmed (is_blank : ℕ → Bool) (text trimmed : List ℕ) : Type 0 where
  pub front : List ℕ
  pub back : List ℕ
  pub blanks : AllByRecursion (λ b. is_blank b ≡ true) front
  pub blanks_after : AllByRecursion (λ b. is_blank b ≡ true) back
  pub whole : text ≡ front ++ (trimmed ++ back)
  pub solid_start : StartsSolid is_blank trimmed
  pub solid_end : StartsSolid is_blank (reverse trimmed)
