-- Trimming. Each definition takes the test for blanks as its first argument.
use Rattle.std.specs.Prelude.{ℕ, ◌-◌, Bool, List, length, take, drop}
use Rattle.std.specs.List.{prefix_len, suffix_len}

-- the text without leading blanks
unfoldable pub trim_start_matches : (ℕ → Bool) → List ℕ → List ℕ
trim_start_matches is_blank text = drop (prefix_len is_blank text) text

-- the text without trailing blanks
unfoldable pub trim_end_matches : (ℕ → Bool) → List ℕ → List ℕ
trim_end_matches is_blank text = take (length text - suffix_len is_blank text) text

-- the text without leading and trailing blanks
unfoldable pub trim_matches : (ℕ → Bool) → List ℕ → List ℕ
trim_matches is_blank text = trim_end_matches is_blank (trim_start_matches is_blank text)
