-- Lemmas on the lines of a file and the words at fault in them.
use Rattle.std.proofs.Common.{◌≡◌, ◌∙◌, ◌-◌, ◌<◌, ◌≤◌, ℕ, Bool, Bor, List, [], ◌∷◌, Option, None, Some, true, false, ap, arith, drop, length, refl, replicate, suc, sym, take, zero}
use Rattle.std.proofs.Math.Bool.{and-false}
use Rattle.std.proofs.lemmas.Bool.{and_parts}
use Rattle.std.proofs.lemmas.Bool.Decides.{nat_tests}
use Rattle.std.proofs.lemmas.Str.{IsCharBoundary-from_take, IsUtf8-from_is_utf8, IsUtf8-take, is_utf8-from_IsUtf8}
use Rattle.std.specs.Char.{encode_utf8}
use Rattle.std.specs.List.{flat_map}
use Rattle.std.specs.Option.{option_map, unwrap_or}
use Rattle.std.specs.Prelude.{◌&&◌, if◌then◌else◌, nat_le, not, slice_get}
use Rattle.std.specs.Str.{IsCharBoundary, IsUtf8, is_utf8}
use Rattle.cal_lint.specs.declared.problems.Finding.{Finding}
use Rattle.cal_timers_text.specs.rules.LintText.{can_cut, has_column, is_in_value, word_at_fault, word_from}

-- the line that `nth` found, or an empty text if it found none, is what `slice_get` returns, with an empty text as the
-- default
pub line_or_empty : (lines : List (List ℕ)) (index : ℕ) (found : Option (Bor (List ℕ))) (empty : Bor (List ℕ)) → empty.now ≡ []
    → option_map (λ line. line.now) found ≡ slice_get lines index → (unwrap_or found empty).now ≡ unwrap_or (slice_get lines index) []
line_or_empty lines index None empty none h = none ∙ ap (λ line. unwrap_or line []) h
line_or_empty lines index (Some line) empty none h = ap (λ line. unwrap_or line []) h

unless : (b : Bool) → (b ≡ true → false ≡ true) → b ≡ false
unless true h = sym (h refl)
unless false h = refl

fits : (count length : ℕ) → count ≤ length → nat_le count length ≡ true
fits count length h = grind (arith, nat_tests)

past : (column : ℕ) → 1 < column → nat_le column 1 ≡ false
past column h = grind (arith, nat_tests)

fitting : (count length : ℕ) → nat_le count length ≡ true → count ≤ length
fitting count length h = grind (arith, nat_tests)

-- a text can be cut where a character begins or the text ends
cut_at : (text : List ℕ) (count : ℕ) → IsUtf8 text → IsCharBoundary text count → can_cut text count ≡ true
cut_at text count utf8 boundary =
    ap (λ b. b && is_utf8 (take count text)) (fits count (length text) boundary.0)
    ∙ is_utf8-from_IsUtf8 (take count text) (IsUtf8-take text count utf8 boundary)

no_cut_at : (text : List ℕ) (count : ℕ) → IsUtf8 text → (IsCharBoundary text count → false ≡ true) → can_cut text count ≡ false
no_cut_at text count utf8 none =
    unless (can_cut text count) (λ h.
    let parts = and_parts (nat_le count (length text)) (is_utf8 (take count text)) h in
    none (IsCharBoundary-from_take text count utf8 (fitting count (length text) parts.0) (IsUtf8-from_is_utf8 (take count text) parts.1)))

-- ## The word at fault

word_by : (line : List ℕ) (finding : Finding) (has : Bool) → has_column line finding ≡ has
    → word_at_fault line finding
    ≡ (if has then Some (take (finding.column - 1) line, word_from finding.problem (drop (finding.column - 1) line)) else None)
unfolding word_at_fault
word_by line finding has h =
    ap (λ b. if b then Some (take (finding.column - 1) line, word_from finding.problem (drop (finding.column - 1) line)) else None) h

-- there is no word at fault if the line can't be cut at the column of the problem
pub word_outside : (line : List ℕ) (finding : Finding) → IsUtf8 line → (IsCharBoundary line (finding.column - 1) → false ≡ true) → word_at_fault line finding ≡ None
word_outside line finding utf8 none =
    word_by line finding false
    (ap (λ b. not (is_in_value finding.problem && nat_le finding.column 1) && b) (no_cut_at line (finding.column - 1) utf8 none)
    ∙ and-false (not (is_in_value finding.problem && nat_le finding.column 1)))

-- if the column is known and the line can be cut at it, the word at fault begins at the column
pub word_at_known : (line : List ℕ) (finding : Finding) → IsUtf8 line → IsCharBoundary line (finding.column - 1)
    → not (is_in_value finding.problem && nat_le finding.column 1) ≡ true
    → word_at_fault line finding ≡ Some (take (finding.column - 1) line, word_from finding.problem (drop (finding.column - 1) line))
word_at_known line finding utf8 boundary known =
    word_by line finding true
    (ap (λ b. b && can_cut line (finding.column - 1)) known ∙ cut_at line (finding.column - 1) utf8 boundary)

-- the column of a problem is known if it isn't the first, or if the problem isn't in a value
pub known_by_column : (inside : Bool) (column : ℕ) → 1 < column → not (inside && nat_le column 1) ≡ true
known_by_column inside column h = ap (λ b. not (inside && b)) (past column h) ∙ ap not (and-false inside)

pub known_by_key : (inside : Bool) (column : ℕ) → inside ≡ false → not (inside && nat_le column 1) ≡ true
known_by_key inside column h = ap (λ b. not (b && nat_le column 1)) h

-- ## The caret

-- a tilde is a single byte
pub tildes : (count : ℕ) → flat_map encode_utf8 (replicate count 126) ≡ replicate count 126
unfolding encode_utf8
tildes zero = refl
tildes (suc count) = ap (λ text. 126 ∷ text) (tildes count)
