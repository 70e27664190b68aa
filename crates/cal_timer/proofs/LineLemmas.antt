-- Positions at which a line may be split without cutting a UTF-8 character: beside a blank, and before the backslash
-- that continues the line. How a text is split into lines.
use Rattle.std.proofs.Common.{◌≡◌, ◌<◌, ◌≤◌, ◌+◌, ◌-◌, ℕ, true, List, [], ◌∷◌, ◌++◌, length, get_or, arith, ◌∙◌, ap, refl, reverse, sym, take, ◌==◌}
use Rattle.std.specs.List.{suffix_len}
use Rattle.std.specs.Str.{IsCharBoundary}
use Rattle.std.specs.Str.Lines.{lines_of_parts, strip_carriage_return}
use Rattle.std.proofs.Math.Seq.{take-length}
use Rattle.std.proofs.lemmas.Bool.Decides.{nat_tests}
use Rattle.std.proofs.lemmas.List.{get_or-reverse, take_more}
use Rattle.std.proofs.lemmas.List.Sums.{prefix_len_passes, suffix_len-le-length}
use Rattle.std.proofs.lemmas.Str.{IsCharBoundary-before_ascii}
use Rattle.cal_timer.specs.rules.Lines.{is_blank_or_return, is_continued}

-- spaces, tabs and carriage returns are ASCII, so each is a single byte
pub blank_is_ascii : (b : ℕ) → is_blank_or_return b ≡ true → b < 128
blank_is_ascii b h = grind (arith, nat_tests)

-- a continued line has a last byte, and this byte is a backslash
last_of_continued : (line : List ℕ) → is_continued line ≡ true → (1 ≤ length line) × (get_or line (length line - 1) 0 ≡ 92)
unfolding is_continued
last_of_continued line h =
    let some : 0 < suffix_len (λ b. b == 92) line = grind (arith, nat_tests) in
    let fits = suffix_len-le-length (λ b. b == 92) line in
    let passes : (get_or (reverse line) 0 0 == 92) ≡ true = prefix_len_passes (λ b. b == 92) (reverse line) 0 0 some in
    let there : get_or (reverse line) 0 0 ≡ get_or line (length line - 1) 0 = get_or-reverse line 0 0 (omega arith) ∙ ap (λ k. get_or line k 0) (omega arith) in
    let same : (get_or line (length line - 1) 0 == 92) ≡ true = rw there at passes in
    let byte : get_or line (length line - 1) 0 ≡ 92 = grind (arith, nat_tests) in
    (omega arith, byte)

-- a continued line may be split before the backslash at its end
pub last_is_backslash : (line : List ℕ) → is_continued line ≡ true → (1 ≤ length line) × IsCharBoundary line (length line - 1)
last_is_backslash line h =
    let last = last_of_continued line h in
    (last.0, IsCharBoundary-before_ascii line (length line - 1) (omega (arith, last.0)) (omega (arith, last.1)))

pub ends_in_backslash : (line : List ℕ) → is_continued line ≡ true → line ≡ take (length line - 1) line ++ 92 ∷ []
ends_in_backslash line h =
    let last = last_of_continued line h in
    let whole : length line - 1 + 1 ≡ length line = omega (arith, last.0) in
    sym (take-length line) ∙ (ap (λ n. take n line) (sym whole) ∙ (take_more line (length line - 1) 0 (omega (arith, last.0))
    ∙ ap (λ b. take (length line - 1) line ++ b ∷ []) last.1))

-- ## Physical lines

-- `part` and `parts` are the pieces of a text between line feeds. If `parts` isn't empty, the first line of the text is
-- `part`, without its last byte if this byte is a carriage return, and the other lines are those of `parts`.
pub lines_of_more : (part : List ℕ) (parts : List (List ℕ)) → 0 < length parts → lines_of_parts (part ∷ parts) ≡ strip_carriage_return part ∷ lines_of_parts parts
lines_of_more part [] h = absurd (omega arith)
lines_of_more part (next ∷ parts) h = refl

pub some_line : (part : List ℕ) → 0 < length part → lines_of_parts (part ∷ []) ≡ part ∷ []
some_line [] h = absurd (omega arith)
some_line (b ∷ part) h = grind (arith, nat_tests)
