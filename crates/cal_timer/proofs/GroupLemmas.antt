-- Lemmas for the loop that skips comments and for the loop that joins physical lines into a logical line.
use Rattle.std.proofs.Common.{arith, ◌≡◌, ℕ, ◌+◌, Bool, true, false, List, [], ◌∷◌, ◌++◌, map, refl, sym, ap, ◌∙◌, append_assoc, append-nil}
use Rattle.std.specs.List.{flat_map}
use Rattle.std.specs.Str.Lines.{lines}
use Rattle.cal_bytes.specs.rules.Trim.{trim_start_matches}
use Rattle.cal_timer.specs.rules.Lines.{Group, Line, continued_by, groups, is_blank_or_return, is_comment, is_continued, joined_line, logical_lines, part_of_line, physical_lines, plain_lines}

-- if the first physical line is not a comment, it comes first in `plain_lines`, followed by the lines of the remaining
-- text that are not comments
pub plain_here : (n : ℕ) (text line rest : List ℕ) → lines text ≡ line ∷ lines rest → is_comment (trim_start_matches is_blank_or_return line) ≡ false → plain_lines n text ≡ record { number = n; text = trim_start_matches is_blank_or_return line } ∷ plain_lines (n + 1) rest
unfolding physical_lines plain_lines
plain_here n text line rest e f = rw (e, f) refl

pub plain_skipped : (n : ℕ) (text line rest : List ℕ) → lines text ≡ line ∷ lines rest → is_comment (trim_start_matches is_blank_or_return line) ≡ true → plain_lines n text ≡ plain_lines (n + 1) rest
unfolding physical_lines plain_lines
plain_skipped n text line rest e f = rw (e, f) refl

pub plain_none : (n : ℕ) (text : List ℕ) → lines text ≡ [] → plain_lines n text ≡ []
unfolding physical_lines plain_lines
plain_none n text e = rw e refl

-- the concatenation of what these lines contribute to their logical line
abbrev pub parts_of : List Line → List ℕ
parts_of = flat_map (λ line. part_of_line line.text)

-- The logical lines of these groups, except that the first logical line has the number `n`, and `front` stands before
-- its text. If there are no groups, the only logical line has the number `n` and the text `front`.
abbrev pub after : ℕ → List ℕ → List Group → List Line
after n front [] = record { number = n; text = front } ∷ []
after n front (group ∷ rest) = record { number = n; text = front ++ parts_of (group.first ∷ group.more) } ∷ map joined_line rest

-- The logical lines of a text whose first logical line has the number `n` and, so far, the text `front`. If the Boolean
-- is `true`, this line continues in the physical lines `ls`. Otherwise it is complete, and `ls` come after it.
abbrev pub goes_on_in : ℕ → List ℕ → Bool → List Line → List Line
goes_on_in n front true ls = after n front (groups ls)
goes_on_in n front false ls = record { number = n; text = front } ∷ map joined_line (groups ls)

-- putting `line` at the front of the first group (`continued_by`) has the same effect on `after` as appending to
-- `front` what `line` contributes to its logical line
pub joined_continued : (n : ℕ) (front : List ℕ) (line : Line) (gs : List Group) → after n front (continued_by line gs) ≡ after n (front ++ part_of_line line.text) gs
joined_continued n front line [] = ap (λ text. record { number = n; text = text } ∷ []) (ap (λ xs. front ++ xs) (append-nil (part_of_line line.text)))
joined_continued n front line (g ∷ gs) = ap (λ text. record { number = n; text = text } ∷ map joined_line gs) (sym (append_assoc front (part_of_line line.text) (parts_of (g.first ∷ g.more))))

pub line_joined : (n : ℕ) (front : List ℕ) (line : Line) (ls : List Line) → goes_on_in n front true (line ∷ ls) ≡ goes_on_in n (front ++ part_of_line line.text) (is_continued line.text) ls
unfolding groups
line_joined n front line ls = grind (arith, append-nil (part_of_line line.text), joined_continued n front line (groups ls))

continued_alone : (line : Line) (gs : List Group) → map joined_line (continued_by line gs) ≡ after line.number (part_of_line line.text) gs
continued_alone line [] = ap (λ text. record { number = line.number; text = text } ∷ []) (append-nil (part_of_line line.text))
continued_alone line (g ∷ gs) = refl

-- the first logical line begins with what the first physical line contributes, and goes on in the later physical lines
-- if the first is continued
pub line_begins : (line : Line) (ls : List Line) → map joined_line (groups (line ∷ ls)) ≡ goes_on_in line.number (part_of_line line.text) (is_continued line.text) ls
unfolding groups
line_begins line ls = grind (arith, append-nil (part_of_line line.text), continued_alone line (groups ls))

-- at the end of the file a logical line is complete, whether its last physical line is continued or not
pub line_ends : (n : ℕ) (front : List ℕ) (goes_on : Bool) → goes_on_in n front goes_on [] ≡ record { number = n; text = front } ∷ []
unfolding groups
line_ends n front true = refl
line_ends n front false = refl

-- if all lines of a text are comments, or if it has no lines, it has no logical lines
pub logical_none : (n : ℕ) (text : List ℕ) → plain_lines n text ≡ [] → logical_lines n text ≡ []
unfolding logical_lines groups
logical_none n text e = rw e refl

pub logical_begins : (n : ℕ) (text : List ℕ) (line : Line) (rest : List Line) (joined : List ℕ) (goes_on : Bool) → plain_lines n text ≡ line ∷ rest → joined ≡ [] ++ part_of_line line.text → goes_on ≡ is_continued line.text → logical_lines n text ≡ goes_on_in line.number joined goes_on rest
unfolding logical_lines
logical_begins n text line rest joined goes_on e f h = rw (e, f, h) (line_begins line rest)

pub logical_goes_on : (n : ℕ) (front : List ℕ) (goes_on : Bool) (all lines : List Line) (line : Line) (rest : List Line) (joined : List ℕ) (more : Bool) → all ≡ goes_on_in n front goes_on lines → goes_on ≡ true → lines ≡ line ∷ rest → joined ≡ front ++ part_of_line line.text → more ≡ is_continued line.text → all ≡ goes_on_in n joined more rest
logical_goes_on n front goes_on all lines line rest joined more so_far e f g h = so_far ∙ rw (e, f, g, h) (line_joined n front line rest)

pub logical_ends : (n : ℕ) (front : List ℕ) (goes_on : Bool) (all : List Line) (next : ℕ) (rest : List ℕ) → all ≡ goes_on_in n front goes_on (plain_lines next rest) → goes_on ≡ false → all ≡ record { number = n; text = front } ∷ logical_lines next rest
unfolding logical_lines
logical_ends n front goes_on all next rest so_far e = so_far ∙ rw e refl

pub logical_stops : (n : ℕ) (front : List ℕ) (goes_on : Bool) (all : List Line) (next : ℕ) (rest : List ℕ) → all ≡ goes_on_in n front goes_on (plain_lines next rest) → plain_lines next rest ≡ [] → all ≡ record { number = n; text = front } ∷ logical_lines next rest
logical_stops n front goes_on all next rest so_far e = so_far ∙ ap (goes_on_in n front goes_on) e ∙ line_ends n front goes_on ∙ ap (λ lines. record { number = n; text = front } ∷ lines) (sym (logical_none next rest e))
