-- The functions of `Lines` compute what the relations of `LogicalRule` describe, and no other results satisfy these
-- relations.
use Rattle.std.proofs.Common.{◌≡◌, ℕ, ◌+◌, ◌-◌, Bool, true, false, List, [], ◌∷◌, ◌++◌, length, not, filter, map, take, refl, sym, ap, ◌∙◌, inl, inr, arith}
use Rattle.std.specs.Str.Lines.{lines}
use Rattle.std.proofs.Math.Seq.{take-append_seam}
use Rattle.std.proofs.lemmas.List.{length-append}
use Rattle.cal_bytes.specs.rules.Trim.{trim_start_matches}
use Rattle.cal_bytes.proofs.TrimLemmas.{unindented, unindented_only}
use Rattle.cal_timer.specs.rules.Lines.{Group, Line, groups, is_blank_or_return, is_comment, is_continued, joined_line, logical_lines, numbered_lines, part_of_line, physical_lines, plain_lines}
use Rattle.cal_timer.specs.rules.LogicalRule.{AreJoined, AreLogical, ArePhysical, EachIsLogical, IsLinePart}
use Rattle.cal_timer.proofs.GroupLemmas.{parts_of}
use Rattle.cal_timer.proofs.LineLemmas.{ends_in_backslash}
use Rattle.cal_timer.proofs.LineRuleLemmas.{are_groups, groups_of_lines, lines_of_groups}

-- `numbered_lines`, applied to lines without their leading blanks, returns the physical lines that `ArePhysical`
-- describes
pub physical : (number : ℕ) (texts : List (List ℕ)) → ArePhysical number texts (numbered_lines number (map (trim_start_matches is_blank_or_return) texts))
physical number [] = tt
physical number (text ∷ texts) = (refl, unindented is_blank_or_return text, physical (number + 1) texts)

pub physical_only : (number : ℕ) (texts : List (List ℕ)) (all : List Line) → ArePhysical number texts all → all ≡ numbered_lines number (map (trim_start_matches is_blank_or_return) texts)
physical_only number [] [] h = refl
physical_only number [] (line ∷ all) h = absurd h
physical_only number (text ∷ texts) [] h = absurd h
physical_only number (text ∷ texts) (line ∷ all) h =
    let text_is = unindented_only is_blank_or_return text line.text h.1 in
    let rest = physical_only (number + 1) texts all h.2 in
    let first : line ≡ record { number = number; text = trim_start_matches is_blank_or_return text } = λ i. record { number = h.0 i; text = text_is i } in
    ap (λ l. l ∷ all) first ∙ ap (λ ls. record { number = number; text = trim_start_matches is_blank_or_return text } ∷ ls) rest

-- `part_of_line` returns what a line contributes to its logical line according to the rule `IsLinePart`
part_as : (continued : Bool) (text : List ℕ) → is_continued text ≡ continued → IsLinePart text (part_of_line text)
unfolding part_of_line
part_as true text e = rw e (inr (record { continued = e; front = take (length text - 1) text; line = ends_in_backslash text e; said = refl }))
part_as false text e = rw e (inl (refl, refl))

pub part : (text : List ℕ) → IsLinePart text (part_of_line text)
part text = part_as (is_continued text) text refl

front_of : (front : List ℕ) → take (length (front ++ 92 ∷ []) - 1) (front ++ 92 ∷ []) ≡ front
front_of front =
    let n : length (front ++ 92 ∷ []) - 1 ≡ length front = omega (arith, length-append front (92 ∷ [])) in
    rw n (take-append_seam front (92 ∷ []))

pub part_only : (text said : List ℕ) → IsLinePart text said → said ≡ part_of_line text
unfolding part_of_line
part_only text said (inl h) = rw h.0 h.1
part_only text said (inr h) = rw h.continued (h.said ∙ ap (λ front. front ++ 32 ∷ []) (sym (ap (λ t. take (length t - 1) t) h.line ∙ front_of h.front)))

-- `parts_of` returns the joined text that `AreJoined` describes
pub joined : (all : List Line) → AreJoined all (parts_of all)
joined [] = refl
joined (line ∷ all) = (part_of_line line.text, parts_of all, part line.text, joined all, refl)

pub joined_only : (all : List Line) (text : List ℕ) → AreJoined all text → text ≡ parts_of all
joined_only [] text h = h
joined_only (line ∷ all) text h =
    h.4 ∙ (ap (λ p. p ++ h.1) (part_only line.text h.0 h.2) ∙ ap (λ rest. part_of_line line.text ++ rest) (joined_only all h.1 h.3))

-- `joined_line`, applied to each group, returns the logical lines that `EachIsLogical` describes
pub each_logical : (all : List Group) → EachIsLogical all (map joined_line all)
each_logical [] = tt
each_logical (group ∷ all) = (record { number = refl; text = joined (group.first ∷ group.more) }, each_logical all)

pub each_only : (all : List Group) (logical : List Line) → EachIsLogical all logical → logical ≡ map joined_line all
each_only [] [] h = refl
each_only [] (line ∷ logical) h = absurd h
each_only (group ∷ all) [] h = absurd h
each_only (group ∷ all) (line ∷ logical) h =
    let text_is = joined_only (group.first ∷ group.more) line.text h.0.text in
    let first : line ≡ joined_line group = λ i. record { number = h.0.number i; text = text_is i } in
    ap (λ l. l ∷ logical) first ∙ ap (λ ls. joined_line group ∷ ls) (each_only all logical h.1)

-- `logical_lines` returns the logical lines that `AreLogical` describes
pub logical_are : (number : ℕ) (text : List ℕ) → AreLogical number text (logical_lines number text)
unfolding logical_lines plain_lines physical_lines
logical_are number text = record {
  physical = physical_lines number text;
  are_physical = physical number (lines text);
  groups = groups (plain_lines number text);
  plain = lines_of_groups (plain_lines number text);
  are_groups = are_groups (plain_lines number text);
  each = each_logical (groups (plain_lines number text));
}

pub logical_only : (number : ℕ) (text : List ℕ) (all : List Line) → AreLogical number text all → all ≡ logical_lines number text
unfolding logical_lines plain_lines physical_lines
logical_only number text all h =
    let physical_is = physical_only number (lines text) h.physical h.are_physical in
    let groups_are : h.groups ≡ groups (plain_lines number text) = sym (groups_of_lines h.groups h.are_groups) ∙ ap groups (h.plain ∙ ap (filter (λ line. not (is_comment line.text))) physical_is) in
    each_only h.groups all h.each ∙ ap (map joined_line) groups_are
