-- The results of `trim_start_matches` and `trim_matches` satisfy the relations of `TrimRule`, and no other texts do.
use Rattle.std.proofs.Common.{◌≡◌, ℕ, Bool, true, false, List, [], ◌∷◌, ◌++◌, reverse, refl, sym, subst, ap, ◌∙◌, append-nil, arith, drop, length, length-drop, take, ◌-◌, ◌≤◌}
use Rattle.std.specs.List.{AllByRecursion, suffix_len}
use Rattle.std.proofs.Math.Numerals.{one-add}
use Rattle.std.proofs.lemmas.List.{reverse-append, reverse-reverse, length-reverse, length-take, take-append-drop}
use Rattle.std.proofs.lemmas.List.Sums.{suffix_len-le-length}
use Rattle.cal_bytes.specs.rules.Separators.{is_blank}
use Rattle.cal_bytes.specs.rules.TrimRule.{StartsSolid, IsTrimmed, IsUnindented}
use Rattle.cal_bytes.specs.rules.Trim.{trim_matches, trim_end_matches, trim_start_matches}
use Rattle.cal_bytes.proofs.General.{all_append, all_reverse}
use Rattle.std.proofs.Math.Seq.{take-append_seam}

-- reversing a list, dropping the first `n` items, and reversing the result drops the last `n` items of the list
take_front : (text : List ℕ) (n : ℕ) → n ≤ length text → take (length text - n) text ≡ reverse (drop n (reverse text))
take_front text n h =
    let back = reverse text in
    let parts : text ≡ reverse (drop n back) ++ reverse (take n back) =
    sym (reverse-reverse text) ∙ (ap reverse (sym (take-append-drop n back)) ∙ reverse-append (take n back) (drop n back)) in
    let long : length text - n ≡ length (reverse (drop n back)) = simp (length-reverse, length-drop) (omega arith) in
    ap (take (length text - n)) parts ∙ (ap (λ k. take k (reverse (drop n back) ++ reverse (take n back))) long ∙ take-append_seam (reverse (drop n back)) (reverse (take n back)))

-- if `trim_start_matches` removes exactly the leading blanks from `bs`, it also removes exactly the leading blanks from
-- `b ∷ bs`
unindented_as : (p : ℕ → Bool) (blank : Bool) (b : ℕ) (bs : List ℕ) → p b ≡ blank → IsUnindented p bs (trim_start_matches p bs) → IsUnindented p (b ∷ bs) (trim_start_matches p (b ∷ bs))
unfolding trim_start_matches
unindented_as p true b bs e rest = rw (e, one-add) (record { indent = b ∷ rest.indent; blanks = (e, rest.blanks); whole = ap (λ xs. b ∷ xs) rest.whole; solid_start = rest.solid_start })
unindented_as p false b bs e rest = rw e (record { indent = []; blanks = tt; whole = refl; solid_start = e })

pub unindented : (p : ℕ → Bool) (line : List ℕ) → IsUnindented p line (trim_start_matches p line)
unfolding trim_start_matches
unindented p [] = record { indent = []; blanks = tt; whole = refl; solid_start = tt }
unindented p (b ∷ bs) = unindented_as p (p b) b bs refl (unindented p bs)

trimmed : (p : ℕ → Bool) (indent text : List ℕ) → AllByRecursion (λ b. p b ≡ true) indent → StartsSolid p text → trim_start_matches p (indent ++ text) ≡ text
unfolding trim_start_matches
trimmed p [] [] blanks solid_start = refl
trimmed p [] (b ∷ bs) blanks solid_start = rw solid_start
trimmed p (b ∷ indent) text blanks solid_start = rw (blanks.0, one-add) (trimmed p indent text blanks.1 solid_start)

pub unindented_only : (p : ℕ → Bool) (line text : List ℕ) → IsUnindented p line text → text ≡ trim_start_matches p line
unindented_only p line text h = sym (ap (trim_start_matches p) h.whole ∙ trimmed p h.indent text h.blanks h.solid_start)

end_is : (p : ℕ → Bool) (text : List ℕ) → trim_end_matches p text ≡ reverse (trim_start_matches p (reverse text))
unfolding trim_end_matches trim_start_matches
end_is p text = take_front text (suffix_len p text) (suffix_len-le-length p text)

solid_front : (p : ℕ → Bool) (xs ys : List ℕ) → StartsSolid p (xs ++ ys) → StartsSolid p xs
solid_front p [] ys h = tt
solid_front p (x ∷ xs) ys h = h

-- `trim_matches` removes exactly the leading and trailing blanks
pub trim_is : (p : ℕ → Bool) (text : List ℕ) → IsTrimmed p text (trim_matches p text)
unfolding trim_matches
trim_is p text =
    let start = unindented p text in
    let turned = unindented p (reverse (trim_start_matches p text)) in
    let parts : trim_start_matches p text ≡ trim_end_matches p (trim_start_matches p text) ++ reverse turned.indent =
    sym (reverse-reverse (trim_start_matches p text)) ∙ (ap reverse turned.whole ∙ (reverse-append turned.indent (trim_start_matches p (reverse (trim_start_matches p text)))
    ∙ ap (λ xs. xs ++ reverse turned.indent) (sym (end_is p (trim_start_matches p text))))) in
    record {
      front = start.indent;
      back = reverse turned.indent;
      blanks = start.blanks;
      blanks_after = all_reverse (λ b. p b ≡ true) turned.indent turned.blanks;
      whole = start.whole ∙ ap (λ xs. start.indent ++ xs) parts;
      solid_start = solid_front p (trim_end_matches p (trim_start_matches p text)) (reverse turned.indent) (subst (StartsSolid p) parts start.solid_start);
      solid_end = subst (StartsSolid p) (sym (ap reverse (end_is p (trim_start_matches p text)) ∙ reverse-reverse (trim_start_matches p (reverse (trim_start_matches p text))))) turned.solid_start;
    }

all_blank : (p : ℕ → Bool) (blanks : List ℕ) → AllByRecursion (λ b. p b ≡ true) blanks → trim_start_matches p blanks ≡ []
all_blank p blanks h = ap (trim_start_matches p) (sym (append-nil blanks)) ∙ trimmed p blanks [] h tt

end_of : (p : ℕ → Bool) (text blanks : List ℕ) → AllByRecursion (λ b. p b ≡ true) blanks → StartsSolid p (reverse text) → trim_end_matches p (text ++ blanks) ≡ text
end_of p text blanks h solid_start =
    end_is p (text ++ blanks) ∙ (ap (λ xs. reverse (trim_start_matches p xs)) (reverse-append text blanks)
    ∙ (ap reverse (trimmed p (reverse blanks) (reverse text) (all_reverse (λ b. p b ≡ true) blanks h) solid_start) ∙ reverse-reverse text))

trim_of : (p : ℕ → Bool) (front text back : List ℕ) → AllByRecursion (λ b. p b ≡ true) front → AllByRecursion (λ b. p b ≡ true) back → StartsSolid p text → StartsSolid p (reverse text)
    → trim_matches p (front ++ (text ++ back)) ≡ text
unfolding trim_matches
trim_of p front [] back before after solid_start solid_end =
    ap (trim_end_matches p) (all_blank p (front ++ back) (all_append (λ b. p b ≡ true) front back before after)) ∙ end_of p [] [] tt tt
trim_of p front (x ∷ xs) back before after solid_start solid_end =
    ap (trim_end_matches p) (trimmed p front ((x ∷ xs) ++ back) before solid_start) ∙ end_of p (x ∷ xs) back after solid_end

pub trim_only : (p : ℕ → Bool) (text trimmed : List ℕ) → IsTrimmed p text trimmed → trimmed ≡ trim_matches p text
trim_only p text said h = sym (ap (trim_matches p) h.whole ∙ trim_of p h.front said h.back h.blanks h.blanks_after h.solid_start h.solid_end)

-- a text without its trailing blanks isn't longer than the text
pub trimmed_is_shorter : (text : List ℕ) → length (trim_end_matches is_blank text) ≤ length text
unfolding trim_end_matches
trimmed_is_shorter text = omega (arith, length-take (length text - suffix_len is_blank text) text)
