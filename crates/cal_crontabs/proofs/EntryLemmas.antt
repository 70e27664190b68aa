-- Lemmas on the entries in a list of lines, and on texts that contain another text.
use Rattle.std.proofs.Common.{◌≡◌, ◌∙◌, ◌||◌, ℕ, Bool, true, false, List, [], ◌∷◌, ◌++◌, Option, None, ap, append-nil, append_assoc, drop, length, map, nat_eq, refl, sym}
use Rattle.std.proofs.lemmas.Bool.Decides.{Decides-eqb}
use Rattle.std.proofs.lemmas.List.{map-append}
use Rattle.std.proofs.lemmas.Slice.Eq.{starts_is}
use Rattle.std.proofs.lemmas.Str.Pattern.{contains_text}
use Rattle.std.specs.Bool.{MatchBool}
use Rattle.std.specs.List.{starts_with}
use Rattle.std.specs.Str.Iter.{HasSubslice}
use Rattle.std.specs.Str.Pattern.{FindsText, HasMatch}
use Rattle.cal_cron.specs.rules.CrontabLines.{Line}
use Rattle.cal_crontabs.specs.rules.Crontabs.{Crontab}
use Rattle.cal_crontabs.specs.rules.Entries.{EntryView, entries_at, entries_below, has_text, zone_after}

-- ## Lines

-- the value of `CRON_TZ` below lines, if `cron_tz` is the value above them
unfoldable pub zone_below : Option (List ℕ) → List Line → Option (List ℕ)
zone_below cron_tz [] = cron_tz
zone_below cron_tz (line ∷ lines) = zone_below (zone_after cron_tz line.content) lines

pub zone_more : (cron_tz : Option (List ℕ)) (lines : List Line) (line : Line)
    → zone_below cron_tz (lines ++ line ∷ []) ≡ zone_after (zone_below cron_tz lines) line.content
unfolding zone_below
zone_more cron_tz [] line = refl
zone_more cron_tz (first ∷ lines) line = zone_more (zone_after cron_tz first.content) lines line

pub entries_more : (crontab : Crontab) (cron_tz : Option (List ℕ)) (lines : List Line) (line : Line)
    → entries_below crontab cron_tz (lines ++ line ∷ []) ≡ entries_below crontab cron_tz lines ++ entries_at crontab (zone_below cron_tz lines) line
unfolding zone_below entries_below
entries_more crontab cron_tz [] line = append-nil (entries_at crontab cron_tz line)
entries_more crontab cron_tz (first ∷ lines) line =
    ap (λ more. entries_at crontab cron_tz first ++ more) (entries_more crontab (zone_after cron_tz first.content) lines line)
    ∙ sym (append_assoc (entries_at crontab cron_tz first) _ _)

-- a loop's step: the entry of one more line, if it has one, is at the end
pub entry_added : {X : Type 0} (crontab : Crontab) (view : X → Line) (xs : List X) (x : X) (all : List X) (cron_tz : Option (List ℕ)) (start now new : List EntryView)
    → xs ++ x ∷ [] ≡ all → now ≡ start ++ entries_below crontab None (map view xs) → cron_tz ≡ zone_below None (map view xs)
    → new ≡ now ++ entries_at crontab cron_tz (view x) → new ≡ start ++ entries_below crontab None (map view all)
entry_added crontab view xs x all cron_tz start now new same was above more =
    more
    ∙ ap (λ l. l ++ entries_at crontab cron_tz (view x)) was
    ∙ append_assoc start (entries_below crontab None (map view xs)) (entries_at crontab cron_tz (view x))
    ∙ ap (λ z. start ++ (entries_below crontab None (map view xs) ++ entries_at crontab z (view x))) above
    ∙ ap (λ l. start ++ l)
    (sym (entries_more crontab None (map view xs) (view x)) ∙ ap (entries_below crontab None) (sym (map-append view xs (x ∷ [])) ∙ ap (map view) same))

-- a loop's step: the value of `CRON_TZ` below one more line
pub zone_added : {X : Type 0} (view : X → Line) (xs : List X) (x : X) (all : List X) (cron_tz below : Option (List ℕ))
    → xs ++ x ∷ [] ≡ all → cron_tz ≡ zone_below None (map view xs) → below ≡ zone_after cron_tz (view x).content → below ≡ zone_below None (map view all)
zone_added view xs x all cron_tz below same was after =
    after ∙ ap (λ z. zone_after z (view x).content) was
    ∙ sym (zone_more None (map view xs) (view x)) ∙ ap (zone_below None) (sym (map-append view xs (x ∷ [])) ∙ ap (map view) same)

-- ## A text in a text

starts : (needle text rest : List ℕ) → text ≡ needle ++ rest → starts_with nat_eq text needle ≡ true
starts needle text rest is = (starts_is Decides-eqb text needle _ refl).1 rest is

found_or : (needle : List ℕ) (b : ℕ) (bs : List ℕ) (r : Bool) → r ≡ starts_with nat_eq (b ∷ bs) needle → r || has_text needle bs ≡ true
    → (has_text needle bs ≡ true → HasSubslice bs needle) → HasSubslice (b ∷ bs) needle
found_or needle b bs true same has later = ([], drop (length needle) (b ∷ bs), (starts_is Decides-eqb (b ∷ bs) needle _ refl).0 (sym same))
found_or needle b bs false same has later = let found = later has in (b ∷ found.0, found.1, ap (λ l. b ∷ l) found.2)

found_in : (needle text : List ℕ) → has_text needle text ≡ true → HasSubslice text needle
unfolding has_text
found_in needle [] is = ([], drop (length needle) [], (starts_is Decides-eqb [] needle _ refl).0 is)
found_in needle (b ∷ bs) is = found_or needle b bs (starts_with nat_eq (b ∷ bs) needle) refl is (found_in needle bs)

front_true : (needle text rest : List ℕ) → text ≡ needle ++ rest → has_text needle text ≡ true
unfolding has_text
front_true needle [] rest is = starts needle [] rest is
front_true needle (b ∷ bs) rest is = ap (λ r. r || has_text needle bs) (starts needle (b ∷ bs) rest is)

or_true : (r : Bool) → r || true ≡ true
or_true true = refl
or_true false = refl

inside_true : (needle before rest : List ℕ) → has_text needle (before ++ (needle ++ rest)) ≡ true
unfolding has_text
inside_true needle [] rest = front_true needle (needle ++ rest) rest refl
inside_true needle (b ∷ bs) rest =
    ap (λ r. starts_with nat_eq (b ∷ (bs ++ (needle ++ rest))) needle || r) (inside_true needle bs rest)
    ∙ or_true (starts_with nat_eq (b ∷ (bs ++ (needle ++ rest))) needle)

-- `contains` returns whether the text contains the needle
pub contains_is : (r : Bool) (needle text : List ℕ) → MatchBool r (HasMatch (FindsText needle) text) (FindsText needle text None)
    → r ≡ has_text needle text
contains_is true needle text is =
    let at = (contains_text true needle text is).0 refl in
    sym (ap (has_text needle) at.2 ∙ inside_true needle at.0 at.1)
contains_is false needle text is = by (has_text needle text) refl
  where
    by : (r : Bool) → r ≡ has_text needle text → false ≡ r
    by true same = (contains_text false needle text is).1 (found_in needle text (sym same))
    by false same = refl
