-- The parser accepts exactly the weekday lists that the grammar allows.
use Rattle.std.proofs.Common.{ℕ, suc, ◌-◌, ◌<◌, ◌≡◌, ◌⊎◌, inl, inr, Bool, true, false, cond, ◌&&◌, ◌||◌, List, [], ◌∷◌, ◌++◌, length, map, take, drop, get_or, codes, Option, Some, None, Ok, refl, sym, ap, ◌∙◌, arith}
use Rattle.std.specs.Prelude.{◌==◌, is_some, slice_index}
use Rattle.std.specs.List.{AllByRecursion, AllZip, list_all, slice_split, join_with_byte, position_or_len, find}
use Rattle.std.specs.Option.{option_map}
use Rattle.std.specs.Char.{is_ascii_alphabetic, is_ascii_lowercase, to_ascii_lowercase}
use Rattle.std.specs.Str.{str_eq_ignore_ascii_case}
use Rattle.std.proofs.lemmas.Bool.{and_parts, cases_Bool, or_cases, or_left, eqb-true}
use Rattle.std.proofs.lemmas.Bool.Decides.{nat_tests}
use Rattle.std.proofs.lemmas.List.{append-nil, append_assoc, take-append-drop, length-append, take_at, drop_at}
use Rattle.std.proofs.lemmas.List.Folds.{list_all-map}
use Rattle.std.proofs.lemmas.List.Splits.{join_with_byte-slice_split}
use Rattle.std.proofs.lemmas.Slice.Eq.{bytes_eq-Decides}
use Rattle.jiff_core.specs.declared.civil.weekday.Weekday.{Weekday}
use Rattle.jiff_core.specs.declared.civil.weekday.Weekday.TheVariants.{Monday}
use Rattle.cal_civil.specs.rules.Weekday.{week, name_of, short_name_of}
use Rattle.cal_bytes.specs.rules.Separators.{is_comma}
use Rattle.cal_spec.specs.rules.GrammarRule.{IsName, IsItem, AreWeekdays, HasWeekdays}
use Rattle.cal_spec.specs.rules.WeekdayNames.{day_named, is_no_letter, leading_letters, after_letters, after_joint, days_to, days_from, days_by, days_of}
use Rattle.cal_spec.specs.computed.WeekdayLists.{items_of, without_comma, listed_days, weekdays_of, weekdays_in}
use Rattle.cal_spec.specs.rules.Weekdays.{set_of}
use Rattle.cal_civil.specs.rules.ZoneName.{begins_with_letter}
use Rattle.cal_spec.specs.declared.weekdays.WeekdayRange.{WeekdayRange}
use Rattle.cal_spec.proofs.FieldLemmas.{items_of-cons, weekdays_found}
use Rattle.cal_bytes.proofs.General.{list_all-both, some_none, some_pieces, list_all-wider, IsClear, Apart, clear_of, split_join_with_byte}

-- ## The parser recognizes exactly the names of weekdays that the grammar allows

same_word : (text name : List ℕ) → str_eq_ignore_ascii_case text name ≡ true → map to_ascii_lowercase text ≡ map to_ascii_lowercase name
same_word text name test = (bytes_eq-Decides (map to_ascii_lowercase text) (map to_ascii_lowercase name)).0 test

found_passes : {X : Type 0} (p : X → Bool) (xs : List X) (x : X) → find p xs ≡ Some x → p x ≡ true
found_passes p [] x at = cc
found_passes p (y ∷ ys) x at =
    elim (cases_Bool (p y)) [
      | inl is ↦ (let same : y ≡ x = (let e = rw is at at in cc) in rw same at is)
      | inr fails ↦ found_passes p ys x (rw fails at at)
    ]

name_found : (text : List ℕ) (day : Weekday) → day_named text ≡ Some day → IsName text day
unfolding day_named
name_found text day at =
    let test = found_passes (λ (d : Weekday). str_eq_ignore_ascii_case text (name_of d) || str_eq_ignore_ascii_case text (short_name_of d)) week day at in
    elim (or_cases (str_eq_ignore_ascii_case text (name_of day)) (str_eq_ignore_ascii_case text (short_name_of day)) test) [
      | inl long ↦ inl (same_word text (name_of day) long)
      | inr short ↦ inr (same_word text (short_name_of day) short)
    ]

-- both names of each weekday are recognized and consist of letters only
names_of : (day : Weekday) → (day_named (name_of day) ≡ Some day) × (day_named (short_name_of day) ≡ Some day) × (list_all is_ascii_lowercase (map to_ascii_lowercase (name_of day)) ≡ true) × (list_all is_ascii_lowercase (map to_ascii_lowercase (short_name_of day)) ≡ true)
unfolding day_named name_of
names_of Monday = (refl, refl, refl, refl)
names_of day = (refl, refl, refl, refl)

name_only : (text : List ℕ) (day : Weekday) → IsName text day → day_named text ≡ Some day
unfolding day_named
name_only text day (inl is) = rw is (names_of day).0
name_only text day (inr is) = rw is (names_of day).1

some_name : (text : List ℕ) (day : Weekday) → IsName text day → 0 < length text
unfolding day_named name_of
some_name [] day is = absurd (some_none day (sym (name_only [] day is)))
some_name (b ∷ bs) day is = omega arith

pub letter_by : (b : ℕ) → is_ascii_lowercase (to_ascii_lowercase b) ≡ true → is_ascii_alphabetic b ≡ true
letter_by b test = grind (arith, nat_tests)

letters_by : (bs : List ℕ) → list_all is_ascii_lowercase (map to_ascii_lowercase bs) ≡ true → list_all is_ascii_alphabetic bs ≡ true
letters_by bs all = list_all-wider (λ b. is_ascii_lowercase (to_ascii_lowercase b)) is_ascii_alphabetic bs letter_by (rw list_all-map at all)

pub name_letters : (text : List ℕ) (day : Weekday) → IsName text day → list_all is_ascii_alphabetic text ≡ true
name_letters text day (inl is) = letters_by text (ap (list_all is_ascii_lowercase) is ∙ (names_of day).2)
name_letters text day (inr is) = letters_by text (ap (list_all is_ascii_lowercase) is ∙ (names_of day).3)

-- ## Splitting a text after its leading letters

front_len : (xs rest : List ℕ) → list_all is_ascii_alphabetic xs ≡ true → begins_with_letter rest ≡ false → position_or_len is_no_letter (xs ++ rest) ≡ length xs
front_len [] [] all stop = refl
front_len [] (c ∷ ys) all stop = rw stop refl
front_len (x ∷ xs) rest all stop =
    let parts = and_parts (is_ascii_alphabetic x) (list_all is_ascii_alphabetic xs) all in
    let after = front_len xs rest parts.1 stop in
    rw (parts.0, after) (omega arith)

letters_at : (xs rest : List ℕ) → list_all is_ascii_alphabetic xs ≡ true → begins_with_letter rest ≡ false → (leading_letters (xs ++ rest) ≡ xs) × (after_letters (xs ++ rest) ≡ rest)
letters_at xs rest all stop =
    let len = front_len xs rest all stop in
    (ap (λ n. take n (xs ++ rest)) len ∙ take_at xs rest _ refl, ap (λ n. drop n (xs ++ rest)) len ∙ drop_at xs rest _ refl)

-- ## If parsing an item succeeds, the grammar allows the item

pub record JointRead (text : List ℕ) (name : List ℕ) : Type 0 where
  pub joint : List ℕ
  pub joint_is : (joint ≡ codes "..") ⊎ (joint ≡ codes "-")
  pub whole : text ≡ joint ++ name

one_joint : (b : ℕ) (name : List ℕ) (dash : Bool) → (b == 45) ≡ dash → cond dash (Some []) None ≡ Some name → JointRead (b ∷ []) name
one_joint b name true is at =
    let none : [] ≡ name = cc in
    rw (← none) (record { joint = codes "-"; joint_is = inr refl; whole = ap (λ c. c ∷ []) (eqb-true b 45 is) })
one_joint b name false is at = cc

two_joint : (b c : ℕ) (bs name : List ℕ) (dash dots : Bool) → (b == 45) ≡ dash → ((b == 46) && (c == 46)) ≡ dots → cond dash (Some (c ∷ bs)) (cond dots (Some bs) None) ≡ Some name → JointRead (b ∷ c ∷ bs) name
two_joint b c bs name true dots is points at =
    let same : c ∷ bs ≡ name = cc in
    rw (← same) (record { joint = codes "-"; joint_is = inr refl; whole = ap (λ d. d ∷ c ∷ bs) (eqb-true b 45 is) })
two_joint b c bs name false true is points at =
    let same : bs ≡ name = cc in
    let both = and_parts (b == 46) (c == 46) points in
    rw (← same) (record { joint = codes ".."; joint_is = inl refl; whole = ap (λ d. d ∷ c ∷ bs) (eqb-true b 46 both.0) ∙ ap (λ d. 46 ∷ d ∷ bs) (eqb-true c 46 both.1) })
two_joint b c bs name false false is points at = cc

joint_read : (text name : List ℕ) → after_joint text ≡ Some name → JointRead text name
joint_read [] name at = cc
joint_read (b ∷ []) name at = one_joint b name (b == 45) refl at
joint_read (b ∷ c ∷ bs) name at = two_joint b c bs name (b == 45) ((b == 46) && (c == 46)) refl refl at

last_read : (first : Weekday) (letters text name : List ℕ) (o : Option Weekday) (days : WeekdayRange) → IsName letters first → JointRead text name → day_named name ≡ o → option_map (λ last. record { first = first; last = last }) o ≡ Some days → IsItem (letters ++ text) days
last_read first letters text name None days named read is at = cc
last_read first letters text name (Some last) days named read is at =
    let same : record { first = first; last = last } ≡ days = cc in
    rw (← same) (inr (record {
      first = letters;
      joint = read.joint;
      last = name;
      whole = ap (λ more. letters ++ more) read.whole;
      first_name = named;
      joint_is = read.joint_is;
      last_name = name_found name last is;
    }))

to_read : (first : Weekday) (letters text : List ℕ) (o : Option (List ℕ)) (days : WeekdayRange) → IsName letters first → after_joint text ≡ o → days_to first o ≡ Some days → IsItem (letters ++ text) days
to_read first letters text None days named is at = cc
to_read first letters text (Some name) days named is at =
    last_read first letters text name (day_named name) days named (joint_read text name is) refl at

item_by : (letters after : List ℕ) (o : Option Weekday) (days : WeekdayRange) → day_named letters ≡ o → days_by o after ≡ Some days → IsItem (letters ++ after) days
item_by letters after None days is at = cc
item_by letters [] (Some first) days is at =
    let same : record { first = first; last = first } ≡ days = cc in
    rw (← same, append-nil letters) (inl (name_found letters first is, refl))
item_by letters (b ∷ bs) (Some first) days is at = to_read first letters (b ∷ bs) (after_joint (b ∷ bs)) days (name_found letters first is) refl at

pub item_found : (item : List ℕ) (days : WeekdayRange) → days_of item ≡ Some days → IsItem item days
unfolding days_of
item_found item days at =
    rw take-append-drop at (item_by (leading_letters item) (after_letters item) (day_named (leading_letters item)) days refl at)

-- ## If the grammar allows an item, parsing it succeeds

joint_passed : (joint last : List ℕ) → (joint ≡ codes "..") ⊎ (joint ≡ codes "-") → 0 < length last → (begins_with_letter (joint ++ last) ≡ false) × (after_joint (joint ++ last) ≡ Some last)
joint_passed joint last (inl dots) some = rw dots (refl, refl)
joint_passed joint [] (inr dash) some = absurd (omega arith)
joint_passed joint (b ∷ bs) (inr dash) some = rw dash (refl, refl)

days_joined : (first : Weekday) (text name : List ℕ) → after_joint text ≡ Some name → days_from first text ≡ days_to first (Some name)
days_joined first [] name at = cc
days_joined first (b ∷ bs) name at = ap (days_to first) at

single_only : (text : List ℕ) (days : WeekdayRange) → IsName text days.first → days.last ≡ days.first → days_of text ≡ Some days
unfolding days_of
single_only text days named same =
    let letters : (leading_letters text ≡ text) × (after_letters text ≡ []) = rw append-nil at (letters_at text [] (name_letters text days.first named) refl) in
    let made : record { first = days.first; last = days.first } ≡ days = ap (λ (d : Weekday). record { first = days.first; last = d }) (sym same) in
    rw (letters.0, letters.1, name_only text days.first named) (ap Some made)

pub item_only : (text : List ℕ) (days : WeekdayRange) → IsItem text days → days_of text ≡ Some days
unfolding days_of
item_only text days (inl one) = single_only text days one.0 one.1
item_only text days (inr two) =
    let passed = joint_passed two.joint two.last two.joint_is (some_name two.last days.last two.last_name) in
    let letters = letters_at two.first (two.joint ++ two.last) (name_letters two.first days.first two.first_name) passed.0 in
    rw (two.whole, letters.0, letters.1, name_only two.first days.first two.first_name, days_joined days.first (two.joint ++ two.last) two.last passed.1, name_only two.last days.last two.last_name) refl

-- ## If parsing a weekday list succeeds, the grammar allows the list

items_found : (ts : List (List ℕ)) (items : List WeekdayRange) → items_of ts ≡ Ok items → AllZip IsItem ts items
items_found [] items at = let none : [] ≡ items = cc in rw (← none) tt
items_found (t ∷ ts) items at =
    let read = items_of-cons t ts items at in
    rw read.is (item_found t read.first read.first_is, items_found ts read.rest read.rest_is)

-- joining the bytes of a nonempty text before its last byte (`take`) and the last byte (`get_or`) gives the text again
last_taken : (b : ℕ) (bs : List ℕ) → take (length bs) (b ∷ bs) ++ (get_or (b ∷ bs) (length bs) 0 ∷ []) ≡ b ∷ bs
last_taken b [] = refl
last_taken b (c ∷ bs) = ap (λ more. b ∷ more) (last_taken c bs)

one_less : (n : ℕ) → suc n - 1 ≡ n
one_less n = omega arith

comma_off : (word : List ℕ) → slice_index word (length word - 1) ≡ 44 → word ≡ take (length word - 1) word ++ codes ","
comma_off [] is = absurd (omega (arith, is))
comma_off (b ∷ bs) is =
    let at : get_or (b ∷ bs) (length bs) 0 ≡ 44 = rw one_less at is in
    rw (one_less (length bs)) (sym (last_taken b bs) ∙ ap (λ c. take (length bs) (b ∷ bs) ++ (c ∷ [])) at)

trimmed_by : (word : List ℕ) (comma : Bool) → is_comma (slice_index word (length word - 1)) ≡ comma → (word ≡ cond comma (take (length word - 1) word) word) ⊎ (word ≡ cond comma (take (length word - 1) word) word ++ codes ",")
trimmed_by word true is = inr (comma_off word (eqb-true (slice_index word (length word - 1)) 44 is))
trimmed_by word false is = inl refl

trimmed : (word : List ℕ) → (word ≡ without_comma word) ⊎ (word ≡ without_comma word ++ codes ",")
trimmed word = trimmed_by word (is_comma (slice_index word (length word - 1))) refl

rejoined : (word list : List ℕ) → (word ≡ list) ⊎ (word ≡ list ++ codes ",") → (word ≡ join_with_byte 44 (slice_split is_comma list)) ⊎ (word ≡ join_with_byte 44 (slice_split is_comma list) ++ codes ",")
rejoined word list (inl same) = inl (same ∙ sym (join_with_byte-slice_split 44 list))
rejoined word list (inr more) = inr (more ∙ ap (λ text. text ++ codes ",") (sym (join_with_byte-slice_split 44 list)))

pub list_found : (word : List ℕ) (days : List Bool) → weekdays_of word ≡ Ok days → AreWeekdays word days
list_found word days at =
    let found = weekdays_found word days at in
    let list = without_comma word in
    record {
      texts = slice_split is_comma list;
      items = found.items;
      some = some_pieces is_comma list;
      whole = rejoined word list (trimmed word);
      each = items_found (slice_split is_comma list) found.items found.read;
      is = sym found.is;
    }

pub weekdays_by_rule : (word : Option (List ℕ)) (days : List Bool) → weekdays_in word ≡ Ok days → HasWeekdays word days
weekdays_by_rule None days at = let is : map (λ day. true) week ≡ days = cc in sym is
weekdays_by_rule (Some word) days at = list_found word days at

-- ## Items that the grammar allows have no commas, and parsing them succeeds

-- the bytes that can occur in an item of a weekday list: letters, points and dashes
abbrev is_item_byte : ℕ → Bool
is_item_byte b = is_ascii_alphabetic b || ((b == 45) || (b == 46))

item_no_comma : Apart is_item_byte is_comma
item_no_comma b h = grind (arith, nat_tests)

letter_is_item : (b : ℕ) → is_ascii_alphabetic b ≡ true → is_item_byte b ≡ true
letter_is_item b letter = or_left (is_ascii_alphabetic b) ((b == 45) || (b == 46)) letter

name_bytes : (text : List ℕ) (day : Weekday) → IsName text day → list_all is_item_byte text ≡ true
name_bytes text day is = list_all-wider is_ascii_alphabetic is_item_byte text letter_is_item (name_letters text day is)

joint_bytes : (joint : List ℕ) → (joint ≡ codes "..") ⊎ (joint ≡ codes "-") → list_all is_item_byte joint ≡ true
joint_bytes joint (inl is) = rw is refl
joint_bytes joint (inr is) = rw is refl

item_bytes : (text : List ℕ) (days : WeekdayRange) → IsItem text days → list_all is_item_byte text ≡ true
item_bytes text days (inl one) = name_bytes text days.first one.0
item_bytes text days (inr two) =
    rw two.whole (list_all-both is_item_byte two.first (two.joint ++ two.last) (name_bytes two.first days.first two.first_name) (list_all-both is_item_byte two.joint two.last (joint_bytes two.joint two.joint_is) (name_bytes two.last days.last two.last_name)))

items_only : (ts : List (List ℕ)) (items : List WeekdayRange) → AllZip IsItem ts items → AllByRecursion (IsClear is_comma) ts × (items_of ts ≡ Ok items)
items_only [] [] zip = (tt, refl)
items_only [] (d ∷ items) zip = absurd zip
items_only (t ∷ ts) [] zip = absurd zip
items_only (t ∷ ts) (d ∷ items) zip =
    let more = items_only ts items zip.1 in
    ((clear_of is_item_byte is_comma t item_no_comma (item_bytes t d zip.0), more.0), rw (item_only t d zip.0, more.1) refl)

-- ## Removing a trailing comma
--
-- A text that ends in a letter is unchanged. If a comma follows the letter, only this comma is removed.

pub record EndsInLetter (text : List ℕ) : Type 0 where
  pub front : List ℕ
  pub last : ℕ
  pub whole : text ≡ front ++ (last ∷ [])
  pub letter : is_ascii_alphabetic last ≡ true

letters_end : (b : ℕ) (bs : List ℕ) → is_ascii_alphabetic b ≡ true → list_all is_ascii_alphabetic bs ≡ true → EndsInLetter (b ∷ bs)
letters_end b [] letter all = record { front = []; last = b; whole = refl; letter = letter }
letters_end b (c ∷ bs) letter all =
    let parts = and_parts (is_ascii_alphabetic c) (list_all is_ascii_alphabetic bs) all in
    let rest = letters_end c bs parts.0 parts.1 in
    record { front = b ∷ rest.front; last = rest.last; whole = ap (λ more. b ∷ more) rest.whole; letter = rest.letter }

after_ends : (front text : List ℕ) → EndsInLetter text → EndsInLetter (front ++ text)
after_ends front text ends = record {
  front = front ++ ends.front;
  last = ends.last;
  whole = ap (λ more. front ++ more) ends.whole ∙ sym (append_assoc front ends.front (ends.last ∷ []));
  letter = ends.letter;
}

some_end : (text : List ℕ) → 0 < length text → list_all is_ascii_alphabetic text ≡ true → EndsInLetter text
some_end [] some all = absurd (omega arith)
some_end (b ∷ bs) some all =
    let parts = and_parts (is_ascii_alphabetic b) (list_all is_ascii_alphabetic bs) all in letters_end b bs parts.0 parts.1

name_ends : (text : List ℕ) (day : Weekday) → IsName text day → EndsInLetter text
name_ends text day is = some_end text (some_name text day is) (name_letters text day is)

item_ends : (text : List ℕ) (days : WeekdayRange) → IsItem text days → EndsInLetter text
item_ends text days (inl one) = name_ends text days.first one.0
item_ends text days (inr two) =
    rw two.whole (after_ends two.first (two.joint ++ two.last) (after_ends two.joint two.last (name_ends two.last days.last two.last_name)))

joined_ends : (t : List ℕ) (ts : List (List ℕ)) (items : List WeekdayRange) → AllZip IsItem (t ∷ ts) items → EndsInLetter (join_with_byte 44 (t ∷ ts))
joined_ends t ts [] zip = absurd zip
joined_ends t [] (d ∷ items) zip = item_ends t d zip.0
joined_ends t (u ∷ ts) (d ∷ items) zip =
    after_ends t (44 ∷ join_with_byte 44 (u ∷ ts)) (after_ends (44 ∷ []) (join_with_byte 44 (u ∷ ts)) (joined_ends u ts items zip.1))

last_at : (front : List ℕ) (b : ℕ) → get_or (front ++ (b ∷ [])) (length front) 0 ≡ b
last_at [] b = refl
last_at (x ∷ front) b = last_at front b

length_at : (front : List ℕ) (b : ℕ) → length (front ++ (b ∷ [])) - 1 ≡ length front
length_at front b = simp length-append (omega arith)

letter_no_comma : (b : ℕ) → is_ascii_alphabetic b ≡ true → is_comma b ≡ false
letter_no_comma b letter = item_no_comma b (letter_is_item b letter)

kept_by : (front : List ℕ) (b : ℕ) → is_comma b ≡ false → without_comma (front ++ (b ∷ [])) ≡ front ++ (b ∷ [])
kept_by front b stop = rw (length_at front b, last_at front b, stop) refl

taken_by : (front : List ℕ) → without_comma (front ++ codes ",") ≡ front
taken_by front = rw (length_at front 44, last_at front 44) (take_at front (44 ∷ []) _ refl)

kept : (text : List ℕ) → EndsInLetter text → without_comma text ≡ text
kept text ends = rw ends.whole (kept_by ends.front ends.last (letter_no_comma ends.last ends.letter))

trimmed_is : (word : List ℕ) (text : List ℕ) → EndsInLetter text → (word ≡ text) ⊎ (word ≡ text ++ codes ",") → without_comma word ≡ text
trimmed_is word text ends (inl same) = ap without_comma same ∙ kept text ends
trimmed_is word text ends (inr more) = ap without_comma more ∙ taken_by text

-- ## If the grammar allows a weekday list, the list begins with the name of a weekday, and parsing it succeeds

pub record BeginsWithName (text : List ℕ) (day : Weekday) : Type 0 where
  pub name : List ℕ
  pub rest : List ℕ
  pub whole : text ≡ name ++ rest
  pub named : IsName name day
  pub stop : begins_with_letter rest ≡ false

item_begins : (text : List ℕ) (days : WeekdayRange) → IsItem text days → BeginsWithName text days.first
item_begins text days (inl one) = record { name = text; rest = []; whole = sym (append-nil text); named = one.0; stop = refl }
item_begins text days (inr two) = record {
  name = two.first;
  rest = two.joint ++ two.last;
  whole = two.whole;
  named = two.first_name;
  stop = (joint_passed two.joint two.last two.joint_is (some_name two.last days.last two.last_name)).0;
}

stops_more : (rest more : List ℕ) → begins_with_letter rest ≡ false → begins_with_letter more ≡ false → begins_with_letter (rest ++ more) ≡ false
stops_more [] more first second = second
stops_more (b ∷ bs) more first second = first

begins_more : (text more : List ℕ) (day : Weekday) → begins_with_letter more ≡ false → BeginsWithName text day → BeginsWithName (text ++ more) day
begins_more text more day stop begins = record {
  name = begins.name;
  rest = begins.rest ++ more;
  whole = ap (λ t. t ++ more) begins.whole ∙ append_assoc begins.name begins.rest more;
  named = begins.named;
  stop = stops_more begins.rest more begins.stop stop;
}

joined_begins : (t : List ℕ) (ts : List (List ℕ)) (d : WeekdayRange) → IsItem t d → BeginsWithName (join_with_byte 44 (t ∷ ts)) d.first
joined_begins t [] d is = item_begins t d is
joined_begins t (u ∷ ts) d is = begins_more t (44 ∷ join_with_byte 44 (u ∷ ts)) d.first refl (item_begins t d is)

word_begins : (word text : List ℕ) (day : Weekday) → BeginsWithName text day → (word ≡ text) ⊎ (word ≡ text ++ codes ",") → BeginsWithName word day
word_begins word text day begins (inl same) = rw same begins
word_begins word text day begins (inr more) = rw more (begins_more text (codes ",") day refl begins)

begins_named : (word : List ℕ) (day : Weekday) → BeginsWithName word day → is_some (day_named (leading_letters word)) ≡ true
begins_named word day begins =
    rw (begins.whole, (letters_at begins.name begins.rest (name_letters begins.name day begins.named) begins.stop).0, name_only begins.name day begins.named) refl

listed_only : (word t : List ℕ) (ts : List (List ℕ)) (items : List WeekdayRange) → AllZip IsItem (t ∷ ts) items → (word ≡ join_with_byte 44 (t ∷ ts)) ⊎ (word ≡ join_with_byte 44 (t ∷ ts) ++ codes ",") → listed_days word ≡ Ok (set_of items)
unfolding listed_days
listed_only word t ts items zip whole =
    let list = trimmed_is word (join_with_byte 44 (t ∷ ts)) (joined_ends t ts items zip) whole in
    let all = items_only (t ∷ ts) items zip in
    rw (list, split_join_with_byte 44 t ts refl all.0, all.1) refl

list_by : (word : List ℕ) (ts : List (List ℕ)) (items : List WeekdayRange) → 0 < length ts → AllZip IsItem ts items → (word ≡ join_with_byte 44 ts) ⊎ (word ≡ join_with_byte 44 ts ++ codes ",") → weekdays_of word ≡ Ok (set_of items)
unfolding weekdays_of
list_by word [] items some zip whole = absurd (omega arith)
list_by word (t ∷ ts) [] some zip whole = absurd zip
list_by word (t ∷ ts) (d ∷ items) some zip whole =
    let named = begins_named word d.first (word_begins word (join_with_byte 44 (t ∷ ts)) d.first (joined_begins t ts d zip.0) whole) in
    rw named (listed_only word t ts (d ∷ items) zip whole)

pub weekdays_only : (word : Option (List ℕ)) (days : List Bool) → HasWeekdays word days → weekdays_in word ≡ Ok days
weekdays_only None days is = ap Ok (sym is)
weekdays_only (Some word) days is = list_by word is.texts is.items is.some is.each is.whole ∙ ap Ok (sym is.is)
