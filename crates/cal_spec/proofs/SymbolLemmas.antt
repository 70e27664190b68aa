-- Lemmas on the symbols of a text, and on the numbers among them.
use Rattle.std.proofs.Common.{ℕ, suc, ◌+◌, ◌<◌, ◌≤◌, ◌≡◌, inl, inr, Bool, true, false, ◌&&◌, List, [], ◌∷◌, ◌++◌, length, take, drop, get_or, refl, sym, ap, ◌∙◌, arith}
use Rattle.std.specs.Prelude.{⊤, cond, leb}
use Rattle.std.specs.List.{AllByRecursion, list_all, prefix_len}
use Rattle.std.specs.Char.{is_ascii_digit}
use Rattle.std.proofs.lemmas.Bool.{and_parts, and_from, cases_Bool, leb-true, le-leb, ne_eqb}
use Rattle.std.proofs.lemmas.List.{take-append-drop}
use Rattle.cal_bytes.specs.rules.Separators.{is_point, is_slash}
use Rattle.cal_spec.specs.rules.PartFaultRule.{begins_with}
use Rattle.cal_spec.specs.computed.Parts.{Symbol, digits, dots, slash, point, other, with_digit, with_byte, lone, symbols}

pub digit_no_point : (b : ℕ) → is_ascii_digit b ≡ true → is_point b ≡ false
digit_no_point b digit = ne_eqb b 46 (λ e. omega (arith, leb-true 48 b (and_parts (leb 48 b) (leb b 57) digit).0))

pub symbols_digit : (b : ℕ) (bs : List ℕ) → is_ascii_digit b ≡ true → symbols (b ∷ bs) ≡ with_digit b (symbols bs)
symbols_digit b [] digit = rw digit refl
symbols_digit b (c ∷ bs) digit = rw (digit_no_point b digit, digit) refl

-- a byte that is neither a digit nor the first of two points is a symbol of its own
pub symbols_lone : (b : ℕ) (bs : List ℕ) → is_ascii_digit b ≡ false → (is_point b && begins_with is_point bs) ≡ false → symbols (b ∷ bs) ≡ lone b ∷ symbols bs
symbols_lone b [] digit apart = rw digit refl
symbols_lone b (c ∷ bs) digit apart = rw (apart, digit) refl

-- a digit before a byte that is not a digit is a run of its own
digit_before_lone : (b c : ℕ) (p s : Bool) (ss : List Symbol) → with_digit b (cond p point (cond s slash (other c)) ∷ ss) ≡ digits (b ∷ []) ∷ (cond p point (cond s slash (other c)) ∷ ss)
digit_before_lone b c true s ss = refl
digit_before_lone b c false true ss = refl
digit_before_lone b c false false ss = refl

digit_before_pair : (b c d : ℕ) (bs : List ℕ) (pair : Bool) → is_ascii_digit c ≡ false → with_digit b (cond pair (dots ∷ symbols bs) (with_byte c (symbols (d ∷ bs)))) ≡ digits (b ∷ []) ∷ cond pair (dots ∷ symbols bs) (with_byte c (symbols (d ∷ bs)))
digit_before_pair b c d bs true digit = refl
digit_before_pair b c d bs false digit = rw digit (digit_before_lone b c (is_point c) (is_slash c) (symbols (d ∷ bs)))

-- a digit before a text that doesn't begin with a digit is a run of its own
pub digit_apart : (b : ℕ) (rest : List ℕ) → begins_with is_ascii_digit rest ≡ false → with_digit b (symbols rest) ≡ digits (b ∷ []) ∷ symbols rest
digit_apart b [] apart = refl
digit_apart b (c ∷ []) apart = rw apart (digit_before_lone b c (is_point c) (is_slash c) [])
digit_apart b (c ∷ d ∷ bs) apart = digit_before_pair b c d bs (is_point c && is_point d) apart

-- digits before a text that doesn't begin with a digit are one run
pub symbols_number : (b : ℕ) (ds rest : List ℕ) → is_ascii_digit b ≡ true → list_all is_ascii_digit ds ≡ true → begins_with is_ascii_digit rest ≡ false → symbols (b ∷ (ds ++ rest)) ≡ digits (b ∷ ds) ∷ symbols rest
symbols_number b [] rest digit all apart = symbols_digit b rest digit ∙ digit_apart b rest apart
symbols_number b (d ∷ ds) rest digit all apart =
    let parts = and_parts (is_ascii_digit d) (list_all is_ascii_digit ds) all in
    symbols_digit b (d ∷ (ds ++ rest)) digit ∙ ap (with_digit b) (symbols_number d ds rest parts.0 parts.1 apart)

-- the text before the first byte that isn't a digit consists of digits, and the remaining text doesn't begin with a
-- digit
pub front_digits : (bs : List ℕ) → (list_all is_ascii_digit (take (prefix_len is_ascii_digit bs) bs) ≡ true) × (begins_with is_ascii_digit (drop (prefix_len is_ascii_digit bs) bs) ≡ false)
front_digits [] = (refl, refl)
front_digits (b ∷ bs) =
    let more = front_digits bs in
    let one : 1 + prefix_len is_ascii_digit bs ≡ suc (prefix_len is_ascii_digit bs) = omega arith in
    elim (cases_Bool (is_ascii_digit b)) [ inl digit ↦ rw (digit, one) (rw digit more.0, more.1) | inr none ↦ rw none (refl, none) ]

-- if a text begins with a digit, its first symbol is the run of its leading digits
pub digits_first : (b : ℕ) (bs : List ℕ) → is_ascii_digit b ≡ true → symbols (b ∷ bs) ≡ digits (take (prefix_len is_ascii_digit (b ∷ bs)) (b ∷ bs)) ∷ symbols (drop (prefix_len is_ascii_digit (b ∷ bs)) (b ∷ bs))
digits_first b bs digit =
    let n = prefix_len is_ascii_digit bs in
    let e : 1 + n ≡ suc n = omega arith in
    let front = front_digits bs in
    rw (digit, e) (ap (λ cs. symbols (b ∷ cs)) (sym (take-append-drop n bs)) ∙ symbols_number b (take n bs) (drop n bs) digit front.0 front.1)

-- if the symbol is `digits ds`, then `ds` has one or more bytes, and each of them is a digit
abbrev pub IsSymbol : Symbol → Type 0
IsSymbol (digits ds) = (list_all is_ascii_digit ds ≡ true) × (0 < length ds)
IsSymbol s = ⊤

digit_of_symbols : (b : ℕ) (ss : List Symbol) → is_ascii_digit b ≡ true → AllByRecursion IsSymbol ss → AllByRecursion IsSymbol (with_digit b ss)
digit_of_symbols b [] digit all = ((rw digit refl, omega arith), tt)
digit_of_symbols b (digits ds ∷ ss) digit all = ((rw digit all.0.0, omega arith), all.1)
digit_of_symbols b (s ∷ ss) digit all = ((rw digit refl, omega arith), all)

lone_is_sign : (c : ℕ) (p s : Bool) → IsSymbol (cond p point (cond s slash (other c)))
lone_is_sign c true s = tt
lone_is_sign c false true = tt
lone_is_sign c false false = tt

byte_of_symbols : (b : ℕ) (ss : List Symbol) (digit : Bool) → is_ascii_digit b ≡ digit → AllByRecursion IsSymbol ss → AllByRecursion IsSymbol (cond digit (with_digit b ss) (lone b ∷ ss))
byte_of_symbols b ss true is all = digit_of_symbols b ss is all
byte_of_symbols b ss false is all = (lone_is_sign b (is_point b) (is_slash b), all)

pair_of_symbols : (b : ℕ) (ss ts : List Symbol) (pair : Bool) → AllByRecursion IsSymbol ss → AllByRecursion IsSymbol ts → AllByRecursion IsSymbol (cond pair (dots ∷ ss) (with_byte b ts))
pair_of_symbols b ss ts true all more = (tt, all)
pair_of_symbols b ss ts false all more = byte_of_symbols b ts (is_ascii_digit b) refl more

-- each run of digits among the symbols of a text has one or more bytes, all of them digits (`IsSymbol`)
pub symbols_sound : (text : List ℕ) → AllByRecursion IsSymbol (symbols text)
symbols_sound [] = tt
symbols_sound (b ∷ []) = byte_of_symbols b [] (is_ascii_digit b) refl tt
symbols_sound (b ∷ c ∷ bs) = pair_of_symbols b (symbols bs) (symbols (c ∷ bs)) (is_point b && is_point c) (symbols_sound bs) (symbols_sound (c ∷ bs))

pub sound_at : (text : List ℕ) (ss : List Symbol) → symbols text ≡ ss → AllByRecursion IsSymbol ss
sound_at text ss at = rw at at (symbols_sound text)

-- if the first byte of a text is from 48 to 57, the first symbol of the text is the run of its leading digits
pub digits_at_front : (text : List ℕ) → 0 < length text → 48 ≤ get_or text 0 0 → get_or text 0 0 ≤ 57 → symbols text ≡ digits (take (prefix_len is_ascii_digit text) text) ∷ symbols (drop (prefix_len is_ascii_digit text) text)
digits_at_front [] some low high = absurd (omega arith)
digits_at_front (b ∷ bs) some low high = digits_first b bs (and_from _ _ (le-leb 48 b low) (le-leb b 57 high))

-- if the first symbol of a text is `digits ds`, all bytes of `ds` are digits
pub first_has_digits : (text : List ℕ) (ds : List ℕ) (ss : List Symbol) → symbols text ≡ digits ds ∷ ss → list_all is_ascii_digit ds ≡ true
first_has_digits text ds ss at = (sound_at text (digits ds ∷ ss) at).0.0
