use Rattle.std.proofs.Common.{◌≡◌, true, arith, sym, ◌∙◌, List, [], ℕ, ◌∷◌, length, ◌<◌, ◌^◌, ◌≤◌}
use Rattle.std.specs.Char.{is_ascii_digit}
use Rattle.std.specs.List.{list_all}
use Rattle.std.specs.Str.Parse.{digits_value, AllDigits}
use Rattle.std.proofs.lemmas.Bool.Decides.{nat_tests}
use Rattle.cal_stamp.specs.rules.StampDate.{digits_number}
use Rattle.cal_stamp.proofs.date.read_number.Goals as goal
use Rattle.std.proofs.lemmas.Bool.{and_parts}
use Rattle.cal_bytes.proofs.General.{digit_below}
use Rattle.std.proofs.Math.Nat.{pow-le-pow_right}
use Rattle.std.proofs.lemmas.Int.Digits.{digits_value-lt}

all_digits : (ds : List ℕ) → list_all is_ascii_digit ds ≡ true → AllDigits 10 ds
all_digits [] h = tt
all_digits (d ∷ ds) h = let parts = and_parts (is_ascii_digit d) (list_all is_ascii_digit ds) h in (digit_below d parts.0, all_digits ds parts.1)

-- a number of at most four digits is below 10,000
short_number : (ds : List ℕ) → list_all is_ascii_digit ds ≡ true → length ds ≤ 4 → digits_value 10 ds < 10_000
short_number ds all short =
    let most : 10 ^ length ds ≤ 10 ^ 4 = pow-le-pow_right (omega arith) short in
    omega (arith, digits_value-lt 10 ds (all_digits ds all), most)

pub overflow_cast-result : goal.overflow_cast-result
overflow_cast-result c =
    let all : list_all is_ascii_digit c.args.word.now ≡ true = sym c.are_digits.ensures ∙ c.if-not-are_digits.false in
    let small = short_number c.args.word.now all (omega arith) in
    omega (arith, c.decimal_value.ensures)

pub returns : goal.returns
unfolding digits_number
returns c =
    let all : list_all is_ascii_digit c.args.word.now ≡ true = sym c.are_digits.ensures ∙ c.if-not-are_digits.false in
    let small = short_number c.args.word.now all (omega arith) in
    let value : c.decimal_value.result ≡ digits_value 10 c.args.word.now = omega (arith, c.decimal_value.ensures) in
    grind (arith, nat_tests, c.if-is_empty.ensures)
