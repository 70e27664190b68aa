-- `split_once` and `strip_prefix` find what the definitions `around_percent` and `after_letter` say.
use Rattle.std.proofs.Common.{◌≡◌, ◌≢◌, ℕ, ◌<◌, List, [], ◌∷◌, Option, None, Some, Bor, MatchOption, refl, sym, arith, option_map, lit<}
use Rattle.std.proofs.lemmas.Str.Pattern.{IsSplitOnceResult, split_once_first}
use Rattle.std.proofs.lemmas.Bool.Decides.{nat_tests}
use Rattle.cal_bytes.proofs.General.{list_any-position, list_any-no_position}
use Rattle.cal_lint.specs.rules.Instances.{after_letter, around_percent, is_percent}

-- `split_once` at `%` returns the parts of `around_percent`
pub around_percent-split : (value : List ℕ) (r : Option (Bor (List ℕ) × Bor (List ℕ))) → IsSplitOnceResult 37 value r
    → option_map (λ parts. (parts.0.now, parts.1.now)) r ≡ around_percent value
around_percent-split value None h =
    let cut = split_once_first 37 value None h (lit< tt) in
    rw (list_any-no_position is_percent value (omega (arith, cut))) refl
around_percent-split value (Some x) h =
    let cut = split_once_first 37 value (Some x) h (lit< tt) in
    rw (list_any-position is_percent value cut.0, cut.1, cut.2) refl

after_letter-none : (text : List ℕ) → ((rest : List ℕ) → text ≢ 105 ∷ rest) → ((rest : List ℕ) → text ≢ 73 ∷ rest) → after_letter text ≡ None
after_letter-none [] no_small no_capital = refl
after_letter-none (byte ∷ bytes) no_small no_capital = grind (arith, nat_tests, no_small bytes, no_capital bytes)

-- if a text doesn't begin with `i`, then `strip_prefix` returns for `I` what `after_letter` returns
pub after_letter-second : (text : List ℕ) (r : Option (Bor (List ℕ))) → ((rest : List ℕ) → text ≢ 105 ∷ rest)
    → MatchOption r ((rest : List ℕ) → text ≢ 73 ∷ rest) (λ after. text ≡ 73 ∷ after.now)
    → option_map (λ after. after.now) r ≡ after_letter text
after_letter-second text None no_small no_capital = sym (after_letter-none text no_small no_capital)
after_letter-second text (Some after) no_small at = rw at refl
