use Rattle.std.proofs.Common.{◌≡◌, true, take, arith, sym, ◌∙◌, Bool, List, [], refl, suc, zero, ℕ, ◌∷◌}
use Rattle.std.specs.Char.{is_ascii_digit}
use Rattle.std.specs.List.{list_all}
use Rattle.std.proofs.lemmas.List.{length-take}
use Rattle.cal_stamp.proofs.StampLemmas.{fraction_bound}
use Rattle.cal_stamp.proofs.time.read_fraction.Goals as goal

list_all-take : (p : ℕ → Bool) (xs : List ℕ) (n : ℕ) → list_all p xs ≡ true → list_all p (take n xs) ≡ true
list_all-take p xs zero h = refl
list_all-take p [] (suc n) h = refl
list_all-take p (x ∷ xs) (suc n) h = grind (arith, list_all-take p xs n)

pub returns-clause-bound : goal.returns-clause-bound
returns-clause-bound c =
    let all : list_all is_ascii_digit c.args.digits.now ≡ true = sym c.are_digits.ensures ∙ c.if-not-are_digits.false in
    let kept = take c.min.result c.args.digits.now in
    let bound = fraction_bound 1_000_000 1 kept (list_all-take is_ascii_digit c.args.digits.now c.min.result all) in
    omega (arith, length-take c.min.result c.args.digits.now, bound, c.fraction_of.ensures, c.min.ensures)
