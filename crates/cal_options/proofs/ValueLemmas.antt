-- Lemmas about values of options.
use Rattle.std.proofs.Common.{◌≡◌, ◌||◌, None, Some, Bool, List, [], ◌∷◌, ap, codes, false, map, refl}
use Rattle.std.specs.List.{list_any}
use Rattle.std.specs.Str.{bytes_eq}
use Rattle.clap.specs.Words.{Row, Text, first_of}
use Rattle.cal_options.specs.rules.Values.{is_set}

pub any_mapped : {A B : Type 0} (p : B → Bool) (f : A → B) (xs : List A) → list_any (λ x. p (f x)) xs ≡ list_any p (map f xs)
any_mapped p f [] = refl
any_mapped p f (x ∷ xs) = ap (λ later. p (f x) || later) (any_mapped p f xs)

pub set_some : (name : Text) (rows : List Row) (text : Text) → first_of name rows ≡ Some text → bytes_eq text (codes "true") ≡ is_set name rows
set_some name rows text is = rw is refl

pub set_none : (name : Text) (rows : List Row) → first_of name rows ≡ None → false ≡ is_set name rows
set_none name rows is = rw is refl
