-- Lemmas about the command that is described to `clap`.
use Rattle.std.proofs.Common.{◌≡◌, ◌+◌, ◌<◌, ℕ, List, [], ◌∷◌, Option, None, Some, add-one, append-nil, append_assoc, ap, arith, drop, drop-cons, get_or, length, map, refl}
use Rattle.std.specs.Prelude.{option_map}
use Rattle.clap.specs.Words.{App, Rule, with_rule}
use Rattle.cal_options.specs.rules.Arguments.{with_rules}

-- adding one argument and then the others is the same as adding all of them at once
pub with_rule-rules : (app : App) (rule : Rule) (rules : List Rule) → with_rules (with_rule app rule) rules ≡ with_rules app (rule ∷ rules)
with_rule-rules app rule rules = ap (λ rules. record app { top = record app.top { rules = rules } }) (append_assoc app.top.rules (rule ∷ []) rules)

pub with_rules-none : (app : App) → with_rules app [] ≡ app
with_rules-none app = ap (λ rules. record app { top = record app.top { rules = rules } }) (append-nil app.top.rules)

-- mapping the items from index `i` on yields the mapped item at `i`, followed by the mapped items from `i` + 1 on
pub next_mapped : {A B : Type 0} (f : A → B) (xs : List A) (i : ℕ) (d : A) → i < length xs → f (get_or xs i d) ∷ map f (drop (i + 1) xs) ≡ map f (drop i xs)
next_mapped f xs i d h = rw (add-one, drop-cons xs i d h) refl

-- ## The verb that `clap` found

-- mapping an option with `f` returns the same as mapping it to the pair `(f b, g b)` and then taking the first element
-- of the pair
pub map-first : {B X Y : Type 0} (f : B → X) (g : B → Y) (o : Option B)
    → option_map f o ≡ option_map (λ (p : X × Y). p.0) (option_map (λ b. (f b, g b)) o)
map-first f g o = grind arith

pub pair_none : {X Y : Type 0} (o : Option (X × Y)) → None ≡ option_map (λ (p : X × Y). p.0) o → o ≡ None
pair_none o h = grind arith

pub pair_some : {X Y : Type 0} (o : Option (X × Y)) (x : X) (y : Y) → Some x ≡ option_map (λ (p : X × Y). p.0) o
    → Some y ≡ option_map (λ (p : X × Y). p.1) o → o ≡ Some (x, y)
pair_some o x y h k = grind arith
