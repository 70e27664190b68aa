-- Lemmas about the search for the first argument that is neither an option nor the value of an option.
use Rattle.std.proofs.Common.{◌≡◌, ◌<◌, ◌+◌, ◌-◌, ◌&&◌, ◌||◌, ◌∙◌, ℕ, zero, suc, Bool, true, false, List, [], None, Some, add-one, arith, codes, get_or, length, map, drop, take, refl, sym, ◌∷◌, ◌++◌}
use Rattle.std.proofs.lemmas.List.{drop-map, take-map, take_rest}
use Rattle.std.specs.Prelude.{not}
use Rattle.std.specs.Str.{bytes_eq}
use Rattle.clap.specs.Words.{Text}
use Rattle.cal_timers_command.specs.rules.VerbFirst.{asks_due, first_failing, first_word, is_option, is_passed, is_value_at, leads, list_first, moved_first, verb_first}
use Rattle.cal_timers_command.specs.rules.CommandLine.{needs_value}

next_none : (test : ℕ → Bool) (i : ℕ) → first_failing test i ≡ None → test i ≡ true → first_failing test (i + 1) ≡ None
unfolding first_failing
next_none test i none passes = rw (add-one, none, passes) refl

at_count : (test : ℕ → Bool) (i : ℕ) → first_failing test i ≡ None → test i ≡ false → first_failing test (i + 1) ≡ Some i
unfolding first_failing
at_count test i none fails = rw (add-one, none, fails) refl

stays : (test : ℕ → Bool) (i count more total : ℕ) → total ≡ more + count → first_failing test count ≡ Some i → first_failing test total ≡ Some i
unfolding first_failing
stays test i count zero total is found = let same : total ≡ count = omega (arith, is) in rw same found
stays test i count (suc more) total is found =
    let same : total ≡ (more + count) + 1 = omega (arith, is) in rw (same, add-one, stays test i count more (more + count) refl found) refl

found_below : (test : ℕ → Bool) (i count : ℕ) → i < count → first_failing test i ≡ None → test i ≡ false → first_failing test count ≡ Some i
found_below test i count inside none fails = stays test i (i + 1) (count - (i + 1)) count (omega (arith, inside)) (at_count test i none fails)

passed_at : (arguments : List Text) (i : ℕ) (text : Text) (is_value : Bool) → text ≡ get_or arguments i [] → is_value ≡ is_value_at arguments i
    → is_passed arguments i ≡ (is_value || is_option text)
passed_at arguments i text is_value at value = rw (at, value) refl

pub first_found : (arguments : List Text) (i : ℕ) (text : Text) (is_value : Bool) → i < length arguments → text ≡ get_or arguments i []
    → first_failing (is_passed arguments) i ≡ None → is_value ≡ is_value_at arguments i → (is_value || is_option text) ≡ false
    → Some i ≡ first_word arguments
first_found arguments i text is_value inside at none value fails =
    sym (found_below (is_passed arguments) i (length arguments) inside none
    (passed_at arguments i text is_value at value ∙ fails))

pub next_passed : (arguments : List Text) (i : ℕ) (text : Text) (is_value : Bool) → text ≡ get_or arguments i []
    → first_failing (is_passed arguments) i ≡ None → is_value ≡ is_value_at arguments i → (is_value || is_option text) ≡ true
    → first_failing (is_passed arguments) (i + 1) ≡ None
next_passed arguments i text is_value at none value passes =
    next_none (is_passed arguments) i none (passed_at arguments i text is_value at value ∙ passes)

pub next_value : (arguments : List Text) (i : ℕ) (text : Text) (is_value : Bool) → text ≡ get_or arguments i [] → is_value ≡ is_value_at arguments i
    → (needs_value text && not is_value) ≡ is_value_at arguments (i + 1)
unfolding is_value_at
next_value arguments i text is_value at value = rw (add-one, at, value) refl

pub first_none : (arguments : List Text) (i : ℕ) → length arguments ≡ i → first_failing (is_passed arguments) i ≡ None → None ≡ first_word arguments
first_none arguments i end none = rw end (sym none)

pub none_led : (arguments : List Text) → None ≡ first_word arguments → list_first arguments ≡ verb_first arguments
unfolding verb_first
none_led arguments none = rw (← none) refl

pub led : (arguments : List Text) (i : ℕ) (text : Text) → Some i ≡ first_word arguments → text ≡ get_or arguments i [] → leads text ≡ true
    → moved_first arguments i ≡ verb_first arguments
unfolding verb_first
led arguments i text found at leading = rw (← found, ← at, leading) refl

pub not_led : (arguments : List Text) (i : ℕ) (text : Text) → Some i ≡ first_word arguments → text ≡ get_or arguments i [] → leads text ≡ false
    → list_first arguments ≡ verb_first arguments
unfolding verb_first
not_led arguments i text found at other = rw (← found, ← at, other) refl

pub none_due : (arguments : List Text) → None ≡ first_word arguments → false ≡ asks_due arguments
unfolding asks_due
none_due arguments none = rw (← none) refl

pub word_due : (arguments : List Text) (i : ℕ) (text : Text) → Some i ≡ first_word arguments → text ≡ get_or arguments i []
    → bytes_eq text (codes "due") ≡ asks_due arguments
unfolding asks_due
word_due arguments i text found at = rw (← found, ← at) refl

pub moved : {A : Type 0} (text : A → Text) (arguments : List A) (i : ℕ) (first : Text) (pushed before after : List Text) → pushed ≡ first ∷ []
    → before ≡ pushed ++ map text (take i arguments) → after ≡ before ++ map text (take (length arguments - (i + 1)) (drop (i + 1) arguments))
    → first ≡ get_or (map text arguments) i [] → after ≡ moved_first (map text arguments) i
moved text arguments i first pushed before after one two three at =
    rw (three, two, one, take_rest arguments (i + 1), ← at, take-map text i arguments, drop-map text (i + 1) arguments) refl
