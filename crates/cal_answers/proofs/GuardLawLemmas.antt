-- Our own command line reads the arguments of a guard as the verb `due`.
use Rattle.std.proofs.Common.{◌≡◌, ◌<◌, ◌≤◌, ◌⊎◌, inl, inr, ◌∙◌, ℕ, zero, suc, Bool, true, false, List, [], ◌∷◌, ◌++◌, None, Some, ap, arith, codes, drop, filter, get_or, length, nat_lt, refl, subst, sym}
use Rattle.std.specs.Prelude.{◌&&◌, ◌||◌, if◌then◌else◌, not}
use Rattle.std.specs.List.{list_all}
use Rattle.std.specs.Option.{option_map_or}
use Rattle.std.specs.Str.{bytes_eq}
use Rattle.std.proofs.lemmas.Bool.{cases_lt, lt-ltb}
use Rattle.std.proofs.lemmas.Bool.Decides.{Decides-eqb}
use Rattle.std.proofs.lemmas.Slice.Eq.{bytes_eq-Decides, starts_is}
use Rattle.cal_load.specs.rules.Condition.{do_options_fit, is_allowed, is_due_about, is_option, is_zone, runs_due}
use Rattle.cal_timers_command.specs.rules.CommandLine.{needs_value}
use Rattle.cal_timers_command.specs.rules.VerbFirst.{asks_due, first_failing, first_word, is_passed, is_value_at}
use Rattle.cal_timers_command.specs.rules.VerbFirst.{is_option as is_own_option}

-- ## Options

same_bytes : (xs ys : List ℕ) → bytes_eq xs ys ≡ true → xs ≡ ys
same_bytes xs ys e = (bytes_eq-Decides xs ys).0 e

abbrev IsPlain : List ℕ → Type 0
IsPlain word = (is_own_option word ≡ true) × (needs_value word ≡ false)

user_plain : IsPlain (codes "--user")
user_plain = (refl, refl)

json_plain : IsPlain (codes "--json")
json_plain = (refl, refl)

zone_plain : (zone : List ℕ) → IsPlain (codes "--in=" ++ zone)
zone_plain zone =
    let long : nat_lt 1 (length (codes "--in=" ++ zone)) ≡ true = lt-ltb 1 (length (codes "--in=" ++ zone)) (omega arith) in
    (ap (λ long. long && true) long, refl)

both : (a b : Bool) → (a && b) ≡ true → (a ≡ true) × (b ≡ true)
both true b e = (refl, e)
both false b e = absurd (cc)

-- an allowed option is one of our own options, and needs no value
plain_by : (word : List ℕ) (user json zone : Bool) → bytes_eq word (codes "--user") ≡ user → bytes_eq word (codes "--json") ≡ json → is_zone word ≡ zone
    → (user || (json || zone)) ≡ true → IsPlain word
plain_by word true json zone is_user is_json is_in one = subst IsPlain (sym (same_bytes word (codes "--user") is_user)) user_plain
plain_by word false true zone is_user is_json is_in one = subst IsPlain (sym (same_bytes word (codes "--json") is_json)) json_plain
plain_by word false false true is_user is_json is_in one =
    subst IsPlain (sym ((starts_is Decides-eqb word (codes "--in=") _ refl).0 is_in)) (zone_plain (drop (length (codes "--in=")) word))
plain_by word false false false is_user is_json is_in one = absurd (cc)

plain : (word : List ℕ) → is_option word ≡ true → is_allowed word ≡ true → IsPlain word
plain word option allowed =
    plain_by word (bytes_eq word (codes "--user")) (bytes_eq word (codes "--json")) (is_zone word) refl refl refl (rw option at allowed)

-- ## The first word

none_failing : (test : ℕ → Bool) (count : ℕ) → ((j : ℕ) → j < count → test j ≡ true) → first_failing test count ≡ None
unfolding first_failing
none_failing test zero pass = refl
none_failing test (suc n) pass = rw (none_failing test n (λ j h. pass j (omega arith)), pass n (omega arith)) refl

failing_if : (test : ℕ → Bool) (k n : ℕ) → ((j : ℕ) → j < k → test j ≡ true) → test k ≡ false → (k < n → first_failing test n ≡ Some k) → k < suc n → (k < n) ⊎ (n ≤ k)
    → option_map_or (λ index. Some index) (first_failing test n) (if test n then None else Some n) ≡ Some k
failing_if test k n before fails earlier short (inl less) = rw (earlier less) refl
failing_if test k n before fails earlier short (inr more) =
    let same : k ≡ n = omega arith in
    let ends : test n ≡ false = ap test (sym same) ∙ fails in
    rw (none_failing test n (λ j h. before j (omega arith)), ends) (ap Some (sym same))

failing_at : (test : ℕ → Bool) (k count : ℕ) → ((j : ℕ) → j < k → test j ≡ true) → test k ≡ false → k < count → first_failing test count ≡ Some k
unfolding first_failing
failing_at test k zero before fails short = absurd (omega arith)
failing_at test k (suc n) before fails short =
    failing_if test k n before fails (λ less. failing_at test k n before fails less) short (cases_lt k n)

-- the first argument that isn't an option, after options that need no value
abbrev IsFirstOperand : List (List ℕ) → List ℕ → ℕ → Type 0
IsFirstOperand ws verb k = (k < length ws) × (get_or ws k [] ≡ verb) × ((j : ℕ) → j < k → IsPlain (get_or ws j []))

operand_after : (w : List ℕ) (ws : List (List ℕ)) (verb : List ℕ) (k : ℕ) → IsPlain w → IsFirstOperand ws verb k → IsFirstOperand (w ∷ ws) verb (suc k)
operand_after w ws verb k plain is = (omega (arith, is.0), is.1, before)
  where
    before : (j : ℕ) → j < suc k → IsPlain (get_or (w ∷ ws) j [])
    before zero h = plain
    before (suc j) h = is.2 j (omega arith)

operand_if : (w : List ℕ) (ws : List (List ℕ)) (verb : List ℕ) (names : List (List ℕ)) (option : Bool) → is_option w ≡ option → is_allowed w ≡ true
    → (filter (λ w. not (is_option w)) ws ≡ verb ∷ names → (k : ℕ) × IsFirstOperand ws verb k) → filter (λ w. not (is_option w)) (w ∷ ws) ≡ verb ∷ names
    → (k : ℕ) × IsFirstOperand (w ∷ ws) verb k
operand_if w ws verb names false e allowed later is =
    let whole : w ∷ filter (λ w. not (is_option w)) ws ≡ verb ∷ names = rw e at is in
    let same : w ≡ verb = cc in
    (0, (omega arith, same, λ j h. absurd (omega arith)))
operand_if w ws verb names true e allowed later is =
    let found = later (rw e at is) in
    (suc found.0, operand_after w ws verb found.0 (plain w e allowed) found.1)

operand_in : (ws : List (List ℕ)) (verb : List ℕ) (names : List (List ℕ)) → list_all is_allowed ws ≡ true → filter (λ w. not (is_option w)) ws ≡ verb ∷ names
    → (k : ℕ) × IsFirstOperand ws verb k
operand_in [] verb names allowed is = absurd (cc)
operand_in (w ∷ ws) verb names allowed is =
    let each = both (is_allowed w) (list_all is_allowed ws) allowed in
    operand_if w ws verb names (is_option w) refl each.0 (operand_in ws verb names each.1) is

no_value : (ws : List (List ℕ)) (j : ℕ) → ((i : ℕ) → i < j → IsPlain (get_or ws i [])) → is_value_at ws j ≡ false
unfolding is_value_at
no_value ws zero plain = refl
no_value ws (suc i) plain = rw ((plain i (omega arith)).1) refl

first_is : (ws : List (List ℕ)) (k : ℕ) → IsFirstOperand ws (codes "due") k → first_word ws ≡ Some k
first_is ws k is = failing_at (is_passed ws) k (length ws) before stops is.0
  where
    before : (j : ℕ) → j < k → is_passed ws j ≡ true
    before j h = rw (no_value ws j (λ i below. is.2 i (omega arith)), (is.2 j h).0) refl

    stops : is_passed ws k ≡ false
    stops = rw (no_value ws k is.2, is.1) refl

asking_at : (ws : List (List ℕ)) (k : ℕ) → IsFirstOperand ws (codes "due") k → asks_due ws ≡ true
unfolding asks_due
asking_at ws k is = rw (first_is ws k is, is.1) refl

verb_is : (stem : List ℕ) (others : List (List ℕ)) → is_due_about stem others ≡ true → (names : List (List ℕ)) × (others ≡ codes "due" ∷ names)
verb_is stem [] is = absurd (cc)
verb_is stem (verb ∷ names) is = (names, ap (λ verb. verb ∷ names) (same_bytes verb (codes "due") (both _ _ is).0))

pub guards_ask : (is_user : Bool) (stem : List ℕ) (arguments : List (List ℕ)) → runs_due is_user stem arguments ≡ true → asks_due arguments ≡ true
guards_ask is_user stem arguments runs =
    let parts = both (is_due_about stem (filter (λ word. not (is_option word)) arguments)) (do_options_fit is_user arguments) runs in
    let verb = verb_is stem (filter (λ word. not (is_option word)) arguments) parts.0 in
    let allowed = (both (list_all is_allowed arguments) _ parts.1).0 in
    let found = operand_in arguments (codes "due") verb.0 allowed verb.1 in
    asking_at arguments found.0 found.1
