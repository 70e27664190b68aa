-- `runs` splits the characters of a text wherever their kind changes and nowhere else, and no other list of runs is
-- split in this way.
use Rattle.std.proofs.Common.{ℕ, ◌<◌, ◌≡◌, Bool, true, false, cond, List, [], ◌∷◌, ◌++◌, length, refl, sym, ap, ◌∙◌, subst, arith}
use Rattle.std.specs.List.{AllByRecursion, flat_map}
use Rattle.std.proofs.lemmas.List.{append-nil}
use Rattle.cal_span.specs.declared.span.word.CharKind.{CharKind}
use Rattle.cal_span.proofs.SpanWords.{is_kind-same, same_from_is_kind}
use Rattle.cal_span.specs.rules.PairValue.{Piece, is_kind, characters}
use Rattle.cal_span.specs.computed.SpanValue.{with_front, runs}
use Rattle.cal_span.specs.rules.SpanRule.{IsRun, AreRuns, AreApart}
use Rattle.std.proofs.lemmas.Bool.Decides.{nat_tests}

-- a single character is a run
run_alone : (s : Piece) → IsRun (s ∷ []) s
run_alone s = record { some = omega arith; kinds = (refl, tt); text = sym (append-nil s.text) }

kinds_as : (j k : CharKind) (ss : List Piece) → k ≡ j → AllByRecursion (λ (s : Piece). s.kind ≡ k) ss → AllByRecursion (λ (s : Piece). s.kind ≡ j) ss
kinds_as j k ss e h = subst (λ (i : CharKind). AllByRecursion (λ (s : Piece). s.kind ≡ i) ss) e h

-- if a character is of the same kind as the run after it, both together are a run
run_longer : (s w : Piece) (front : List Piece) → is_kind s.kind w.kind ≡ true → IsRun front w → IsRun (s ∷ front) (record { kind = s.kind; text = s.text ++ w.text })
run_longer s w front same run =
    record { some = omega arith; kinds = (refl, kinds_as s.kind w.kind front (sym (same_from_is_kind s.kind w.kind same)) run.kinds); text = ap (λ text. s.text ++ text) run.text }

runs_by : (s w : Piece) (ss ws : List Piece) (same : Bool) → is_kind s.kind w.kind ≡ same → AreRuns ss (w ∷ ws) → AreRuns (s ∷ ss) (cond same (record { kind = s.kind; text = s.text ++ w.text } ∷ ws) (s ∷ w ∷ ws))
runs_by s w ss ws true test (front, rest, split, run, more) =
    (s ∷ front, rest, ap (λ all. s ∷ all) split, run_longer s w front test run, more)
runs_by s w ss ws false test all = (s ∷ [], ss, refl, run_alone s, all)

runs_first : (s : Piece) (ss ws : List Piece) → AreRuns ss ws → AreRuns (s ∷ ss) (with_front s ws)
runs_first s ss [] none = (s ∷ [], [], ap (λ all. s ∷ all) none, run_alone s, refl)
runs_first s ss (w ∷ ws) all = runs_by s w ss ws (is_kind s.kind w.kind) refl all

are_runs : (ss : List Piece) → AreRuns ss (runs ss)
are_runs [] = refl
are_runs (s ∷ ss) = runs_first s ss (runs ss) (are_runs ss)

pub runs_cut : (text : List ℕ) → AreRuns (characters text) (runs (characters text))
runs_cut text = are_runs (characters text)

-- Suppose that neighboring runs are of different kinds, and that a character of the first run's kind is joined to the
-- first run. Then neighboring runs are still of different kinds.
apart_joined : (s w : Piece) (ws : List Piece) → is_kind s.kind w.kind ≡ true → AreApart (w ∷ ws) → AreApart (record { kind = s.kind; text = s.text ++ w.text } ∷ ws)
apart_joined s w [] same apart = tt
apart_joined s w (v ∷ ws) same (first, rest) = grind (arith, nat_tests, same_from_is_kind)

apart_by : (s w : Piece) (ws : List Piece) (same : Bool) → is_kind s.kind w.kind ≡ same → AreApart (w ∷ ws) → AreApart (cond same (record { kind = s.kind; text = s.text ++ w.text } ∷ ws) (s ∷ w ∷ ws))
apart_by s w ws true test apart = apart_joined s w ws test apart
apart_by s w ws false test apart = (test, apart)

apart_first : (s : Piece) (ws : List Piece) → AreApart ws → AreApart (with_front s ws)
apart_first s [] apart = tt
apart_first s (w ∷ ws) apart = apart_by s w ws (is_kind s.kind w.kind) refl apart

runs_apart : (ss : List Piece) → AreApart (runs ss)
runs_apart [] = tt
runs_apart (s ∷ ss) = apart_first s (runs ss) (runs_apart ss)

pub runs_longest : (text : List ℕ) → AreApart (runs (characters text))
runs_longest text = runs_apart (characters text)

-- ## If runs follow the rules `AreRuns` and `AreApart`, they are the runs that `runs` finds

-- if a run of kind `k` is put in front of these runs, it stays a run of its own: there are no runs, or the first run is
-- of another kind
abbrev pub BeginsApart : CharKind → List Piece → Type 0
BeginsApart k [] = Unit {0}
BeginsApart k (v ∷ ws) = is_kind k v.kind ≡ false

apart_before : (w : Piece) (ws : List Piece) → AreApart (w ∷ ws) → BeginsApart w.kind ws
apart_before w [] apart = tt
apart_before w (v ∷ ws) (first, rest) = first

apart_after : (w : Piece) (ws : List Piece) → AreApart (w ∷ ws) → AreApart ws
apart_after w [] apart = tt
apart_after w (v ∷ ws) (first, rest) = rest

-- `with_front` adds a character as a run of its own if the first run is of another kind, or if there are no runs
first_apart : (s : Piece) (k : CharKind) (ws : List Piece) → s.kind ≡ k → BeginsApart k ws → with_front s ws ≡ s ∷ ws
first_apart s k [] kind apart = refl
first_apart s k (v ∷ ws) kind apart = rw kind (rw apart refl)

-- `with_front` joins a character to the first run if this run is of the same kind
first_joined : (s : Piece) (k : CharKind) (text : List ℕ) (ws : List Piece) → s.kind ≡ k → with_front s (record { kind = k; text = text } ∷ ws) ≡ record { kind = k; text = s.text ++ text } ∷ ws
first_joined s k text ws kind = rw kind (rw (is_kind-same k) refl)

piece_is : (s : Piece) (k : CharKind) → s.kind ≡ k → s ≡ record { kind = k; text = s.text ++ [] }
piece_is s k kind = grind (arith, nat_tests, append-nil)

run_front : (front rest : List Piece) (k : CharKind) (ws : List Piece) → 0 < length front → AllByRecursion (λ (s : Piece). s.kind ≡ k) front → BeginsApart k ws → runs rest ≡ ws → runs (front ++ rest) ≡ record { kind = k; text = flat_map (λ (s : Piece). s.text) front } ∷ ws
run_front [] rest k ws some kinds apart e = absurd (omega arith)
run_front (s ∷ []) rest k ws some (kind, none) apart e = grind (arith, nat_tests, first_apart, piece_is)
run_front (s ∷ t ∷ front) rest k ws some (kind, kinds) apart e =
    grind (arith, nat_tests, first_joined, run_front (t ∷ front) rest k ws (omega arith) kinds apart e)

run_is : (front : List Piece) (w : Piece) (ws : List Piece) → IsRun front w → record { kind = w.kind; text = flat_map (λ (s : Piece). s.text) front } ∷ ws ≡ w ∷ ws
run_is front w ws run = grind (arith, nat_tests)

only_runs : (ss ws : List Piece) → AreRuns ss ws → AreApart ws → ws ≡ runs ss
only_runs ss [] none apart = rw none refl
only_runs ss (w ∷ ws) (front, rest, split, run, more) apart =
    let later = only_runs rest ws more (apart_after w ws apart) in
    sym (ap runs split ∙ run_front front rest w.kind ws run.some run.kinds (apart_before w ws apart) (sym later) ∙ run_is front w ws run)

pub runs_only : (text : List ℕ) (ws : List Piece) → AreRuns (characters text) ws → AreApart ws → ws ≡ runs (characters text)
runs_only text ws all apart = only_runs (characters text) ws all apart
