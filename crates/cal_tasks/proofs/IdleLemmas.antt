-- Lemmas about collecting the lines that have no effect, one by one.
use Rattle.std.proofs.Common.{◌≡◌, ℕ, ◌+◌, ◌<◌, ◌++◌, Bool, true, false, cond, List, [], ◌∷◌, ℤ, length, map, take, get_or, refl, sym, ap, ◌∙◌, append_assoc}
use Rattle.std.specs.Prelude.{filter}
use Rattle.std.proofs.lemmas.List.{map-append}
use Rattle.std.proofs.lemmas.List.Elements.{filter-append}
use Rattle.cal_spec.specs.rules.Fields.{Fields}
use Rattle.cal_timer.specs.rules.TimerEntries.{TimerLine, Timer}
use Rattle.cal_timer.specs.rules.TimerView.{shown}
use Rattle.cal_timer.specs.declared.timer.TimerLine as declared_line
use Rattle.cal_zone.specs.rules.Setting.{Setting}
use Rattle.cal_plan.proofs.PlanLemmas.{shown_more}
use Rattle.cal_tasks.specs.rules.IdleLines.{idle_as, idle_line, idle_lines}
use Rattle.cal_tasks.specs.declared.idle.IdleKind.{IdleKind}
use Rattle.cal_tasks.specs.declared.idle.IdleLine.{IdleLine}

idle_append : (kind : IdleKind) (test : TimerLine Fields → Bool) (xs ys : List (TimerLine Fields)) → idle_as kind test (xs ++ ys) ≡ idle_as kind test xs ++ idle_as kind test ys
idle_append kind test xs ys =
    ap (map (idle_line kind)) (filter-append test xs ys) ∙ map-append (idle_line kind) (filter test xs) (filter test ys)

idle_one : (kind : IdleKind) (test : TimerLine Fields → Bool) (line : TimerLine Fields) (idle : Bool) → idle ≡ test line
    → idle_as kind test (line ∷ []) ≡ cond idle (idle_line kind line ∷ []) []
idle_one kind test line true is = rw (← is) refl
idle_one kind test line false is = rw (← is) refl

-- A line passes if `test` is true for it. Suppose that `found` is `old`, followed by the passing lines among the first
-- `i`, and that `new` is `found`, followed by the line at index `i` if this line passes. Then `new` is `old`, followed
-- by the passing lines among the first `i + 1`.
pub idle_more : (kind : IdleKind) (test : TimerLine Fields → Bool) (lines : List declared_line.TimerLine) (i : ℕ) (line : declared_line.TimerLine) (old found new : List IdleLine) (idle : Bool)
    → i < length lines → line ≡ get_or lines i line → found ≡ old ++ idle_as kind test (map shown (take i lines)) → idle ≡ test (shown line)
    → new ≡ found ++ cond idle (idle_line kind (shown line) ∷ []) [] → new ≡ old ++ idle_as kind test (map shown (take (i + 1) lines))
idle_more kind test lines i line old found new idle h is was passes now =
    let before = map shown (take i lines) in
    let more : idle_as kind test (map shown (take (i + 1) lines)) ≡ idle_as kind test before ++ cond idle (idle_line kind (shown line) ∷ []) []
    = ap (idle_as kind test) (shown_more lines i line h ∙ ap (λ (x : declared_line.TimerLine). before ++ shown x ∷ []) (sym is))
    ∙ idle_append kind test before (shown line ∷ [])
    ∙ ap (λ (xs : List IdleLine). idle_as kind test before ++ xs) (idle_one kind test (shown line) idle passes) in
    now
    ∙ ap (λ (xs : List IdleLine). xs ++ cond idle (idle_line kind (shown line) ∷ []) []) was
    ∙ append_assoc old (idle_as kind test before) (cond idle (idle_line kind (shown line) ∷ []) [])
    ∙ ap (λ (xs : List IdleLine). old ++ xs) (sym more)

pub idle_here : (at here : Setting) (base now : ℤ) (lists : Timer Fields) (es xs : List (TimerLine Fields)) (found : List IdleLine) → here ≡ at → now ≡ base → es ≡ lists.expressions
    → xs ≡ lists.exceptions → found ≡ idle_lines here now (record { expressions = es; exceptions = xs }) → found ≡ idle_lines at base lists
idle_here at here base now lists es xs found same time expressions exceptions is =
    is ∙ (λ j. idle_lines (same j) (time j) (record { expressions = expressions j; exceptions = exceptions j }))
