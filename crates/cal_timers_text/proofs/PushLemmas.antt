-- Lemmas on texts to which several parts are appended.
use Rattle.std.proofs.Common.{◌≡◌, ◌∙◌, ◌++◌, ℕ, List, Result, Ok, Err, ap, append_assoc}
use Rattle.std.proofs.lemmas.Result.{on_ok_weaker}
use Rattle.std.specs.Prelude.{OnOk, if◌then◌else◌, is_ok}

-- if a call appends `text` unless it fails, then a call that succeeds has appended `text`
pub pushed : {V E : Type 0} (result : Result V E) (new old text : List ℕ) → new ≡ (if is_ok result then old ++ text else old)
    → OnOk result (new ≡ old ++ text)
pushed (Ok value) new old text h = h
pushed (Err error) new old text h = tt

-- if `first` is appended and then, by a call that succeeds, `second`, then both have been appended in this order
pub then_pushed : {V E : Type 0} (result : Result V E) (new middle old first second : List ℕ) → middle ≡ old ++ first
    → OnOk result (new ≡ middle ++ second) → OnOk result (new ≡ old ++ (first ++ second))
then_pushed result new middle old first second h =
    on_ok_weaker result (λ k. k ∙ ap (λ text. text ++ second) h ∙ append_assoc old first second)
