-- Lemmas on the timer that started a service.
use Rattle.std.proofs.Common.{◌≡◌, ℕ, List, refl}
use Rattle.std.specs.Prelude.{None, Option, Some, true, false}
use Rattle.std.specs.Option.{option_and_then}
use Rattle.cal_answers.specs.rules.Trigger.{if_timer_name, is_timer_name}

-- a value of `TRIGGER_UNIT` that doesn't name a timer stands for no timer
pub by_other : (value : Option (List ℕ)) (name : List ℕ) → value ≡ Some name → is_timer_name name ≡ false → option_and_then if_timer_name value ≡ None
by_other value name same other = rw (same, other) refl

-- a value of `TRIGGER_UNIT` that names a timer stands for this timer
pub by_timer : (value : Option (List ℕ)) (name : List ℕ) → value ≡ Some name → is_timer_name name ≡ true → option_and_then if_timer_name value ≡ Some name
by_timer value name same timer = rw (same, timer) refl
