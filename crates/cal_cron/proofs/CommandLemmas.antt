-- `command_len` from an index is 0 if the byte there ends the command, and otherwise 1 more than from the next index.
use Rattle.std.proofs.Common.{◌≡◌, ℕ, ◌+◌, ◌<◌, Bool, true, false, List, length, drop, drop-cons, get_or, add-one, refl}
use Rattle.cal_cron.specs.rules.CrontabLines.{command_len, ends_command, escapes_next}

pub command_step : (escaped : Bool) (text : List ℕ) (i : ℕ) → i < length text → ends_command escaped (get_or text i 0) ≡ false
    → command_len escaped (drop i text) ≡ 1 + command_len (escapes_next escaped (get_or text i 0)) (drop (i + 1) text)
command_step escaped text i within none = rw (add-one, drop-cons text i 0 within, none) refl

pub command_end : (escaped : Bool) (text : List ℕ) (i : ℕ) → i < length text → ends_command escaped (get_or text i 0) ≡ true → command_len escaped (drop i text) ≡ 0
command_end escaped text i within ends = rw (drop-cons text i 0 within, ends) refl
