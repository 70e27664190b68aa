-- The base time of a request, after which elapses are shown: systemd-analyze(1), --base-time=.
use Rattle.std.specs.Prelude.{◌≡◌, ℕ, ℤ, pos, ◌+ℤ◌, ◌≤ℤ◌, ◌<ℤ◌, List, Option, None, Some}
use Rattle.cal_zone.specs.rules.Instant.{micros_of}
use Rattle.cal_stamp.specs.rules.StampMomentRule.{ResolvesTo}
use Rattle.cal_request.specs.rules.Request.{Request}
use Rattle.cal_report.specs.rules.Context.{setting_of}

-- the moment, in microseconds of Unix time, lies in this second of Unix time
pub record IsSecondOf (moment second : ℤ) : Type 0 where
  pub begun : micros_of second ≤ℤ moment
  pub lasts : moment <ℤ micros_of (second +ℤ pos 1)

-- the base time: the present if no timestamp is given, and otherwise the second of the timestamp's moment
abbrev pub IsBaseFrom : Request → Option (List ℕ) → ℤ → Type 0
IsBaseFrom asked None base = base ≡ asked.now
IsBaseFrom asked (Some text) base = (moment : ℤ) × ResolvesTo asked.now (setting_of asked) text moment × IsSecondOf moment base

-- `base` is the base time of the request `asked`, which may give a timestamp for it (`asked.base`)
abbrev pub IsBase : Request → ℤ → Type 0
IsBase asked base = IsBaseFrom asked asked.base base
