-- The kind of each key of the section `Timer`, checked by computation.
use Rattle.std.proofs.Common.{◌≡◌, None, Some, codes, refl}
use Rattle.cal_timer.specs.declared.keys.KeyKind.TheVariants.{SpanTrigger, ChangeTrigger, CalendarTrigger, Exception, TimingBoolean, OtherBoolean, Delay, Accuracy, StartedUnit}
use Rattle.cal_timer.specs.rules.Keys.{keys_of, kind_of}

on_active_sec : kind_of (codes "OnActiveSec") ≡ Some SpanTrigger
unfolding kind_of keys_of
on_active_sec = refl

on_boot_sec : kind_of (codes "OnBootSec") ≡ Some SpanTrigger
unfolding kind_of keys_of
on_boot_sec = refl

on_startup_sec : kind_of (codes "OnStartupSec") ≡ Some SpanTrigger
unfolding kind_of keys_of
on_startup_sec = refl

on_unit_active_sec : kind_of (codes "OnUnitActiveSec") ≡ Some SpanTrigger
unfolding kind_of keys_of
on_unit_active_sec = refl

on_unit_inactive_sec : kind_of (codes "OnUnitInactiveSec") ≡ Some SpanTrigger
unfolding kind_of keys_of
on_unit_inactive_sec = refl

on_calendar : kind_of (codes "OnCalendar") ≡ Some CalendarTrigger
unfolding kind_of keys_of
on_calendar = refl

except_on_calendar : kind_of (codes "X-ExceptOnCalendar") ≡ Some Exception
unfolding kind_of keys_of
except_on_calendar = refl

on_clock_change : kind_of (codes "OnClockChange") ≡ Some ChangeTrigger
unfolding kind_of keys_of
on_clock_change = refl

on_timezone_change : kind_of (codes "OnTimezoneChange") ≡ Some ChangeTrigger
unfolding kind_of keys_of
on_timezone_change = refl

persistent : kind_of (codes "Persistent") ≡ Some TimingBoolean
unfolding kind_of keys_of
persistent = refl

fixed_random_delay : kind_of (codes "FixedRandomDelay") ≡ Some TimingBoolean
unfolding kind_of keys_of
fixed_random_delay = refl

wake_system : kind_of (codes "WakeSystem") ≡ Some OtherBoolean
unfolding kind_of keys_of
wake_system = refl

remain_after_elapse : kind_of (codes "RemainAfterElapse") ≡ Some OtherBoolean
unfolding kind_of keys_of
remain_after_elapse = refl

randomized_delay_sec : kind_of (codes "RandomizedDelaySec") ≡ Some Delay
unfolding kind_of keys_of
randomized_delay_sec = refl

accuracy_sec : kind_of (codes "AccuracySec") ≡ Some Accuracy
unfolding kind_of keys_of
accuracy_sec = refl

unit : kind_of (codes "Unit") ≡ Some StartedUnit
unfolding kind_of keys_of
unit = refl

other_case : kind_of (codes "onCalendar") ≡ None
unfolding kind_of keys_of
other_case = refl

vendor : kind_of (codes "X-Vendor") ≡ None
unfolding kind_of keys_of
vendor = refl
