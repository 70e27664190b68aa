-- The parser accepts exactly the lines that the grammar allows, and their ranges are within their fields.
use Rattle.std.proofs.Common.{◌≡◌, ◌∙◌, ℕ, ◌≤◌, inl, inr, cond, Bool, true, false, ◌||◌, List, [], ◌∷◌, length, codes, Option, None, Some, Ok, Err, refl, sym, ap, arith}
use Rattle.std.specs.Prelude.{IfOk, Result}
use Rattle.std.specs.List.{AllByRecursion, AllZip}
use Rattle.std.specs.Str.{bytes_eq}
use Rattle.cal_bytes.specs.rules.AndThen.{◌>>=◌}
use Rattle.cal_bytes.specs.rules.Separators.{words}
use Rattle.cal_spec.proofs.ReadLemmas.{bind_ok}
use Rattle.cal_cron.proofs.FieldRule.{field_found, field_only}
use Rattle.cal_cron.proofs.ValueRule.{value_within}
use Rattle.cal_cron.specs.computed.Items.{field_in}
use Rattle.cal_cron.specs.computed.Lines.{LineGivesUnlessNoMemory, in_field, shown_line, line_at, line_in, shortcut_by, shortcut_in, texts_in}
use Rattle.cal_cron.specs.computed.Schedules.{AreOf, IsRange, IsSchedule}
use Rattle.cal_cron.specs.rules.CronGrammar.{IsField, IsItem, IsSpan, greatest, least}
use Rattle.cal_cron.specs.rules.CronLine.{AreTexts, IsLine, LineTexts, Schedule, begins_with_at, begins_with_star, shortcut_named}
use Rattle.cal_cron.specs.declared.cron_field.CronField.{CronField}
use Rattle.cal_cron.specs.declared.cron_field.CronField.TheVariants.{Minute, Hour, Day, Month, Weekday}
use Rattle.cal_cron.specs.declared.cron_fault.CronFault.{CronFault}
use Rattle.cal_cron.specs.declared.cron_fault.CronFault.TheVariants.{FieldCount, UnknownShortcut, Reboot}
use Rattle.cal_cron.specs.declared.field_fault.FieldFault.{FieldFault}
use Rattle.cal_cron.specs.declared.items.CronRange.{CronRange}
use Rattle.cal_cron.specs.declared.lines.CronLine.{CronLine}

-- ## The texts of the fields

unnamed : (reboot sign : Bool) (t : LineTexts) → ◌≡◌ {A = Result LineTexts CronFault} (cond reboot (Err Reboot) (cond sign (Err UnknownShortcut) (Err FieldCount))) (Ok t) → ⊥
unnamed true sign t at = cc
unnamed false true t at = cc
unnamed false false t at = cc

named_by : (word : List ℕ) (o : Option LineTexts) (t : LineTexts) → shortcut_by word o ≡ Ok t → o ≡ Some t
named_by word None t at = absurd (unnamed (bytes_eq word (codes "@reboot")) (begins_with_at word) t at)
named_by word (Some u) t at = cc

shortcut_found : (word : List ℕ) (t : LineTexts) → shortcut_in word ≡ Ok t → shortcut_named word ≡ Some t
unfolding shortcut_in
shortcut_found word t at = named_by word (shortcut_named word) t at

shortcut_only : (word : List ℕ) (t : LineTexts) → shortcut_named word ≡ Some t → shortcut_in word ≡ Ok t
unfolding shortcut_in
shortcut_only word t is = ap (shortcut_by word) is

texts_found : (ws : List (List ℕ)) (t : LineTexts) → texts_in ws ≡ Ok t → AreTexts ws t
texts_found [] t at = cc
texts_found (w ∷ []) t at = inr (w, refl, shortcut_found w t at)
texts_found (a ∷ b ∷ []) t at = cc
texts_found (a ∷ b ∷ c ∷ []) t at = cc
texts_found (a ∷ b ∷ c ∷ d ∷ []) t at = cc
texts_found (a ∷ b ∷ c ∷ d ∷ e ∷ []) t at =
    let is : record { minute = a; hour = b; day = c; month = d; weekday = e } ≡ t = cc in
    inl (ap (λ (q : LineTexts). q.minute ∷ q.hour ∷ q.day ∷ q.month ∷ q.weekday ∷ []) is)
texts_found (a ∷ b ∷ c ∷ d ∷ e ∷ f ∷ ws) t at = cc

texts_only : (ws : List (List ℕ)) (t : LineTexts) → AreTexts ws t → texts_in ws ≡ Ok t
texts_only ws t (inl is) = ap texts_in is
texts_only ws t (inr is) = ap texts_in is.1 ∙ shortcut_only is.0 t is.2

-- ## The fields

in_field_ok : (field : CronField) (r : Result (List CronRange) FieldFault) (rs : List CronRange) → in_field field r ≡ Ok rs → r ≡ Ok rs
in_field_ok field (Ok qs) rs at = cc
in_field_ok field (Err fault) rs at = cc

abbrev last_step : LineTexts → List CronRange → List CronRange → List CronRange → List CronRange → List CronRange → Schedule
last_step t minute hour day month weekday = record {
  minute = minute;
  hour = hour;
  day = day;
  month = month;
  weekday = weekday;
  star = begins_with_star t.day || begins_with_star t.weekday;
}

abbrev step_5 : LineTexts → List CronRange → List CronRange → List CronRange → List CronRange → Result Schedule CronFault
step_5 t a b c d = in_field Weekday (field_in Weekday t.weekday) >>= λ e. Ok (last_step t a b c d e)

abbrev step_4 : LineTexts → List CronRange → List CronRange → List CronRange → Result Schedule CronFault
step_4 t a b c = in_field Month (field_in Month t.month) >>= step_5 t a b c

abbrev step_3 : LineTexts → List CronRange → List CronRange → Result Schedule CronFault
step_3 t a b = in_field Day (field_in Day t.day) >>= step_4 t a b

abbrev step_2 : LineTexts → List CronRange → Result Schedule CronFault
step_2 t a = in_field Hour (field_in Hour t.hour) >>= step_3 t a

pub record LineRead (t : LineTexts) (s : Schedule) : Type 0 where
  pub minute : IsField Minute t.minute s.minute
  pub hour : IsField Hour t.hour s.hour
  pub day : IsField Day t.day s.day
  pub month : IsField Month t.month s.month
  pub weekday : IsField Weekday t.weekday s.weekday
  pub star : s.star ≡ (begins_with_star t.day || begins_with_star t.weekday)

field_read : (field : CronField) (text : List ℕ) (rs : List CronRange) → in_field field (field_in field text) ≡ Ok rs → IsField field text rs
field_read field text rs at = field_found field text rs (in_field_ok field (field_in field text) rs at)

read_of : (t : LineTexts) (a b c d e : List CronRange) (s : Schedule) → last_step t a b c d e ≡ s → IsField Minute t.minute a → IsField Hour t.hour b → IsField Day t.day c → IsField Month t.month d → IsField Weekday t.weekday e → LineRead t s
read_of t a b c d e s is minute hour day month weekday =
    rw (← is) (record { minute = minute; hour = hour; day = day; month = month; weekday = weekday; star = refl })

at_found : (t : LineTexts) (s : Schedule) → line_at t ≡ Ok s → LineRead t s
unfolding line_at
at_found t s at =
    let one = bind_ok (in_field Minute (field_in Minute t.minute)) (step_2 t) s at in
    let two = bind_ok (in_field Hour (field_in Hour t.hour)) (step_3 t one.value) s one.next in
    let three = bind_ok (in_field Day (field_in Day t.day)) (step_4 t one.value two.value) s two.next in
    let four = bind_ok (in_field Month (field_in Month t.month)) (step_5 t one.value two.value three.value) s three.next in
    let five = bind_ok (in_field Weekday (field_in Weekday t.weekday)) (λ e. Ok (last_step t one.value two.value three.value four.value e)) s four.next in
    let is : last_step t one.value two.value three.value four.value five.value ≡ s = let e = five.next in cc in
    read_of t one.value two.value three.value four.value five.value s is (field_read Minute t.minute one.value one.first) (field_read Hour t.hour two.value two.first) (field_read Day t.day three.value three.first) (field_read Month t.month four.value four.first) (field_read Weekday t.weekday five.value five.first)

at_only : (t : LineTexts) (s : Schedule) → LineRead t s → line_at t ≡ Ok s
unfolding line_at
at_only t s is =
    rw (field_only Minute t.minute s.minute is.minute, field_only Hour t.hour s.hour is.hour, field_only Day t.day s.day is.day, field_only Month t.month s.month is.month, field_only Weekday t.weekday s.weekday is.weekday)
    (ap (λ b. Ok (record { minute = s.minute; hour = s.hour; day = s.day; month = s.month; weekday = s.weekday; star = b })) (sym is.star))

pub line_found : (text : List ℕ) (s : Schedule) → line_in text ≡ Ok s → IsLine text s
unfolding line_in
line_found text s at =
    let read = bind_ok (texts_in (words text)) line_at s at in
    let fields = at_found read.value s read.next in
    record {
      texts = read.value;
      are = texts_found (words text) read.value read.first;
      minute = fields.minute;
      hour = fields.hour;
      day = fields.day;
      month = fields.month;
      weekday = fields.weekday;
      star = fields.star;
    }

pub line_only : (text : List ℕ) (s : Schedule) → IsLine text s → line_in text ≡ Ok s
unfolding line_in
line_only text s is =
    ap (λ r. r >>= line_at) (texts_only (words text) is.texts is.are) ∙ at_only is.texts s (record { minute = is.minute; hour = is.hour; day = is.day; month = is.month; weekday = is.weekday; star = is.star })

-- ## Ranges are within their fields

least_first : (field : CronField) → least field ≤ greatest field
least_first Minute = omega arith
least_first Hour = omega arith
least_first Day = omega arith
least_first Month = omega arith
least_first Weekday = omega arith

pub record IsSpanned (low high : ℕ) (r : CronRange) : Type 0 where
  pub from : low ≤ r.first
  pub forward : r.first ≤ r.last
  pub to : r.last ≤ high

span_in_field : (field : CronField) (text : List ℕ) (r : CronRange) → IsSpan field text r → IsSpanned (least field) (greatest field) r
span_in_field field text r (inl is) =
    let a = is.first in
    let b = is.last in
    let c = least_first field in
    record { from = omega arith; forward = omega arith; to = omega arith }
span_in_field field text r (inr is) =
    record { from = (value_within field is.front r.first is.first).above; forward = is.forward; to = (value_within field is.back r.last is.last).below }

item_in_field : (field : CronField) (text : List ℕ) (r : CronRange) → IsItem field text r → IsRange (least field) (greatest field) r
item_in_field field text r (inl is) =
    let within = value_within field text r.first is.value in
    let a = is.last in
    let b = is.step in
    let c = within.below in
    record { from = within.above; forward = omega arith; to = omega arith; positive = omega arith }
item_in_field field text r (inr (inl is)) =
    let span = span_in_field field text r is.span in
    let b = is.step in
    record { from = span.from; forward = span.forward; to = span.to; positive = omega arith }
item_in_field field text r (inr (inr is)) =
    let span = span_in_field field is.front r is.span in
    record { from = span.from; forward = span.forward; to = span.to; positive = is.positive }

items_in_field : (field : CronField) (ts : List (List ℕ)) (rs : List CronRange) → AllZip (IsItem field) ts rs → AllByRecursion (IsRange (least field) (greatest field)) rs × (length ts ≡ length rs)
items_in_field field [] [] zip = (tt, refl)
items_in_field field [] (r ∷ rs) zip = absurd zip
items_in_field field (t ∷ ts) [] zip = absurd zip
items_in_field field (t ∷ ts) (r ∷ rs) zip =
    let rest = items_in_field field ts rs zip.1 in
    let long = rest.1 in
    ((item_in_field field t r zip.0, rest.0), omega (arith, long))

field_sound : (field : CronField) (text : List ℕ) (rs : List CronRange) → IsField field text rs → AreOf field rs
field_sound field text rs is =
    let all = items_in_field field is.texts rs is.items in
    let long = all.1 in
    let some = is.some in
    record { each = all.0; some = omega (arith, long, some); few = is.few }

pub sound : (text : List ℕ) (s : Schedule) → IsLine text s → IsSchedule s
sound text s is = record {
  minute = field_sound Minute is.texts.minute s.minute is.minute;
  hour = field_sound Hour is.texts.hour s.hour is.hour;
  day = field_sound Day is.texts.day s.day is.day;
  month = field_sound Month is.texts.month s.month is.month;
  weekday = field_sound Weekday is.texts.weekday s.weekday is.weekday;
}

pub line_sound : (text : List ℕ) (s : Schedule) → line_in text ≡ Ok s → IsSchedule s
line_sound text s at = sound text s (line_found text s at)

pub result_sound : (r : Result CronLine CronFault) (text : List ℕ) → LineGivesUnlessNoMemory shown_line r (line_in text) → IfOk r (λ line. IsSchedule (shown_line line))
result_sound (Ok line) text gives = line_sound text (shown_line line) gives
result_sound (Err fault) text gives = tt
