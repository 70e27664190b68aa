-- The parser accepts exactly the expressions of the grammar, and returns the fields that the grammar gives.
use Rattle.std.proofs.Common.{ℕ, ◌≡◌, List, Bool, length, Option, Some, Ok, refl, sym, ap, ◌∙◌}
use Rattle.std.proofs.lemmas.Bool.{le-ltb}
use Rattle.cal_spec.specs.computed.DateAndTime.{DateFields, TimeFields, room_after, date_in_word, time_in_word}
use Rattle.cal_spec.specs.rules.Fields.{Fields}
use Rattle.cal_spec.specs.computed.Grammar.{max_text_bytes, fields_at, fields_in}
use Rattle.cal_spec.specs.rules.GrammarRule.{IsExpression, IsValid}
use Rattle.cal_spec.specs.computed.WeekdayLists.{weekdays_in}
use Rattle.cal_spec.specs.computed.Words.{roles_of}
use Rattle.cal_bytes.specs.rules.Separators.{words}
use Rattle.cal_spec.specs.rules.UnparsedTexts.{WordRoles}
use Rattle.cal_spec.specs.computed.ParsedSuffix.{suffix_in}
use Rattle.cal_spec.specs.rules.ValidFields.{IsValidFields}
use Rattle.cal_spec.specs.rules.ZoneSuffix.{ZoneSuffix}
use Rattle.cal_spec.proofs.DateRule.{is_date, is_time, AreFew, are_few, date_only, time_only}
use Rattle.cal_spec.proofs.FieldLemmas.{fields_with, text_found, valid_fields}
use Rattle.cal_spec.proofs.WeekdayRule.{weekdays_by_rule, weekdays_only}
use Rattle.cal_spec.proofs.WordRule.{zone_read, zone_only, roles_found, roles_only}

expression_with : (text : List ℕ) (p : WordRoles) (weekdays : List Bool) (d : DateFields) (h : TimeFields) (kept : Option ZoneSuffix) → roles_of (words text) ≡ Some p → weekdays_in p.weekdays ≡ Ok weekdays → date_in_word p.date ≡ Ok d → time_in_word (room_after d) p.time ≡ Ok h → suffix_in p.rest ≡ Ok kept → IsExpression text (fields_with weekdays d h kept)
expression_with text p weekdays d h kept roles_are week date time last =
    let read = zone_read p.rest kept last in
    record {
      roles = p;
      last = read.last;
      roles_are = roles_found (words text) p roles_are;
      rest_is = read.rest_is;
      weekdays = weekdays_by_rule p.weekdays weekdays week;
      date = is_date p.date weekdays d h kept date;
      time = is_time (room_after d) p.time weekdays d h kept time;
      zone = read.is;
    }

-- if parsing a text returns the fields `f`, the text is an expression of the grammar with the fields `f`
pub valid_found : (text : List ℕ) (f : Fields) → fields_in text ≡ Ok f → IsValid text f
valid_found text f at =
    let found = text_found text f at in
    let read = found.fields in
    let expression : IsExpression text f = rw read.is at (expression_with text found.roles read.weekdays read.date read.time read.name found.roles_are read.weekdays_is read.date_is read.time_is read.name_is) in
    record { short = found.short; expression = expression; few = (valid_fields text f at).few }

fields_only : (text : List ℕ) (f : Fields) (e : IsExpression text f) → AreFew f → fields_at e.roles ≡ Ok f
unfolding fields_at
fields_only text f e few =
    let p = e.roles in
    let last : suffix_in p.rest ≡ Ok f.zone = ap suffix_in e.rest_is ∙ zone_only e.last f.zone e.zone in
    rw (weekdays_only p.weekdays f.weekdays e.weekdays, date_only p.date f few e.date, time_only p.time f few e.time, last) refl

-- if a text is an expression of the grammar with the fields `f`, parsing the text returns `f`
pub valid_only : (text : List ℕ) (f : Fields) → IsValid text f → fields_in text ≡ Ok f
unfolding fields_in
valid_only text f valid =
    let e = valid.expression in
    let roles_are = roles_only (words text) e.roles e.roles_are in
    rw (le-ltb max_text_bytes (length text) valid.short, roles_are) (fields_only text f e (are_few f valid.few))

-- the fields that the grammar gives a valid text satisfy `IsValidFields`
pub valid_in : (text : List ℕ) (f : Fields) → IsValid text f → IsValidFields f
valid_in text f valid = valid_fields text f (valid_only text f valid)

-- the grammar is unambiguous: it never gives the same text two different values of `Fields`
pub one_expression : (text : List ℕ) (f g : Fields) → IsValid text f → IsValid text g → f ≡ g
one_expression text f g first second = let same = sym (valid_only text f first) ∙ valid_only text g second in cc
