-- The parser accepts exactly the items that the grammar allows.
use Rattle.std.proofs.Common.{◌≡◌, ◌∙◌, ℕ, inl, inr, cond, Bool, true, false, ◌||◌, nat_lt, List, ◌∷◌, ◌++◌, codes, Option, None, Some, Ok, refl, sym, ap, arith}
use Rattle.std.specs.Prelude.{◌==◌}
use Rattle.std.specs.List.{list_all}
use Rattle.std.specs.Str.{bytes_eq}
use Rattle.std.proofs.lemmas.Bool.{le-ltb, ltb-false, false_from_ne_true}
use Rattle.std.proofs.lemmas.Bool.Decides.{nat_tests}
use Rattle.std.proofs.lemmas.Slice.Eq.{bytes_eq-Decides}
use Rattle.cal_bytes.specs.rules.AndThen.{◌>>=◌}
use Rattle.cal_bytes.proofs.General.{Apart, IsClear, clear_of, list_all-both, list_all-wider}
use Rattle.cal_spec.proofs.ReadLemmas.{bind_ok}
use Rattle.cal_cron.proofs.Cuts.{cut_clear, cut_joined, cut_whole}
use Rattle.cal_cron.proofs.ValueRule.{cond_ok, is_value_byte, number_bytes, step_found, step_only, value_bytes, value_found, value_only}
use Rattle.cal_cron.specs.computed.Items.{Cut, cut, item_at, item_in, range_of, span_at, span_in, step_in, stepped, unstepped, value_in}
use Rattle.cal_cron.specs.rules.CronGrammar.{IsBetween, IsItem, IsSingle, IsSpan, IsValue, greatest, least}
use Rattle.cal_cron.specs.declared.cron_field.CronField.{CronField}
use Rattle.cal_cron.specs.declared.items.CronRange.{CronRange}
use Rattle.cal_cron.specs.declared.field_fault.FieldFault.TheVariants.{BackwardRange}

-- ## If parsing an item succeeds, the grammar allows the item

pub record SpanRead (field : CronField) (text : List ℕ) (r : CronRange) : Type 0 where
  pub span : IsSpan field text r
  pub step : r.step ≡ 1

star_found : (field : CronField) (text : List ℕ) (r : CronRange) → text ≡ codes "*" → record { first = least field; last = greatest field; step = 1 } ≡ r → SpanRead field text r
star_found field text r whole is = record {
  span = inl (record { whole = whole; first = ap (λ (q : CronRange). q.first) (sym is); last = ap (λ (q : CronRange). q.last) (sym is) });
  step = ap (λ (q : CronRange). q.step) (sym is);
}

between_found : (field : CronField) (text : List ℕ) (found : Cut) (a b : ℕ) (r : CronRange) → text ≡ found.front ++ (45 ∷ found.back) → value_in field found.front ≡ Ok a → value_in field found.back ≡ Ok b → range_of a b ≡ Ok (Some r) → SpanRead field text r
between_found field text found a b r whole front back at =
    let forward = cond_ok (nat_lt b a) BackwardRange (Ok (Some (record { first = a; last = b; step = 1 }))) (Some r) at in
    let is : record { first = a; last = b; step = 1 } ≡ r = let e = forward.1 in cc in
    let first : a ≡ r.first = ap (λ (q : CronRange). q.first) is in
    let last : b ≡ r.last = ap (λ (q : CronRange). q.last) is in
    record {
      span = inr (record {
        front = found.front;
        back = found.back;
        whole = whole;
        first = rw first at (value_found field found.front a front);
        last = rw last at (value_found field found.back b back);
        forward = omega (arith, first, last, ltb-false b a forward.0);
      });
      step = ap (λ (q : CronRange). q.step) (sym is);
    }

cut_found : (field : CronField) (text : List ℕ) (r : CronRange) (o : Option Cut) → cut 45 text ≡ o → span_at field o ≡ Ok (Some r) → SpanRead field text r
cut_found field text r None is at = cc
cut_found field text r (Some found) is at =
    let one = bind_ok (value_in field found.front) (λ a. value_in field found.back >>= λ b. range_of a b) (Some r) at in
    let two = bind_ok (value_in field found.back) (λ b. range_of one.value b) (Some r) one.next in
    between_found field text found one.value two.value r (cut_whole 45 text found is) one.first two.first two.next

span_by : (field : CronField) (text : List ℕ) (r : CronRange) (test : Bool) → bytes_eq text (codes "*") ≡ test
    → cond test (Ok (Some (record { first = least field; last = greatest field; step = 1 }))) (span_at field (cut 45 text)) ≡ Ok (Some r) → SpanRead field text r
span_by field text r true is at =
    let same : record { first = least field; last = greatest field; step = 1 } ≡ r = cc in
    star_found field text r ((bytes_eq-Decides text (codes "*")).0 is) same
span_by field text r false is at = cut_found field text r (cut 45 text) refl at

span_found : (field : CronField) (text : List ℕ) (r : CronRange) → span_in field text ≡ Ok (Some r) → SpanRead field text r
unfolding span_in
span_found field text r at = span_by field text r (bytes_eq text (codes "*")) refl at

-- whether a text is a span doesn't depend on the step of the range
span_with : (field : CronField) (text : List ℕ) (q r : CronRange) → q.first ≡ r.first → q.last ≡ r.last → IsSpan field text q → IsSpan field text r
span_with field text q r first last (inl is) = inl (record { whole = is.whole; first = sym first ∙ is.first; last = sym last ∙ is.last })
span_with field text q r first last (inr is) = inr (record {
  front = is.front;
  back = is.back;
  whole = is.whole;
  first = rw first at is.first;
  last = rw last at is.last;
  forward = omega (arith, first, last, is.forward);
})

single_found : (field : CronField) (text : List ℕ) (r : CronRange) → (value_in field text >>= λ n. Ok (record { first = n; last = n; step = 1 })) ≡ Ok r → IsSingle field text r
single_found field text r at =
    let read = bind_ok (value_in field text) (λ n. Ok (record { first = n; last = n; step = 1 })) r at in
    let is : record { first = read.value; last = read.value; step = 1 } ≡ r = let e = read.next in cc in
    let first : read.value ≡ r.first = ap (λ (q : CronRange). q.first) is in
    record {
      value = rw first at (value_found field text read.value read.first);
      last = sym (ap (λ (q : CronRange). q.last) is) ∙ first;
      step = ap (λ (q : CronRange). q.step) (sym is);
    }

unstepped_found : (field : CronField) (text : List ℕ) (r : CronRange) (o : Option CronRange) → span_in field text ≡ Ok o → unstepped field text o ≡ Ok r → IsItem field text r
unstepped_found field text r None span at = inl (single_found field text r at)
unstepped_found field text r (Some q) span at =
    let same : q ≡ r = cc in
    let read = span_found field text r (rw same at span) in
    inr (inl (record { span = read.span; step = read.step }))

stepped_found : (field : CronField) (text : List ℕ) (r : CronRange) (found : Cut) (o : Option CronRange) → text ≡ found.front ++ (47 ∷ found.back) → span_in field found.front ≡ Ok o → stepped found.back o ≡ Ok r → IsItem field text r
stepped_found field text r found None whole span at = cc
stepped_found field text r found (Some q) whole span at =
    let read = bind_ok (step_in found.back) (λ s. Ok (record { first = q.first; last = q.last; step = s })) r at in
    let is : record { first = q.first; last = q.last; step = read.value } ≡ r = let e = read.next in cc in
    let step = step_found found.back read.value read.first in
    let same : read.value ≡ r.step = ap (λ (p : CronRange). p.step) is in
    inr (inr (record {
      front = found.front;
      back = found.back;
      whole = whole;
      span = span_with field found.front q r (ap (λ (p : CronRange). p.first) is) (ap (λ (p : CronRange). p.last) is) (span_found field found.front q span).span;
      step = rw same at step.number;
      positive = rw same at step.positive;
      small = rw same at step.small;
    }))

item_by : (field : CronField) (text : List ℕ) (r : CronRange) (o : Option Cut) → cut 47 text ≡ o → item_at field text o ≡ Ok r → IsItem field text r
item_by field text r None is at =
    let read = bind_ok (span_in field text) (unstepped field text) r at in
    unstepped_found field text r read.value read.first read.next
item_by field text r (Some found) is at =
    let read = bind_ok (span_in field found.front) (stepped found.back) r at in
    stepped_found field text r found read.value (cut_whole 47 text found is) read.first read.next

pub item_found : (field : CronField) (text : List ℕ) (r : CronRange) → item_in field text ≡ Ok r → IsItem field text r
unfolding item_in
item_found field text r at = item_by field text r (cut 47 text) refl at

-- ## If the grammar allows an item, parsing it succeeds

-- the next three definitions: the bytes that can be in a span, in a range `a-b`, and in an item
abbrev is_span_byte : ℕ → Bool
is_span_byte b = (b == 42) || ((b == 45) || nat_lt 47 b)

abbrev is_range_byte : ℕ → Bool
is_range_byte b = (b == 45) || nat_lt 47 b

abbrev pub is_item_byte : ℕ → Bool
is_item_byte b = (b == 42) || nat_lt 44 b

value_span : (b : ℕ) → is_value_byte b ≡ true → is_span_byte b ≡ true
value_span b h = grind (arith, nat_tests)

value_range : (b : ℕ) → is_value_byte b ≡ true → is_range_byte b ≡ true
value_range b h = grind (arith, nat_tests)

range_span : (b : ℕ) → is_range_byte b ≡ true → is_span_byte b ≡ true
range_span b h = grind (arith, nat_tests)

span_item : (b : ℕ) → is_span_byte b ≡ true → is_item_byte b ≡ true
span_item b h = grind (arith, nat_tests)

value_item : (b : ℕ) → is_value_byte b ≡ true → is_item_byte b ≡ true
value_item b h = grind (arith, nat_tests)

value_no_dash : Apart is_value_byte (λ b. b == 45)
value_no_dash b h = grind (arith, nat_tests)

value_no_slash : Apart is_value_byte (λ b. b == 47)
value_no_slash b h = grind (arith, nat_tests)

span_no_slash : Apart is_span_byte (λ b. b == 47)
span_no_slash b h = grind (arith, nat_tests)

-- a text that has only bytes of ranges is not `*`
no_star : (text : List ℕ) → list_all is_range_byte text ≡ true → bytes_eq text (codes "*") ≡ false
no_star text all =
    false_from_ne_true (bytes_eq text (codes "*")) (λ h. let same = ap (list_all is_range_byte) ((bytes_eq-Decides text (codes "*")).0 h) in let bad : false ≡ true = sym same ∙ all in cc)

between_bytes : (field : CronField) (text : List ℕ) (r : CronRange) → IsBetween field text r → list_all is_range_byte text ≡ true
between_bytes field text r is =
    let front = list_all-wider is_value_byte is_range_byte is.front value_range (value_bytes field is.front r.first is.first) in
    let back = list_all-wider is_value_byte is_range_byte is.back value_range (value_bytes field is.back r.last is.last) in
    rw is.whole (list_all-both is_range_byte is.front (45 ∷ is.back) front back)

span_bytes : (field : CronField) (text : List ℕ) (r : CronRange) → IsSpan field text r → list_all is_span_byte text ≡ true
span_bytes field text r (inl is) = rw is.whole refl
span_bytes field text r (inr is) = list_all-wider is_range_byte is_span_byte text range_span (between_bytes field text r is)

pub item_bytes : (field : CronField) (text : List ℕ) (r : CronRange) → IsItem field text r → list_all is_item_byte text ≡ true
item_bytes field text r (inl is) = list_all-wider is_value_byte is_item_byte text value_item (value_bytes field text r.first is.value)
item_bytes field text r (inr (inl is)) = list_all-wider is_span_byte is_item_byte text span_item (span_bytes field text r is.span)
item_bytes field text r (inr (inr is)) =
    let front = list_all-wider is_span_byte is_item_byte is.front span_item (span_bytes field is.front r is.span) in
    let back = list_all-wider is_value_byte is_item_byte is.back value_item (number_bytes is.back r.step is.step) in
    rw is.whole (list_all-both is_item_byte is.front (47 ∷ is.back) front back)

span_only : (field : CronField) (text : List ℕ) (r : CronRange) → IsSpan field text r → span_in field text ≡ Ok (Some (record { first = r.first; last = r.last; step = 1 }))
unfolding span_in
span_only field text r (inl is) = rw (is.whole, is.first, is.last) refl
span_only field text r (inr is) =
    let clear : IsClear (λ b. b == 45) is.front = clear_of is_value_byte (λ b. b == 45) is.front value_no_dash (value_bytes field is.front r.first is.first) in
    let found : cut 45 text ≡ Some (record { front = is.front; back = is.back }) = ap (cut 45) is.whole ∙ cut_joined 45 is.front is.back refl clear in
    rw (no_star text (between_bytes field text r is), found, value_only field is.front r.first is.first, value_only field is.back r.last is.last, le-ltb _ _ is.forward) refl

single_span : (field : CronField) (text : List ℕ) (n : ℕ) → IsValue field text n → span_in field text ≡ Ok None
unfolding span_in
single_span field text n is =
    let bytes = value_bytes field text n is in
    let star : bytes_eq text (codes "*") ≡ false = no_star text (list_all-wider is_value_byte is_range_byte text value_range bytes) in
    let none : cut 45 text ≡ None = cut_clear 45 text (clear_of is_value_byte (λ b. b == 45) text value_no_dash bytes) in
    rw (star, none) refl

pub item_only : (field : CronField) (text : List ℕ) (r : CronRange) → IsItem field text r → item_in field text ≡ Ok r
unfolding item_in
item_only field text r (inl is) =
    let none : cut 47 text ≡ None = cut_clear 47 text (clear_of is_value_byte (λ b. b == 47) text value_no_slash (value_bytes field text r.first is.value)) in
    rw (none, single_span field text r.first is.value, value_only field text r.first is.value, ← is.step) (ap (λ n. Ok (record { first = r.first; last = n; step = r.step })) (sym is.last))
item_only field text r (inr (inl is)) =
    let none : cut 47 text ≡ None = cut_clear 47 text (clear_of is_span_byte (λ b. b == 47) text span_no_slash (span_bytes field text r is.span)) in
    rw (none, span_only field text r is.span) (ap (λ n. Ok (record { first = r.first; last = r.last; step = n })) (sym is.step))
item_only field text r (inr (inr is)) =
    let clear : IsClear (λ b. b == 47) is.front = clear_of is_span_byte (λ b. b == 47) is.front span_no_slash (span_bytes field is.front r is.span) in
    let found : cut 47 text ≡ Some (record { front = is.front; back = is.back }) = ap (cut 47) is.whole ∙ cut_joined 47 is.front is.back refl clear in
    rw (found, span_only field is.front r is.span, step_only is.back r.step (record { number = is.step; positive = is.positive; small = is.small })) refl
