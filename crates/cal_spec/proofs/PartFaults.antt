-- Parsing a part, or checking its values, fails with an error if and only if the part has this error by the rule:
-- `HasPartFault` for its syntax, and `HasValueFault` for its values.
use Rattle.std.proofs.Common.{ℕ, ◌<◌, ◌≡◌, ◌⊎◌, inl, inr, Bool, true, false, cond, ◌&&◌, List, [], ◌∷◌, ◌++◌, codes, length, take, drop, Option, Some, None, Ok, Err, refl, sym, ap, ◌∙◌, arith, ltb, subst}
use Rattle.std.specs.Prelude.{Result}
use Rattle.std.specs.List.{list_all, prefix_len}
use Rattle.std.specs.Char.{is_ascii_digit}
use Rattle.std.specs.Str.Parse.{digits_value}
use Rattle.std.proofs.lemmas.Bool.{ltb-true, ltb-false, lt-ltb, le-ltb, and_parts, cases_Bool}
use Rattle.std.proofs.lemmas.List.{take-append-drop}
use Rattle.cal_bytes.specs.rules.Separators.{is_point, is_slash}
use Rattle.cal_bytes.specs.rules.AndThen.{◌>>=◌}
use Rattle.cal_spec.specs.rules.GrammarRule.{IsNumber, IsNext}
use Rattle.cal_spec.specs.rules.PartFaultRule.{AreWithin, BeginsFractional, BeginsTooLarge, HasFraction, HasLargeNumber, HasNumberDue, HasPartFault, HasValueFault, IsMalformed, begins_with, malformed}
use Rattle.cal_spec.specs.rules.Slot.{max_number}
use Rattle.cal_spec.specs.computed.Parts.{Symbol, digits, dots, slash, point, other, with_byte, symbols, starts_with_point, is_second, bad, Counted, number_due, part_at_end, with_step, after_end, after_start, part_of, is_outside, is_backward, is_zero, reaches_no_further_value, fault_of}
use Rattle.cal_spec.specs.declared.field.Part.{Part}
use Rattle.cal_spec.specs.declared.slot.Slot.{Slot}
use Rattle.cal_spec.specs.declared.slot.Slot.TheVariants.{Hour, Minute, Second}
use Rattle.cal_spec.specs.declared.spec_fault.SpecFault.{SpecFault}
use Rattle.cal_spec.specs.declared.spec_fault.SpecFault.TheVariants.{BackwardRange, FractionalSecond, NoRepeat, NumberTooLarge, OutOfField, ZeroRepeat}
use Rattle.cal_spec.proofs.ComponentLemmas.{ends_after, end_within, goes_on, is_step, start_within}
use Rattle.cal_spec.proofs.ComponentRule.{not_backward, not_outside, not_zero, reaches_further_value}
use Rattle.cal_spec.proofs.PartRule.{digits_read, number_due_is, number_symbols, part_found, part_only, slash_symbols, written, written-symbols}
use Rattle.cal_spec.proofs.ReadLemmas.{bind_err}
use Rattle.cal_spec.proofs.SymbolLemmas.{digits_first, front_digits, sound_at, symbols_lone, symbols_number}

-- ## A number at the start of a text

pub record NumberAt (text : List ℕ) : Type 0 where
  pub number : List ℕ
  pub after : List ℕ
  pub whole : text ≡ number ++ after
  pub some : 0 < length number
  pub are_digits : list_all is_ascii_digit number ≡ true
  pub ends : begins_with is_ascii_digit after ≡ false
  pub symbols_are : symbols text ≡ digits number ∷ symbols after

lone_due : (slot : Slot) (c : ℕ) (p s : Bool) (ss : List Symbol) → number_due slot (cond p point (cond s slash (other c)) ∷ ss) ≡ Err (bad slot)
lone_due slot c true s ss = refl
lone_due slot c false true ss = refl
lone_due slot c false false ss = refl

pair_due : (slot : Slot) (b : ℕ) (ss ts : List Symbol) (pair : Bool) → is_ascii_digit b ≡ false → number_due slot (cond pair (dots ∷ ss) (with_byte b ts)) ≡ Err (bad slot)
pair_due slot b ss ts true none = refl
pair_due slot b ss ts false none = rw none (lone_due slot b (is_point b) (is_slash b) ts)

no_number : (slot : Slot) (b : ℕ) (bs : List ℕ) → is_ascii_digit b ≡ false → number_due slot (symbols (b ∷ bs)) ≡ Err (bad slot)
no_number slot b [] none = rw none (lone_due slot b (is_point b) (is_slash b) [])
no_number slot b (c ∷ bs) none = pair_due slot b (symbols bs) (symbols (c ∷ bs)) (is_point b && is_point c) none

number_first : (b : ℕ) (bs : List ℕ) → is_ascii_digit b ≡ true → NumberAt (b ∷ bs)
number_first b bs digit =
    let n = prefix_len is_ascii_digit (b ∷ bs) in
    let is = digits_first b bs digit in
    let sound = (sound_at (b ∷ bs) (digits (take n (b ∷ bs)) ∷ symbols (drop n (b ∷ bs))) is).0 in
    record {
      number = take n (b ∷ bs);
      after = drop n (b ∷ bs);
      whole = sym (take-append-drop n (b ∷ bs));
      some = sound.1;
      are_digits = sound.0;
      ends = (front_digits (b ∷ bs)).1;
      symbols_are = is;
    }

number_at : (slot : Slot) (text : List ℕ) → (number_due slot (symbols text) ≡ Err (bad slot)) ⊎ NumberAt text
number_at slot [] = inl refl
number_at slot (b ∷ bs) =
    elim (cases_Bool (is_ascii_digit b)) [ inl digit ↦ inr (number_first b bs digit) | inr none ↦ inl (no_number slot b bs none) ]

-- ## A point that isn't followed by another point

pub record PointAt (text : List ℕ) : Type 0 where
  pub rest : List ℕ
  pub whole : text ≡ codes "." ++ rest
  pub single : begins_with is_point rest ≡ false

point_first : (ss : List Symbol) → starts_with_point ss ≡ true → (more : List Symbol) × (ss ≡ point ∷ more)
point_first (point ∷ ss) h = (ss, refl)
point_first ss h = cc

single_by : (rest : List ℕ) (more : List Symbol) → symbols (46 ∷ rest) ≡ point ∷ more → begins_with is_point rest ≡ false
single_by [] more at = refl
single_by (c ∷ cs) more at =
    elim (cases_Bool (is_point c)) [ inl pair ↦ absurd (let h = rw pair at at in cc) | inr one ↦ one ]

point_at : (text : List ℕ) → starts_with_point (symbols text) ≡ true → PointAt text
point_at text h =
    let first = point_first (symbols text) h in
    let whole : text ≡ 46 ∷ written first.0 = sym (written-symbols text) ∙ ap written first.1 in
    record { rest = written first.0; whole = whole; single = single_by (written first.0) first.0 (ap symbols (sym whole) ∙ first.1) }

second_is : (slot : Slot) → is_second slot ≡ true → slot ≡ Second
second_is Second h = refl
second_is slot h = cc

-- ## The errors of parsing a number

abbrev DueErr : Slot → List ℕ → SpecFault → Type 0
DueErr slot text e =
    (e ≡ bad slot) ⊎ ((BeginsTooLarge text × (e ≡ NumberTooLarge)) ⊎ (((slot ≡ Second) × BeginsFractional text) × (e ≡ FractionalSecond)))

due_by : (slot : Slot) (text : List ℕ) (n : NumberAt text) (e : SpecFault) (large fraction : Bool) → ltb max_number (digits_value 10 n.number) ≡ large → (is_second slot && starts_with_point (symbols n.after)) ≡ fraction
    → ◌≡◌ {A = Result Counted SpecFault} (cond large (Err NumberTooLarge) (cond fraction (Err FractionalSecond) (Ok (record { number = digits_value 10 n.number; after = symbols n.after })))) (Err e) → DueErr slot text e
due_by slot text n e true fraction large is at =
    let same : NumberTooLarge ≡ e = cc in
    inr (inl (record { digits = n.number; after = n.after; whole = n.whole; are_digits = n.are_digits; ends = n.ends; large = ltb-true max_number (digits_value 10 n.number) large }, sym same))
due_by slot text n e false true small is at =
    let same : FractionalSecond ≡ e = cc in
    let both = and_parts (is_second slot) (starts_with_point (symbols n.after)) is in
    let dot = point_at n.after both.1 in
    let whole : text ≡ n.number ++ (codes "." ++ dot.rest) = n.whole ∙ ap (λ more. n.number ++ more) dot.whole in
    let number : IsNumber n.number (digits_value 10 n.number) = record { some = n.some; digits = n.are_digits; value = refl; small = ltb-false max_number (digits_value 10 n.number) small } in
    inr (inr ((second_is slot both.0, record { number = n.number; value = digits_value 10 n.number; after = dot.rest; whole = whole; number_is = number; single = dot.single }), sym same))
due_by slot text n e false false small is at = cc

due_err : (slot : Slot) (text : List ℕ) (e : SpecFault) → number_due slot (symbols text) ≡ Err e → DueErr slot text e
due_err slot text e at =
    elim (number_at slot text) [
      | inl none ↦ (let same : bad slot ≡ e = cc in inl (sym same))
      | inr n ↦ due_by slot text n e (ltb max_number (digits_value 10 n.number)) (is_second slot && starts_with_point (symbols n.after)) refl refl (rw n.symbols_are at at)
    ]

record NumberIn (text : List ℕ) (r : Counted) : Type 0 where
  pub number : List ℕ
  pub after : List ℕ
  pub whole : text ≡ number ++ after
  pub is : IsNumber number r.number
  pub after_is : r.after ≡ symbols after

number_in : (slot : Slot) (text : List ℕ) (r : Counted) (n : NumberAt text) → number_due slot (symbols text) ≡ Ok r → NumberIn text r
number_in slot text r n at =
    let read = digits_read slot n.number (symbols n.after) r (n.are_digits, n.some) (rw n.symbols_are at at) in
    let same : n.number ≡ read.text = let e = read.is in cc in
    let after : r.after ≡ symbols n.after = let e = read.is in cc in
    record { number = n.number; after = n.after; whole = n.whole; is = rw (← same) at read.number; after_is = after }

due_ok : (slot : Slot) (text : List ℕ) (r : Counted) → number_due slot (symbols text) ≡ Ok r → NumberIn text r
due_ok slot text r at =
    elim (number_at slot text) [ inl none ↦ (absurd (cc)) | inr n ↦ number_in slot text r n at ]

-- ## If parsing a part fails, the error is that of the rule

abbrev PartErr : Slot → List ℕ → SpecFault → Type 0
PartErr slot text e = (e ≡ bad slot) ⊎ ((HasLargeNumber text × (e ≡ NumberTooLarge)) ⊎ (HasFraction slot text × (e ≡ FractionalSecond)))

bad_err : {A : Type 0} (slot : Slot) (text : List ℕ) (e : SpecFault) → ◌≡◌ {A = Result A SpecFault} (Err (bad slot)) (Err e) → PartErr slot text e
bad_err slot text e at = let same : bad slot ≡ e = cc in inl (sym same)

at_number : (slot : Slot) (text rest : List ℕ) (e : SpecFault) → HasNumberDue text rest → number_due slot (symbols rest) ≡ Err e → PartErr slot text e
at_number slot text rest e due at =
    elim (due_err slot rest e at) [
      | inl is_bad ↦ inl is_bad
      | inr (inl large) ↦ inr (inl ((rest, due, large.0), large.1))
      | inr (inr fraction) ↦ inr (inr ((fraction.0.0, (rest, due, fraction.0.1)), fraction.1))
    ]

-- if the first symbol of a text is `..`, the other symbols are those of the text after the two points
dots_at : (text : List ℕ) (ss : List Symbol) → symbols text ≡ dots ∷ ss → (rest : List ℕ) × (text ≡ codes ".." ++ rest) × (ss ≡ symbols rest)
dots_at text ss at =
    let whole : text ≡ 46 ∷ 46 ∷ written ss = sym (written-symbols text) ∙ ap written at in
    let again : dots ∷ symbols (written ss) ≡ dots ∷ ss = ap symbols (sym whole) ∙ at in
    let same : symbols (written ss) ≡ ss = cc in
    (written ss, whole, sym same)

slash_at : (text : List ℕ) (ss : List Symbol) → symbols text ≡ slash ∷ ss → (rest : List ℕ) × (text ≡ codes "/" ++ rest) × (ss ≡ symbols rest)
slash_at text ss at =
    let whole : text ≡ 47 ∷ written ss = sym (written-symbols text) ∙ ap written at in
    let again : slash ∷ symbols (written ss) ≡ slash ∷ ss = sym (slash_symbols (written ss)) ∙ ap symbols (sym whole) ∙ at in
    let same : symbols (written ss) ≡ ss = cc in
    (written ss, whole, sym same)

at_end_err : (slot : Slot) (text : List ℕ) (p : Part) (ss : List Symbol) (e : SpecFault) → part_at_end slot p ss ≡ Err e → PartErr slot text e
at_end_err slot text p [] e at = cc
at_end_err slot text p (s ∷ ss) e at = bad_err {A = Part} slot text e at

-- In this module, `front` is the number with which `text` begins, and `a` is its value. If parsing what follows `front`
-- fails, the error is one that the rule can give a part.
module _ (slot : Slot) (text front : List ℕ) (a : ℕ) (e : SpecFault) (start_is : IsNumber front a) where
  step_err : (middle rest : List ℕ) (last : Option ℕ) → text ≡ front ++ (middle ++ (codes "/" ++ rest)) → IsNext (codes "..") middle last → with_step slot a last (symbols rest) ≡ Err e → PartErr slot text e
  unfolding with_step
  step_err middle rest last whole end_is at =
      let due : HasNumberDue text rest = inr (inr (record { front = front; middle = middle; start = a; end = last; whole = whole; start_is = start_is; end_is = end_is })) in
      elim (bind_err (number_due slot (symbols rest)) (λ r. part_at_end slot (record { start = a; end = last; step = Some r.number }) r.after) e at) [
        | inl wrong ↦ at_number slot text rest e due wrong
        | inr f ↦ at_end_err slot text (record { start = a; end = last; step = Some f.value.number }) f.value.after e f.next
      ]

  end_err : (number after : List ℕ) (b : ℕ) (ss : List Symbol) → text ≡ front ++ (codes ".." ++ (number ++ after)) → IsNumber number b → symbols after ≡ ss → after_end slot a b ss ≡ Err e → PartErr slot text e
  unfolding after_end
  end_err number after b [] whole is at err = cc
  end_err number after b (slash ∷ ss) whole is at err =
      let s = slash_at after ss at in
      step_err (codes ".." ++ number) s.0 (Some b) (whole ∙ ap (λ more. front ++ (codes ".." ++ (number ++ more))) s.1) (number, refl, is) (rw s.2 at err)
  end_err number after b (x ∷ ss) whole is at err = bad_err {A = Part} slot text e err

  range_err : (rest : List ℕ) → text ≡ front ++ (codes ".." ++ rest) → (number_due slot (symbols rest) >>= λ b. after_end slot a b.number b.after) ≡ Err e → PartErr slot text e
  range_err rest whole at =
      elim (bind_err (number_due slot (symbols rest)) (λ b. after_end slot a b.number b.after) e at) [
        | inl wrong ↦ at_number slot text rest e (inr (inl (record { front = front; start = a; whole = whole; start_is = start_is }))) wrong
        | inr f ↦
            let n = due_ok slot rest f.value f.first in
            end_err n.number n.after f.value.number (symbols n.after) (whole ∙ ap (λ more. front ++ (codes ".." ++ more)) n.whole) n.is refl (rw n.after_is at f.next)
      ]

  start_err : (after : List ℕ) (ss : List Symbol) → text ≡ front ++ after → symbols after ≡ ss → after_start slot a ss ≡ Err e → PartErr slot text e
  unfolding after_start
  start_err after [] whole at err = cc
  start_err after (dots ∷ ss) whole at err =
      let d = dots_at after ss at in
      range_err d.0 (whole ∙ ap (λ more. front ++ more) d.1) (rw d.2 at err)
  start_err after (slash ∷ ss) whole at err =
      let s = slash_at after ss at in
      step_err [] s.0 None (whole ∙ ap (λ more. front ++ more) s.1) refl (rw s.2 at err)
  start_err after (x ∷ ss) whole at err = bad_err {A = Part} slot text e err

part_err : (slot : Slot) (text : List ℕ) (e : SpecFault) → part_of slot text ≡ Err e → PartErr slot text e
unfolding part_of
part_err slot text e at =
    elim (bind_err (number_due slot (symbols text)) (λ a. after_start slot a.number a.after) e at) [
      | inl wrong ↦ at_number slot text text e (inl refl) wrong
      | inr f ↦
          let n = due_ok slot text f.value f.first in
          start_err slot text n.number f.value.number e n.is n.after (symbols n.after) n.whole refl (rw n.after_is at f.next)
    ]

-- ## If the rule gives a part an error, parsing it fails with this error

-- In this module, `rest` has the error `e` where a number is due. A part that ends with `rest` has this error, too, if
-- everything before `rest` is valid.
module _ (slot : Slot) (rest : List ℕ) (e : SpecFault) (due : number_due slot (symbols rest) ≡ Err e) where
  step_lead : (front middle : List ℕ) (a : ℕ) (last : Option ℕ) → IsNumber front a → IsNext (codes "..") middle last → part_of slot (front ++ (middle ++ (codes "/" ++ rest))) ≡ Err e
  unfolding part_of after_start after_end with_step
  step_lead front middle a None start none =
      let first : symbols (front ++ (47 ∷ rest)) ≡ digits front ∷ slash ∷ symbols rest = number_symbols front a (47 ∷ rest) start refl ∙ ap (λ more. digits front ∷ more) (slash_symbols rest) in
      rw (none, first, number_due_is slot front a (slash ∷ symbols rest) start refl, due) refl
  step_lead front middle a (Some b) start next =
      let second : symbols (next.0 ++ (47 ∷ rest)) ≡ digits next.0 ∷ slash ∷ symbols rest = number_symbols next.0 b (47 ∷ rest) next.2 refl ∙ ap (λ more. digits next.0 ∷ more) (slash_symbols rest) in
      let first : symbols (front ++ (46 ∷ 46 ∷ (next.0 ++ (47 ∷ rest)))) ≡ digits front ∷ dots ∷ symbols (next.0 ++ (47 ∷ rest)) = number_symbols front a (46 ∷ 46 ∷ (next.0 ++ (47 ∷ rest))) start refl in
      rw (next.1, first, second, number_due_is slot front a (dots ∷ digits next.0 ∷ slash ∷ symbols rest) start refl, number_due_is slot next.0 b (slash ∷ symbols rest) next.2 refl, due) refl

  lead_only : (text : List ℕ) → HasNumberDue text rest → part_of slot text ≡ Err e
  unfolding part_of after_start
  lead_only text (inl same) = rw (same, due) refl
  lead_only text (inr (inl end)) =
      let first : symbols (end.front ++ (46 ∷ 46 ∷ rest)) ≡ digits end.front ∷ dots ∷ symbols rest = number_symbols end.front end.start (46 ∷ 46 ∷ rest) end.start_is refl in
      rw (end.whole, first, number_due_is slot end.front end.start (dots ∷ symbols rest) end.start_is refl, due) refl
  lead_only text (inr (inr step)) =
      ap (part_of slot) step.whole ∙ step_lead step.front step.middle step.start step.end step.start_is step.end_is

digits_due : (slot : Slot) (ds after : List ℕ) → max_number < digits_value 10 ds → list_all is_ascii_digit ds ≡ true → begins_with is_ascii_digit after ≡ false → number_due slot (symbols (ds ++ after)) ≡ Err NumberTooLarge
digits_due slot [] after large all ends = absurd (omega arith)
digits_due slot (d ∷ ds) after large all ends =
    let parts = and_parts (is_ascii_digit d) (list_all is_ascii_digit ds) all in
    rw (symbols_number d ds after parts.0 parts.1 ends, lt-ltb max_number (digits_value 10 (d ∷ ds)) large) refl

large_only : (slot : Slot) (text : List ℕ) → HasLargeNumber text → part_of slot text ≡ Err NumberTooLarge
large_only slot text h =
    let begins = h.2 in
    lead_only slot h.0 NumberTooLarge (ap (λ t. number_due slot (symbols t)) begins.whole ∙ digits_due slot begins.digits begins.after begins.large begins.are_digits begins.ends) text h.1

fraction_due : (ds after : List ℕ) (n : ℕ) → IsNumber ds n → begins_with is_point after ≡ false → number_due Second (symbols (ds ++ (46 ∷ after))) ≡ Err FractionalSecond
fraction_due ds after n is single =
    rw (number_symbols ds n (46 ∷ after) is refl, symbols_lone 46 after refl single, is.value, le-ltb max_number n is.small) refl

fraction_only : (slot : Slot) (text : List ℕ) → HasFraction slot text → part_of slot text ≡ Err FractionalSecond
fraction_only slot text h =
    let begins = h.1.2 in
    rw h.0 (lead_only Second h.1.0 FractionalSecond (ap (λ t. number_due Second (symbols t)) begins.whole ∙ fraction_due begins.number begins.after begins.value begins.number_is begins.single) text h.1.1)

bad_is : (slot : Slot) → bad slot ≡ malformed slot
bad_is Hour = refl
bad_is Minute = refl
bad_is Second = refl
bad_is slot = refl

bad_not_large : (slot : Slot) → bad slot ≡ NumberTooLarge → ⊥
bad_not_large Hour h = cc
bad_not_large Minute h = cc
bad_not_large Second h = cc
bad_not_large slot h = cc

bad_not_fraction : (slot : Slot) → bad slot ≡ FractionalSecond → ⊥
bad_not_fraction Hour h = cc
bad_not_fraction Minute h = cc
bad_not_fraction Second h = cc
bad_not_fraction slot h = cc

same_err : (slot : Slot) (text : List ℕ) (d e : SpecFault) → part_of slot text ≡ Err d → part_of slot text ≡ Err e → d ≡ e
same_err slot text d e first second = cc

is_malformed : (slot : Slot) (text : List ℕ) (e : SpecFault) → part_of slot text ≡ Err e → e ≡ bad slot → IsMalformed slot text
is_malformed slot text e at is = record {
  no_part = λ p spelled. let read = part_only slot text p spelled in cc;
  no_large_number = λ h. bad_not_large slot (sym is ∙ same_err slot text e NumberTooLarge at (large_only slot text h));
  no_fraction = λ h. bad_not_fraction slot (sym is ∙ same_err slot text e FractionalSecond at (fraction_only slot text h));
}

pub part_fault_found : (slot : Slot) (text : List ℕ) (e : SpecFault) → part_of slot text ≡ Err e → HasPartFault slot text e
part_fault_found slot text e at =
    elim (part_err slot text e at) [
      | inl is_bad ↦ inr (inr (is_malformed slot text e at is_bad, is_bad ∙ bad_is slot))
      | inr (inl large) ↦ inl large
      | inr (inr fraction) ↦ inr (inl fraction)
    ]

malformed_by : (slot : Slot) (text : List ℕ) (r : Result Part SpecFault) → part_of slot text ≡ r → IsMalformed slot text → part_of slot text ≡ Err (malformed slot)
malformed_by slot text (Ok p) at is = absurd (is.no_part p (part_found slot text p at))
malformed_by slot text (Err d) at is =
    elim (part_err slot text d at) [
      | inl is_bad ↦ at ∙ ap Err (is_bad ∙ bad_is slot)
      | inr (inl large) ↦ absurd (is.no_large_number large.0)
      | inr (inr fraction) ↦ absurd (is.no_fraction fraction.0)
    ]

pub part_fault_only : (slot : Slot) (text : List ℕ) (e : SpecFault) → HasPartFault slot text e → part_of slot text ≡ Err e
part_fault_only slot text e (inl large) = rw large.1 (large_only slot text large.0)
part_fault_only slot text e (inr (inl fraction)) = rw fraction.1 (fraction_only slot text fraction.0)
part_fault_only slot text e (inr (inr bad_one)) = rw bad_one.1 (malformed_by slot text (part_of slot text) refl bad_one.0)

-- ## Errors in the values of a part

within_by : (slot : Slot) (p : Part) → is_outside slot p.start p.end ≡ false → AreWithin slot p
within_by slot p test = (start_within slot p.start p.end test, end_within slot p.start p.end test)

value_by : (slot : Slot) (p : Part) (e : SpecFault) (a b c d : Bool) → is_outside slot p.start p.end ≡ a → is_backward p.start p.end ≡ b → is_zero p.step ≡ c → reaches_no_further_value slot p.start p.end p.step ≡ d → cond a (Some OutOfField) (cond b (Some BackwardRange) (cond c (Some ZeroRepeat) (cond d (Some NoRepeat) None))) ≡ Some e → HasValueFault slot p e
value_by slot p e true b c d one two three four at =
    let same : OutOfField ≡ e = cc in
    subst (λ (f : SpecFault). HasValueFault slot p f) same (λ within. let no = not_outside slot p.start p.end within.0 within.1 in cc)
value_by slot p e false true c d one two three four at =
    let same : BackwardRange ≡ e = cc in
    subst (λ (f : SpecFault). HasValueFault slot p f) same (within_by slot p one, λ forward. let no = not_backward p.start p.end forward in cc)
value_by slot p e false false true d one two three four at =
    let same : ZeroRepeat ≡ e = cc in
    subst (λ (f : SpecFault). HasValueFault slot p f) same (within_by slot p one, ends_after p.start p.end two, λ some. let no = not_zero p.step some in cc)
value_by slot p e false false false true one two three four at =
    let same : NoRepeat ≡ e = cc in
    subst (λ (f : SpecFault). HasValueFault slot p f) same (within_by slot p one, ends_after p.start p.end two, is_step p.step three, λ more. let no = reaches_further_value slot p.start p.end p.step more in cc)
value_by slot p e false false false false one two three four at = cc

pub value_fault_found : (slot : Slot) (p : Part) (e : SpecFault) → fault_of slot p ≡ Some e → HasValueFault slot p e
unfolding fault_of
value_fault_found slot p e at =
    value_by slot p e (is_outside slot p.start p.end) (is_backward p.start p.end) (is_zero p.step) (reaches_no_further_value slot p.start p.end p.step) refl refl refl refl at

true_unless : (test : Bool) → (test ≡ false → ⊥) → test ≡ true
true_unless true h = refl
true_unless false h = absurd (h refl)

pub value_fault_only : (slot : Slot) (p : Part) (e : SpecFault) → HasValueFault slot p e → fault_of slot p ≡ Some e
unfolding fault_of
value_fault_only slot p OutOfField h =
    rw (true_unless (is_outside slot p.start p.end) (λ test. h (within_by slot p test))) refl
value_fault_only slot p BackwardRange h =
    rw (not_outside slot p.start p.end h.0.0 h.0.1, true_unless (is_backward p.start p.end) (λ test. h.1 (ends_after p.start p.end test))) refl
value_fault_only slot p ZeroRepeat h =
    rw (not_outside slot p.start p.end h.0.0 h.0.1, not_backward p.start p.end h.1, true_unless (is_zero p.step) (λ test. h.2 (is_step p.step test))) refl
value_fault_only slot p NoRepeat h =
    rw (not_outside slot p.start p.end h.0.0 h.0.1, not_backward p.start p.end h.1, not_zero p.step h.2, true_unless (reaches_no_further_value slot p.start p.end p.step) (λ test. h.3 (goes_on slot p.start p.end p.step test))) refl
value_fault_only slot p e h = absurd h
