-- The parser accepts exactly the parts that the grammar allows.
use Rattle.std.proofs.Common.{ℕ, ◌≡◌, Bool, true, false, cond, ◌&&◌, List, [], ◌∷◌, ◌++◌, codes, Option, Some, None, Ok, Err, refl, sym, ap, ◌∙◌, arith, ltb}
use Rattle.std.specs.List.{AllByRecursion, flat_map, list_all}
use Rattle.std.specs.Char.{is_ascii_digit}
use Rattle.std.specs.Str.Parse.{digits_value}
use Rattle.std.proofs.lemmas.Bool.{ltb-false, le-ltb, and_parts, and_right, eqb-true}
use Rattle.std.proofs.lemmas.List.{append-nil}
use Rattle.cal_spec.specs.rules.GrammarRule.{IsNumber, IsNext, IsPartText}
use Rattle.cal_bytes.specs.rules.Separators.{is_point, is_slash}
use Rattle.cal_spec.specs.rules.PartFaultRule.{begins_with}
use Rattle.cal_spec.specs.computed.Parts.{Symbol, digits, dots, slash, point, other, with_digit, with_byte, lone, symbols, starts_with_point, is_second, Counted, after_number, number_due, part_at_end, with_step, after_end, after_start, part_of}
use Rattle.cal_spec.specs.rules.Slot.{max_number}
use Rattle.cal_bytes.specs.rules.AndThen.{◌>>=◌}
use Rattle.cal_spec.specs.declared.field.Part.{Part}
use Rattle.cal_spec.specs.declared.slot.Slot.{Slot}
use Rattle.cal_spec.specs.declared.spec_fault.SpecFault.TheVariants.{NumberTooLarge, FractionalSecond}
use Rattle.cal_spec.proofs.ReadLemmas.{bind_ok, cond_ok}
use Rattle.cal_spec.proofs.SymbolLemmas.{IsSymbol, symbols_lone, symbols_number, symbols_sound}

-- ## The symbols of a text determine the text

abbrev pub spelled : Symbol → List ℕ
spelled (digits ds) = ds
spelled dots = 46 ∷ 46 ∷ []
spelled slash = 47 ∷ []
spelled point = 46 ∷ []
spelled (other b) = b ∷ []

abbrev pub written : List Symbol → List ℕ
written = flat_map spelled

written-digit : (b : ℕ) (ss : List Symbol) → written (with_digit b ss) ≡ b ∷ written ss
written-digit b [] = refl
written-digit b (digits ds ∷ ss) = refl
written-digit b ss = refl

spelled-lone : (b : ℕ) (p s : Bool) → is_point b ≡ p → is_slash b ≡ s → spelled (cond p point (cond s slash (other b))) ≡ b ∷ []
spelled-lone b true s is_p is_s = ap (λ c. c ∷ []) (sym (eqb-true b 46 is_p))
spelled-lone b false true is_p is_s = ap (λ c. c ∷ []) (sym (eqb-true b 47 is_s))
spelled-lone b false false is_p is_s = refl

written-byte : (b : ℕ) (ss : List Symbol) (digit : Bool) → written (cond digit (with_digit b ss) (lone b ∷ ss)) ≡ b ∷ written ss
written-byte b ss true = written-digit b ss
written-byte b ss false = ap (λ front. front ++ written ss) (spelled-lone b (is_point b) (is_slash b) refl refl)

written-pair : (b c : ℕ) (ss ts : List Symbol) (pair : Bool) → (is_point b && is_point c) ≡ pair → written ts ≡ c ∷ written ss → written (cond pair (dots ∷ ss) (with_byte b ts)) ≡ b ∷ c ∷ written ss
written-pair b c ss ts true is rest =
    let points = and_parts (is_point b) (is_point c) is in
    rw (eqb-true b 46 points.0, eqb-true c 46 points.1) refl
written-pair b c ss ts false is rest = written-byte b ts (is_ascii_digit b) ∙ ap (λ more. b ∷ more) rest

pub written-symbols : (bs : List ℕ) → written (symbols bs) ≡ bs
written-symbols [] = refl
written-symbols (b ∷ []) = written-byte b [] (is_ascii_digit b)
written-symbols (b ∷ c ∷ bs) =
    written-pair b c (symbols bs) (symbols (c ∷ bs)) (is_point b && is_point c) refl (written-symbols (c ∷ bs) ∙ ap (λ more. c ∷ more) (sym (written-symbols bs))) ∙ ap (λ more. b ∷ c ∷ more) (written-symbols bs)

-- ## If parsing a part succeeds, the grammar allows the part

pub record NumberRead (ss : List Symbol) (r : Counted) : Type 0 where
  pub text : List ℕ
  pub is : ss ≡ digits text ∷ r.after
  pub number : IsNumber text r.number

counted_is : (n : ℕ) (ss : List Symbol) (r : Counted) → record { number = n; after = ss } ≡ r → (n ≡ r.number) × (ss ≡ r.after)
counted_is n ss r is = (ap (λ (c : Counted). c.number) is, ap (λ (c : Counted). c.after) is)

pub digits_read : (slot : Slot) (ds : List ℕ) (ss : List Symbol) (r : Counted) → IsSymbol (digits ds) → after_number slot (digits_value 10 ds) ss ≡ Ok r → NumberRead (digits ds ∷ ss) r
digits_read slot ds ss r sound at =
    let small = cond_ok (ltb max_number (digits_value 10 ds)) NumberTooLarge (cond (is_second slot && starts_with_point ss) (Err FractionalSecond) (Ok (record { number = digits_value 10 ds; after = ss }))) r at in
    let whole = cond_ok (is_second slot && starts_with_point ss) FractionalSecond (Ok (record { number = digits_value 10 ds; after = ss })) r small.1 in
    let same : record { number = digits_value 10 ds; after = ss } ≡ r = let e = whole.1 in cc in
    let parts = counted_is (digits_value 10 ds) ss r same in
    record {
      text = ds;
      is = ap (λ more. digits ds ∷ more) parts.1;
      number = record {
        some = sound.1;
        digits = sound.0;
        value = parts.0;
        small = rw parts.0 at (ltb-false max_number (digits_value 10 ds) small.0);
      };
    }

number_read : (slot : Slot) (ss : List Symbol) (r : Counted) → AllByRecursion IsSymbol ss → number_due slot ss ≡ Ok r → NumberRead ss r
number_read slot (digits ds ∷ ss) r sound at = digits_read slot ds ss r sound.0 at
number_read slot ss r sound at = cc

after_sound : (ss : List Symbol) (r : Counted) → AllByRecursion IsSymbol ss → NumberRead ss r → AllByRecursion IsSymbol r.after
after_sound ss r sound read = (rw read.is at sound).1

at_end_is : (slot : Slot) (p : Part) (ss : List Symbol) (q : Part) → part_at_end slot p ss ≡ Ok q → (ss ≡ []) × (p ≡ q)
at_end_is slot p [] q at = (refl, cc)
at_end_is slot p (s ∷ ss) q at = cc

-- `p` is a part with the start `a` and the end `last`; the symbols `ss` are a slash and the part's step, or nothing if
-- the part has no step
pub record IsBehind (ss : List Symbol) (a : ℕ) (last : Option ℕ) (p : Part) : Type 0 where
  pub step : Option ℕ
  pub back : IsNext (codes "/") (written ss) step
  pub is : record { start = a; end = last; step = step } ≡ p

step_read : (slot : Slot) (a : ℕ) (last : Option ℕ) (ss : List Symbol) (p : Part) → AllByRecursion IsSymbol ss → with_step slot a last ss ≡ Ok p → IsBehind (slash ∷ ss) a last p
unfolding with_step
step_read slot a last ss p sound at =
    let one = bind_ok (number_due slot ss) (λ r. part_at_end slot (record { start = a; end = last; step = Some r.number }) r.after) p at in
    let read = number_read slot ss one.value sound one.first in
    let ends = at_end_is slot (record { start = a; end = last; step = Some one.value.number }) one.value.after p one.next in
    let alone : ss ≡ digits read.text ∷ [] = read.is ∙ ap (λ more. digits read.text ∷ more) ends.0 in
    record {
      step = Some one.value.number;
      back = (read.text, ap (λ (more : List Symbol). 47 ∷ written more) alone ∙ ap (λ more. 47 ∷ more) (append-nil read.text), read.number);
      is = ends.1;
    }

end_read : (slot : Slot) (a b : ℕ) (ss : List Symbol) (p : Part) → AllByRecursion IsSymbol ss → after_end slot a b ss ≡ Ok p → IsBehind ss a (Some b) p
unfolding after_end
end_read slot a b [] p sound at = record { step = None; back = refl; is = cc }
end_read slot a b (slash ∷ ss) p sound at = step_read slot a (Some b) ss p sound.1 at
end_read slot a b ss p sound at = cc

-- `p` is a part with the start `a`. `text` is what follows the start in the text of the part: `..` and the end, if `p`
-- has an end, and then a slash and the step, if `p` has a step.
pub record IsRest (text : List ℕ) (a : ℕ) (p : Part) : Type 0 where
  pub middle : List ℕ
  pub back : List ℕ
  pub last : Option ℕ
  pub step : Option ℕ
  pub whole : text ≡ middle ++ back
  pub end_is : IsNext (codes "..") middle last
  pub step_is : IsNext (codes "/") back step
  pub is : record { start = a; end = last; step = step } ≡ p

range_read : (slot : Slot) (a : ℕ) (ss : List Symbol) (p : Part) → AllByRecursion IsSymbol ss → (number_due slot ss >>= λ b. after_end slot a b.number b.after) ≡ Ok p → IsRest (46 ∷ 46 ∷ written ss) a p
range_read slot a ss p sound at =
    let one = bind_ok (number_due slot ss) (λ b. after_end slot a b.number b.after) p at in
    let read = number_read slot ss one.value sound one.first in
    let after = end_read slot a one.value.number one.value.after p (after_sound ss one.value sound read) one.next in
    record {
      middle = 46 ∷ 46 ∷ read.text;
      back = written one.value.after;
      last = Some one.value.number;
      step = after.step;
      whole = ap (λ (more : List Symbol). 46 ∷ 46 ∷ written more) read.is;
      end_is = (read.text, refl, read.number);
      step_is = after.back;
      is = after.is;
    }

rest_from_step : (ss : List Symbol) (a : ℕ) (p : Part) → IsBehind ss a None p → IsRest (written ss) a p
rest_from_step ss a p after = record {
  middle = [];
  back = written ss;
  last = None;
  step = after.step;
  whole = refl;
  end_is = refl;
  step_is = after.back;
  is = after.is;
}

start_read : (slot : Slot) (a : ℕ) (ss : List Symbol) (p : Part) → AllByRecursion IsSymbol ss → after_start slot a ss ≡ Ok p → IsRest (written ss) a p
unfolding after_start
start_read slot a [] p sound at = rest_from_step [] a p (record { step = None; back = refl; is = cc })
start_read slot a (dots ∷ ss) p sound at = range_read slot a ss p sound.1 at
start_read slot a (slash ∷ ss) p sound at = rest_from_step (slash ∷ ss) a p (step_read slot a None ss p sound.1 at)
start_read slot a ss p sound at = cc

part_by : (text front middle back : List ℕ) (a : ℕ) (last step : Option ℕ) (p : Part) → record { start = a; end = last; step = step } ≡ p → text ≡ front ++ (middle ++ back) → IsNumber front a → IsNext (codes "..") middle last → IsNext (codes "/") back step → IsPartText text p
part_by text front middle back a last step p is whole start_is end_is step_is =
    rw (← is) (record { front = front; middle = middle; back = back; whole = whole; start = start_is; end = end_is; step = step_is })

-- if parsing a text returns the part `p`, the text spells `p` by the grammar
pub part_found : (slot : Slot) (text : List ℕ) (p : Part) → part_of slot text ≡ Ok p → IsPartText text p
unfolding part_of
part_found slot text p at =
    let one = bind_ok (number_due slot (symbols text)) (λ a. after_start slot a.number a.after) p at in
    let read = number_read slot (symbols text) one.value (symbols_sound text) one.first in
    let rest = start_read slot one.value.number one.value.after p (after_sound (symbols text) one.value (symbols_sound text) read) one.next in
    let whole : text ≡ read.text ++ (rest.middle ++ rest.back) = sym (written-symbols text) ∙ ap written read.is ∙ ap (λ more. read.text ++ more) rest.whole in
    part_by text read.text rest.middle rest.back one.value.number rest.last rest.step p rest.is whole read.number rest.end_is rest.step_is

-- ## If the grammar allows a part, parsing it succeeds

pub number_due_is : (slot : Slot) (ds : List ℕ) (n : ℕ) (ss : List Symbol) → IsNumber ds n → starts_with_point ss ≡ false → number_due slot (digits ds ∷ ss) ≡ Ok (record { number = n; after = ss })
number_due_is slot ds n ss number apart =
    rw (number.value, le-ltb max_number n number.small, and_right (is_second slot) (starts_with_point ss) apart) refl

-- if no digit follows a number in a text, the digits of the number are one symbol
pub number_symbols : (ds : List ℕ) (n : ℕ) (rest : List ℕ) → IsNumber ds n → begins_with is_ascii_digit rest ≡ false → symbols (ds ++ rest) ≡ digits ds ∷ symbols rest
number_symbols [] n rest number apart = absurd (omega (arith, number.some))
number_symbols (d ∷ ds) n rest number apart =
    let parts = and_parts (is_ascii_digit d) (list_all is_ascii_digit ds) number.digits in
    symbols_number d ds rest parts.0 parts.1 apart

-- a slash is a symbol of its own
pub slash_symbols : (bs : List ℕ) → symbols (47 ∷ bs) ≡ slash ∷ symbols bs
slash_symbols bs = symbols_lone 47 bs refl refl

-- if the text after a slash is the number `r`, `with_step` returns the part with the step `r`
step_only : (slot : Slot) (a : ℕ) (last : Option ℕ) (rs : List ℕ) (r : ℕ) → IsNumber rs r → with_step slot a last (symbols rs) ≡ Ok (record { start = a; end = last; step = Some r })
unfolding with_step
step_only slot a last rs r number =
    let alone : symbols rs ≡ digits rs ∷ [] = ap symbols (sym (append-nil rs)) ∙ number_symbols rs r [] number refl in
    rw (alone, number_due_is slot rs r [] number refl) refl

end_only : (slot : Slot) (a b : ℕ) (back : List ℕ) (step : Option ℕ) → IsNext (codes "/") back step → after_end slot a b (symbols back) ≡ Ok (record { start = a; end = Some b; step = step })
unfolding after_end
end_only slot a b back None none = rw none refl
end_only slot a b back (Some r) next = rw (next.1, slash_symbols next.0) (step_only slot a (Some b) next.0 r next.2)

start_only : (slot : Slot) (a : ℕ) (back : List ℕ) (step : Option ℕ) → IsNext (codes "/") back step → after_start slot a (symbols back) ≡ Ok (record { start = a; end = None; step = step })
unfolding after_start
start_only slot a back None none = rw none refl
start_only slot a back (Some r) next = rw (next.1, slash_symbols next.0) (step_only slot a None next.0 r next.2)

-- ## What follows a number in a part begins neither with a digit nor with a single point

back_no_digit : (back : List ℕ) (step : Option ℕ) → IsNext (codes "/") back step → begins_with is_ascii_digit back ≡ false
back_no_digit back None none = rw none refl
back_no_digit back (Some r) next = rw next.1 refl

back_no_point : (back : List ℕ) (step : Option ℕ) → IsNext (codes "/") back step → starts_with_point (symbols back) ≡ false
back_no_point back None none = rw none refl
back_no_point back (Some r) next = rw (next.1, slash_symbols next.0) refl

middle_no_digit : (middle back : List ℕ) (last step : Option ℕ) → IsNext (codes "..") middle last → IsNext (codes "/") back step → begins_with is_ascii_digit (middle ++ back) ≡ false
middle_no_digit middle back None step none next = rw none (back_no_digit back step next)
middle_no_digit middle back (Some b) step some next = rw some.1 refl

middle_no_point : (middle back : List ℕ) (last step : Option ℕ) → IsNext (codes "..") middle last → IsNext (codes "/") back step → starts_with_point (symbols (middle ++ back)) ≡ false
middle_no_point middle back None step none next = rw none (back_no_point back step next)
middle_no_point middle back (Some b) step some next = rw some.1 refl

range_only : (slot : Slot) (a b : ℕ) (number back : List ℕ) (step : Option ℕ) → IsNumber number b → IsNext (codes "/") back step → after_start slot a (dots ∷ symbols (number ++ back)) ≡ Ok (record { start = a; end = Some b; step = step })
unfolding after_start
range_only slot a b number back step is next =
    rw (number_symbols number b back is (back_no_digit back step next), number_due_is slot number b (symbols back) is (back_no_point back step next)) (end_only slot a b back step next)

rest_only : (slot : Slot) (a : ℕ) (middle back : List ℕ) (last step : Option ℕ) → IsNext (codes "..") middle last → IsNext (codes "/") back step → after_start slot a (symbols (middle ++ back)) ≡ Ok (record { start = a; end = last; step = step })
rest_only slot a middle back None step none next = rw none (start_only slot a back step next)
rest_only slot a middle back (Some b) step some next = rw some.1 (range_only slot a b some.0 back step some.2 next)

-- if a text spells the part `p` by the grammar, parsing the text returns `p`
pub part_only : (slot : Slot) (text : List ℕ) (p : Part) → IsPartText text p → part_of slot text ≡ Ok p
unfolding part_of
part_only slot text p is =
    let rest = is.middle ++ is.back in
    let first : symbols text ≡ digits is.front ∷ symbols rest = ap symbols is.whole ∙ number_symbols is.front p.start rest is.start (middle_no_digit is.middle is.back p.end p.step is.end is.step) in
    rw (first, number_due_is slot is.front p.start (symbols rest) is.start (middle_no_point is.middle is.back p.end p.step is.end is.step)) (rest_only slot p.start is.middle is.back p.end p.step is.end is.step)
