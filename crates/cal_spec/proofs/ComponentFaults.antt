-- Parsing a component fails with an error if and only if the component has this error by the rule `HasComponentFault`.
use Rattle.std.proofs.Common.{ℕ, suc, ◌+◌, ◌-◌, ◌≤◌, ◌≡◌, ◌⊎◌, inl, inr, Bool, true, false, cond, List, [], ◌∷◌, ◌++◌, codes, length, Option, Some, None, Ok, Err, refl, sym, ap, ◌∙◌, arith, eqb, subst}
use Rattle.std.specs.Option.{option_or}
use Rattle.std.specs.List.{AllByRecursion, slice_split}
use Rattle.std.proofs.lemmas.Bool.{cases_Bool, eqb-false, eqb-true, false_from_ne_true, ne_eqb}
use Rattle.std.proofs.lemmas.Slice.Eq.{bytes_eq-Decides}
use Rattle.std.proofs.lemmas.Slice.Zip.{AllZip-long}
use Rattle.cal_bytes.specs.rules.AndThen.{◌>>=◌}
use Rattle.cal_bytes.specs.rules.Separators.{is_comma}
use Rattle.cal_spec.specs.rules.ComponentFaultRule.{HasComponentFault, HasFaultAmong, HasFaultInValues, HasPieceFault, HasSyntaxFault, counted_to, uncounted}
use Rattle.cal_spec.specs.rules.PartFaultRule.{HasValueFault}
use Rattle.cal_spec.specs.rules.Fields.{max_counted_parts, parts_in}
use Rattle.cal_spec.specs.rules.FullYears.{with_full_years}
use Rattle.cal_spec.specs.rules.GrammarRule.{IsComponent, IsPartOf, IsPartText}
use Rattle.cal_spec.specs.rules.ValidParts.{IsValidPart}
use Rattle.cal_spec.specs.computed.Components.{is_star, counted, room_in, part_due, parts_of, first_value_fault, parts_listed, component_of}
use Rattle.cal_spec.specs.computed.Parts.{is_time, part_of, fault_of}
use Rattle.cal_spec.specs.computed.Reads.{unless}
use Rattle.cal_spec.specs.declared.field.Part.{Part}
use Rattle.cal_spec.specs.declared.slot.Slot.{Slot}
use Rattle.cal_spec.specs.declared.slot.Slot.TheVariants.{Hour, Minute, Second}
use Rattle.cal_spec.specs.declared.spec_fault.SpecFault.{SpecFault}
use Rattle.cal_spec.specs.declared.spec_fault.SpecFault.TheVariants.{TooManyParts}
use Rattle.cal_spec.proofs.ComponentLemmas.{component_read, parts_counted, part_due_is, sound_part}
use Rattle.cal_spec.proofs.ComponentRule.{component_found, component_only, no_fault_of, part_due_only, parts_found, parts_only}
use Rattle.cal_spec.proofs.PartFaults.{part_fault_found, part_fault_only, value_fault_found, value_fault_only}
use Rattle.cal_spec.proofs.PartRule.{part_found}
use Rattle.cal_spec.proofs.ReadLemmas.{bind_err, unless_err}

-- ## Parsing and the rule count the same parts

uncounted_is : (slot : Slot) → uncounted slot ≡ cond (is_time slot) 1 0
uncounted_is Hour = refl
uncounted_is Minute = refl
uncounted_is Second = refl
uncounted_is slot = refl

one_uncounted : (slot : Slot) → uncounted slot ≤ 1
one_uncounted slot = elim (cases_Bool (is_time slot)) [ inl time ↦ omega (arith, (rw time at (uncounted_is slot))) | inr date ↦ omega (arith, (rw date at (uncounted_is slot))) ]

room_in_is : (slot : Slot) (room : ℕ) → room_in slot room ≡ room + uncounted slot
room_in_is slot room = elim (cases_Bool (is_time slot)) [ inl time ↦ rw (time, uncounted_is slot, time) refl | inr date ↦ rw (date, uncounted_is slot, date) (omega arith) ]

counted_is : (slot : Slot) (parts : Option (List Part)) → counted slot parts ≡ parts_in parts - uncounted slot
counted_is slot None = omega arith
counted_is slot (Some ps) = elim (cases_Bool (is_time slot)) [ inl time ↦ rw (time, uncounted_is slot, time) refl | inr date ↦ rw (date, uncounted_is slot, date) (omega arith) ]

-- ## Errors in the syntax of the parts

piece_by : (slot : Slot) (room number : ℕ) (text : List ℕ) (e : SpecFault) (full : Bool) → number + room ≡ 241 → eqb room 0 ≡ full → cond full (Err TooManyParts) (part_of slot text >>= λ p. Ok (with_full_years slot p)) ≡ Err e → HasPieceFault slot number text e
piece_by slot room number text e true sum is at =
    let none = eqb-true room 0 is in
    let same : TooManyParts ≡ e = cc in
    inl (omega (arith, none, sum), sym same)
piece_by slot room number text e false sum is at =
    let some = eqb-false room 0 is in
    elim (bind_err (part_of slot text) (λ p. Ok (with_full_years slot p)) e at) [
      | inl wrong ↦ inr (omega (arith, some, sum), part_fault_found slot text e wrong)
      | inr f ↦ (let no = f.next in cc)
    ]

piece_found : (slot : Slot) (room number : ℕ) (text : List ℕ) (e : SpecFault) → number + room ≡ 241 → part_due slot room text ≡ Err e → HasPieceFault slot number text e
unfolding part_due
piece_found slot room number text e sum at = piece_by slot room number text e (eqb room 0) sum refl at

piece_only : (slot : Slot) (room number : ℕ) (text : List ℕ) (e : SpecFault) → number + room ≡ 241 → HasPieceFault slot number text e → part_due slot room text ≡ Err e
unfolding part_due
piece_only slot room number text e sum (inl full) =
    let none : room ≡ 0 = omega (arith, sum, full.0) in
    rw (none, full.1) refl
piece_only slot room number text e sum (inr wrong) =
    rw (ne_eqb room 0 (λ none. omega (arith, sum, none, wrong.0)), part_fault_only slot text e wrong.1) refl

piece_number : (slot : Slot) (number : ℕ) (text : List ℕ) (e : SpecFault) → HasPieceFault slot number text e → number ≤ 241
piece_number slot number text e (inl full) = omega (arith, full.0)
piece_number slot number text e (inr wrong) = omega (arith, wrong.0)

renumbered : (slot : Slot) (m n : ℕ) (text : List ℕ) (e : SpecFault) → m ≡ n → HasPieceFault slot m text e → HasPieceFault slot n text e
renumbered slot m n text e same h = subst (λ (k : ℕ). HasPieceFault slot k text e) same h

abbrev IsSomePart : List ℕ → Type 0
IsSomePart text = (p : Part) × IsPartText text p

-- one of the pieces has the error, and all pieces before it are parts; `number` is the number of counted parts up to
-- and including the first piece
record SyntaxFrom (slot : Slot) (number : ℕ) (pieces : List (List ℕ)) (e : SpecFault) : Type 0 where
  pub done : List (List ℕ)
  pub piece : List ℕ
  pub after : List (List ℕ)
  pub whole : pieces ≡ done ++ (piece ∷ after)
  pub are_parts : AllByRecursion IsSomePart done
  pub at_fault : HasPieceFault slot (number + length done) piece e

shapes_found : (slot : Slot) (room number : ℕ) (ts : List (List ℕ)) (e : SpecFault) → number + room ≡ 241 → parts_of slot room ts ≡ Err e → SyntaxFrom slot number ts e
shapes_found slot room number [] e sum at = cc
shapes_found slot room number (t ∷ ts) e sum at =
    elim (bind_err (part_due slot room t) (λ p. parts_of slot (room - 1) ts >>= λ ps. Ok (p ∷ ps)) e at) [
      | inl wrong ↦ record {
        done = [];
        piece = t;
        after = ts;
        whole = refl;
        are_parts = tt;
        at_fault = renumbered slot number (number + 0) t e (omega arith) (piece_found slot room number t e sum wrong);
      }
      | inr f ↦
          let due = part_due_is slot room t f.value f.first in
          elim (bind_err (parts_of slot (room - 1) ts) (λ ps. Ok (f.value ∷ ps)) e f.next) [
            | inl wrong ↦
                let more = shapes_found slot (room - 1) (number + 1) ts e (omega (arith, sum, due.0)) wrong in
                record {
                  done = t ∷ more.done;
                  piece = more.piece;
                  after = more.after;
                  whole = ap (λ rest. t ∷ rest) more.whole;
                  are_parts = ((due.1.value, part_found slot t due.1.value due.1.first), more.are_parts);
                  at_fault = renumbered slot (number + 1 + length more.done) (number + suc (length more.done)) more.piece e (omega arith) more.at_fault;
                }
            | inr g ↦ (let no = g.next in cc)
          ]
    ]

shapes_only : (slot : Slot) (room number : ℕ) (done : List (List ℕ)) (piece : List ℕ) (after : List (List ℕ)) (e : SpecFault) → number + room ≡ 241 → AllByRecursion IsSomePart done → HasPieceFault slot (number + length done) piece e → parts_of slot room (done ++ (piece ∷ after)) ≡ Err e
shapes_only slot room number [] piece after e sum are at =
    rw (piece_only slot room number piece e sum (renumbered slot (number + 0) number piece e (omega arith) at)) refl
shapes_only slot room number (t ∷ done) piece after e sum are at =
    let few = piece_number slot (number + suc (length done)) piece e at in
    let due = part_due_only slot room t (with_full_years slot are.0.0) (are.0.0, are.0.1, refl) (omega (arith, few, sum)) in
    let more = shapes_only slot (room - 1) (number + 1) done piece after e (omega (arith, few, sum)) are.1 (renumbered slot (number + suc (length done)) (number + 1 + length done) piece e (omega arith) at) in
    rw (due, more) refl

-- ## Errors in the values of the parts

record ValuesFrom (slot : Slot) (ps : List Part) (e : SpecFault) : Type 0 where
  pub done : List Part
  pub part : Part
  pub after : List Part
  pub whole : ps ≡ done ++ (part ∷ after)
  pub sound : AllByRecursion (IsValidPart slot) done
  pub at_fault : HasValueFault slot part e

values_by : (slot : Slot) (p : Part) (ps : List Part) (e : SpecFault) (o : Option SpecFault) → fault_of slot p ≡ o → (first_value_fault slot ps ≡ Some e → ValuesFrom slot ps e) → option_or o (first_value_fault slot ps) ≡ Some e → ValuesFrom slot (p ∷ ps) e
values_by slot p ps e (Some d) is rest at = record {
  done = [];
  part = p;
  after = ps;
  whole = refl;
  sound = tt;
  at_fault = value_fault_found slot p e (is ∙ at);
}
values_by slot p ps e None is rest at =
    let more = rest at in
    record {
      done = p ∷ more.done;
      part = more.part;
      after = more.after;
      whole = ap (λ qs. p ∷ qs) more.whole;
      sound = (sound_part slot p is, more.sound);
      at_fault = more.at_fault;
    }

values_found : (slot : Slot) (ps : List Part) (e : SpecFault) → first_value_fault slot ps ≡ Some e → ValuesFrom slot ps e
values_found slot [] e at = cc
values_found slot (p ∷ ps) e at = values_by slot p ps e (fault_of slot p) refl (values_found slot ps e) at

values_only : (slot : Slot) (done : List Part) (part : Part) (after : List Part) (e : SpecFault) → AllByRecursion (IsValidPart slot) done → HasValueFault slot part e → first_value_fault slot (done ++ (part ∷ after)) ≡ Some e
values_only slot [] part after e sound at = rw (value_fault_only slot part e at) refl
values_only slot (p ∷ done) part after e sound at = rw (no_fault_of slot p sound.0) (values_only slot done part after e sound.1 at)

-- ## Errors of one component

listed_found : (slot : Slot) (before room : ℕ) (text : List ℕ) (e : SpecFault) → before + room ≡ 240 → parts_listed slot room text ≡ Err e
    → HasSyntaxFault slot before (slice_split is_comma text) e ⊎ HasFaultInValues slot before (slice_split is_comma text) e
unfolding parts_listed
listed_found slot before room text e sum at =
    let pieces = slice_split is_comma text in
    let one = one_uncounted slot in
    let full = room_in_is slot room in
    elim (bind_err (parts_of slot (room_in slot room) pieces) (λ ps. unless (first_value_fault slot ps) ps) e at) [
      | inl wrong ↦
          let from = shapes_found slot (room_in slot room) (before + 1 - uncounted slot) pieces e (omega (arith, sum, one, full)) wrong in
          inl (record {
            done = from.done;
            piece = from.piece;
            after = from.after;
            whole = from.whole;
            are_parts = from.are_parts;
            at_fault = renumbered slot (before + 1 - uncounted slot + length from.done) (before + (length from.done + 1 - uncounted slot)) from.piece e (omega (arith, one)) from.at_fault;
          })
      | inr f ↦
          let from = values_found slot f.value e (unless_err (first_value_fault slot f.value) f.value e f.next) in
          let size = parts_counted slot (room_in slot room) pieces f.value f.first in
          inr (record {
            done = from.done;
            part = from.part;
            after = from.after;
            parts = rw from.whole at (parts_found slot (room_in slot room) pieces f.value f.first);
            few = omega (arith, sum, one, full, size.0, size.1);
            sound = from.sound;
            at_fault = from.at_fault;
          })
    ]

listed_only : (slot : Slot) (before room : ℕ) (text : List ℕ) (e : SpecFault) → before + room ≡ 240 → HasSyntaxFault slot before (slice_split is_comma text) e ⊎ HasFaultInValues slot before (slice_split is_comma text) e
    → parts_listed slot room text ≡ Err e
unfolding parts_listed
listed_only slot before room text e sum (inl h) =
    let one = one_uncounted slot in
    let full = room_in_is slot room in
    rw (h.whole, shapes_only slot (room_in slot room) (before + 1 - uncounted slot) h.done h.piece h.after e (omega (arith, sum, one, full)) h.are_parts (renumbered slot (before + (length h.done + 1 - uncounted slot)) (before + 1 - uncounted slot + length h.done) h.piece e (omega (arith, one)) h.at_fault)) refl
listed_only slot before room text e sum (inr h) =
    let pieces = slice_split is_comma text in
    let ps = h.done ++ (h.part ∷ h.after) in
    let one = one_uncounted slot in
    let full = room_in_is slot room in
    let size = AllZip-long (IsPartOf slot) pieces ps h.parts in
    let few = h.few in
    let read = parts_only slot (room_in slot room) pieces ps h.parts (omega (arith, sum, one, full, size, few)) in
    rw (read, values_only slot h.done h.part h.after e h.sound h.at_fault) refl

star_is : (text : List ℕ) → text ≡ codes "*" → is_star text ≡ true
star_is text same = rw same refl

pub component_fault_found : (slot : Slot) (before room : ℕ) (text : List ℕ) (e : SpecFault) → before + room ≡ 240 → component_of slot room text ≡ Err e → HasComponentFault slot before text e
unfolding component_of
component_fault_found slot before room text e sum at =
    elim (cases_Bool (is_star text)) [
      | inl star ↦ absurd (let no = rw star at at in cc)
      | inr none ↦
          elim (bind_err (parts_listed slot room text) (λ ps. Ok (Some ps)) e (rw none at at)) [
            | inl wrong ↦ (λ same. let star = star_is text same in cc, listed_found slot before room text e sum wrong)
            | inr f ↦ absurd (let no = f.next in cc)
          ]
    ]

pub component_fault_only : (slot : Slot) (before room : ℕ) (text : List ℕ) (e : SpecFault) → before + room ≡ 240 → HasComponentFault slot before text e → component_of slot room text ≡ Err e
unfolding component_of
component_fault_only slot before room text e sum h =
    let none = false_from_ne_true (is_star text) (λ star. h.0 ((bytes_eq-Decides text (codes "*")).0 star)) in
    rw (none, listed_only slot before room text e sum h.1) refl

-- ## Errors of three components, which are parsed from left to right

record ReadBefore (slot : Slot) (before room : ℕ) (text : List ℕ) (parts : Option (List Part)) : Type 0 where
  pub is : IsComponent slot text parts
  pub few : counted_to before slot parts ≤ max_counted_parts
  pub left : counted_to before slot parts + (room - counted slot parts) ≡ 240

read_before : (slot : Slot) (before room : ℕ) (text : List ℕ) (parts : Option (List Part)) → before + room ≡ 240 → component_of slot room text ≡ Ok parts → ReadBefore slot before room text parts
read_before slot before room text parts sum at =
    let size = counted_is slot parts in
    let read = (component_read slot room text parts at).few in
    record { is = component_found slot room text parts at; few = omega (arith, sum, size, read); left = omega (arith, sum, size, read) }

component_again : (slot : Slot) (before room : ℕ) (text : List ℕ) (parts : Option (List Part)) → before + room ≡ 240 → IsComponent slot text parts → counted_to before slot parts ≤ max_counted_parts → component_of slot room text ≡ Ok parts
component_again slot before room text parts sum is few =
    component_only slot room text parts is (let size = counted_is slot parts in omega (arith, sum, size, few))

module _ {D : Type 0} (a b c : Slot) (x y z : List ℕ) (make : Option (List Part) → Option (List Part) → Option (List Part) → D) (before room : ℕ) (e : SpecFault) (sum : before + room ≡ 240) where
  pub three_found : (component_of a room x >>= λ u. component_of b (room - counted a u) y >>= λ v. component_of c (room - counted a u - counted b v) z >>= λ w. Ok (make u v w)) ≡ Err e → HasFaultAmong before ((a, x) ∷ (b, y) ∷ (c, z) ∷ []) e
  three_found at =
      elim (bind_err (component_of a room x) (λ u. component_of b (room - counted a u) y >>= λ v. component_of c (room - counted a u - counted b v) z >>= λ w. Ok (make u v w)) e at) [
        | inl wrong ↦ inl (component_fault_found a before room x e sum wrong)
        | inr f ↦
            let u = f.value in
            let first = read_before a before room x u sum f.first in
            inr (
              u,
              first.is,
              first.few,
              elim (bind_err (component_of b (room - counted a u) y) (λ v. component_of c (room - counted a u - counted b v) z >>= λ w. Ok (make u v w)) e f.next) [
                | inl wrong ↦ inl (component_fault_found b (counted_to before a u) (room - counted a u) y e first.left wrong)
                | inr g ↦
                    let v = g.value in
                    let second = read_before b (counted_to before a u) (room - counted a u) y v first.left g.first in
                    inr (
                      v,
                      second.is,
                      second.few,
                      elim (bind_err (component_of c (room - counted a u - counted b v) z) (λ w. Ok (make u v w)) e g.next) [
                        | inl wrong ↦ inl (component_fault_found c (counted_to (counted_to before a u) b v) (room - counted a u - counted b v) z e second.left wrong)
                        | inr h ↦ absurd (let no = h.next in cc)
                      ],
                    )
              ],
            )
      ]

  pub three_only : HasFaultAmong before ((a, x) ∷ (b, y) ∷ (c, z) ∷ []) e → (component_of a room x >>= λ u. component_of b (room - counted a u) y >>= λ v. component_of c (room - counted a u - counted b v) z >>= λ w. Ok (make u v w)) ≡ Err e
  three_only (inl wrong) = rw (component_fault_only a before room x e sum wrong) refl
  three_only (inr (u, first, few, inl wrong)) =
      let one = component_again a before room x u sum first few in
      let left = (read_before a before room x u sum one).left in
      rw (one, component_fault_only b (counted_to before a u) (room - counted a u) y e left wrong) refl
  three_only (inr (u, first, few, inr (v, second, fewer, inl wrong))) =
      let one = component_again a before room x u sum first few in
      let left = (read_before a before room x u sum one).left in
      let two = component_again b (counted_to before a u) (room - counted a u) y v left second fewer in
      let last = (read_before b (counted_to before a u) (room - counted a u) y v left two).left in
      rw (one, two, component_fault_only c (counted_to (counted_to before a u) b v) (room - counted a u - counted b v) z e last wrong) refl
  three_only (inr (u, first, few, inr (v, second, fewer, inr (w, third, fewest, none)))) = absurd none
