-- Lemmas on the errors that parsing the bytes of a file can return.
use Rattle.std.proofs.Common.{◌≡◌, ℕ, inl, inr, Bool, true, false, List, [], ◌∷◌, ◌++◌, length, refl, Option, Some, None, Result, Ok, Err}
use Rattle.std.proofs.lemmas.Bool.{cases_Bool, false_from_ne_true}
use Rattle.std.specs.Prelude.{nat_le}
use Rattle.std.specs.Option.{option_or}
use Rattle.std.specs.Str.{is_utf8, IsUtf8}
use Rattle.std.proofs.lemmas.Str.{IsUtf8-from_is_utf8}
use Rattle.cal_spec.specs.declared.spec_fault.SpecFault.{SpecFault}
use Rattle.cal_timer.specs.rules.Assignments.{Assignment, assignments_in}
use Rattle.cal_timer.specs.rules.Lines.{logical_lines}
use Rattle.cal_timer.specs.rules.TimerEntries.{TimerLine, bad_line, broken_line, fault_following, fault_joining, first_fault, lists_of, some_expressions, timer_in, timer_of, unless_fault}
use Rattle.cal_timer.specs.rules.TimerText.{excepted, is_exception, is_expression, listed, max_expressions, without_mark}
use Rattle.cal_timer.specs.declared.fault.TimerFault.{TimerFault}
use Rattle.cal_timer.specs.declared.fault.TimerFault.TheVariants.{BadLine, NotUtf8, ReadFailed, TooMany}

-- whether an error is one that an assignment can have: `BadLine` or `TooMany`
abbrev pub is_of_line : TimerFault → Bool
is_of_line (BadLine line fault) = true
is_of_line (TooMany line) = true
is_of_line fault = false

text_is_of_line : {E : Type 0} (number : ℕ) (r : Result E SpecFault) (fault : TimerFault) → bad_line number r ≡ Some fault → is_of_line fault ≡ true
text_is_of_line number (Ok expr) fault e = cc
text_is_of_line number (Err f) fault e = let same : BadLine number f ≡ fault = cc in rw (← same) refl

joining_is_of_line : {E : Type 0} (read : List ℕ → Result E SpecFault) (list : List Assignment) (a : Assignment) (fault : TimerFault) (many : Bool) → nat_le max_expressions (length list) ≡ many → fault_joining read list a ≡ Some fault → is_of_line fault ≡ true
unfolding fault_joining
joining_is_of_line read list a fault true e = rw e (λ h. let same : TooMany a.number ≡ fault = cc in rw (← same) refl)
joining_is_of_line read list a fault false e = rw e (text_is_of_line a.number (read a.value) fault)

one_is_of_line : {E : Type 0} (read : List ℕ → Result E SpecFault) (before : List Assignment) (a : Assignment) (fault : TimerFault) (expresses excepts : Bool) → is_expression a ≡ expresses → is_exception a ≡ excepts → fault_following read before a ≡ Some fault → is_of_line fault ≡ true
unfolding fault_following
one_is_of_line read before a fault true excepts e f = rw e (joining_is_of_line read (listed before) a fault (nat_le max_expressions (length (listed before))) refl)
one_is_of_line read before a fault false true e f = rw (e, f) (joining_is_of_line read (excepted before) a fault (nat_le max_expressions (length (excepted before))) refl)
one_is_of_line read before a fault false false e f = rw (e, f) (λ h. cc)

either_is_of_line : (o p : Option TimerFault) (fault : TimerFault) → (o ≡ Some fault → is_of_line fault ≡ true) → (p ≡ Some fault → is_of_line fault ≡ true) → option_or o p ≡ Some fault → is_of_line fault ≡ true
either_is_of_line None p fault first rest h = rest h
either_is_of_line (Some f) p fault first rest h = first h

pub first_is_of_line : {E : Type 0} (read : List ℕ → Result E SpecFault) (before after : List Assignment) (fault : TimerFault) → first_fault read before after ≡ Some fault → is_of_line fault ≡ true
unfolding first_fault
first_is_of_line read before [] fault h = cc
first_is_of_line read before (a ∷ after) fault h =
    either_is_of_line (fault_following read before a) (first_fault read (before ++ a ∷ []) after) fault (one_is_of_line read before a fault (is_expression a) (is_exception a) refl refl) (first_is_of_line read (before ++ a ∷ []) after fault) h

never_of_line : is_of_line ReadFailed ≡ true → ⊥
never_of_line h = cc

never_of_list : {E : Type 0} (o : Option TimerFault) (es xs : List (TimerLine E)) → (o ≡ Some ReadFailed → ⊥) → unless_fault o (some_expressions es xs) ≡ Err ReadFailed → ⊥
never_of_list None [] xs never h = cc
never_of_list None (e ∷ es) xs never h = cc
never_of_list (Some fault) es xs never h = never cc

-- parsing the bytes of a file never fails with `ReadFailed`
pub never_failed : {E : Type 0} (read : List ℕ → Result E SpecFault) (bytes : List ℕ) → timer_in read bytes ≡ Err ReadFailed → ⊥
unfolding timer_in timer_of lists_of
never_failed read bytes h =
    elim (cases_Bool (is_utf8 bytes)) [
      | inl text ↦ never_of_list _ _ _ (λ e. never_of_line (first_is_of_line read [] (assignments_in false (logical_lines 1 (without_mark bytes))) ReadFailed e)) (rw text at h)
      | inr broken ↦ (let none = rw broken at h in cc)
    ]

-- parsing bytes that aren't valid UTF-8 fails with `NotUtf8` and the number of the line that has the first invalid byte
pub broken_bytes : {E : Type 0} (read : List ℕ → Result E SpecFault) (bytes : List ℕ) (number : ℕ) → (IsUtf8 bytes → ⊥) → number ≡ broken_line bytes → timer_in read bytes ≡ Err (NotUtf8 number)
unfolding timer_in
broken_bytes read bytes number broken e = rw (false_from_ne_true (is_utf8 bytes) (λ h. broken (IsUtf8-from_is_utf8 bytes h)), e) refl
