-- `expr_in` returns fields if and only if a text spells these fields by the rule (`Spells`), and it fails with an error
-- if and only if the text has this error (`HasFault`).
use Rattle.std.proofs.Common.{ℕ, ◌≡◌, inl, inr, List, Result, Ok, Err, refl, sym, ap, subst}
use Rattle.cal_bytes.specs.rules.AndThen.{◌>>=◌}
use Rattle.cal_spec.specs.rules.Fields.{Fields}
use Rattle.cal_spec.specs.rules.NormalForm.{IsNormalFieldsOf, Spells}
use Rattle.cal_spec.specs.computed.Expr.{expr_in}
use Rattle.cal_spec.specs.computed.Grammar.{fields_in}
use Rattle.cal_spec.specs.computed.NormalParts.{normal_fields}
use Rattle.cal_spec.specs.declared.spec_fault.SpecFault.{SpecFault}
use Rattle.cal_spec.specs.rules.GrammarFaultRule.{HasFault}
use Rattle.cal_spec.proofs.FieldLemmas.{valid_fields}
use Rattle.cal_spec.proofs.GrammarFaults.{fault_found, fault_only}
use Rattle.cal_spec.proofs.ReadLemmas.{bind_err}
use Rattle.cal_spec.proofs.NormalFieldsLemmas.{fields_are, fields_only}
use Rattle.cal_spec.proofs.WholeRule.{valid_found, valid_only}

spelled_by : (text : List ℕ) (fields : Fields) (r : Result Fields SpecFault) → fields_in text ≡ r
    → ◌≡◌ {A = Result Fields SpecFault} (r >>= (λ f. Ok (normal_fields f))) (Ok fields) → Spells text fields
spelled_by text fields (Ok raw) found h =
    let same : normal_fields raw ≡ fields = cc in
    record { raw = raw; valid = valid_found text raw found; normal = subst (IsNormalFieldsOf raw) same (fields_are raw (valid_fields text raw found)) }
spelled_by text fields (Err fault) found h = cc

pub read_is_spelled : (text : List ℕ) (fields : Fields) → expr_in text ≡ Ok fields → Spells text fields
unfolding expr_in
read_is_spelled text fields h = spelled_by text fields (fields_in text) refl h

pub spelled_is_read : (text : List ℕ) (fields : Fields) → Spells text fields → expr_in text ≡ Ok fields
unfolding expr_in
spelled_is_read text fields h =
    let found = valid_only text h.raw h.valid in
    rw found (ap Ok (sym (fields_only h.raw fields (valid_fields text h.raw found) h.normal)))

pub rejected_found : (text : List ℕ) (e : SpecFault) → expr_in text ≡ Err e → HasFault text e
unfolding expr_in
rejected_found text e at =
    elim (bind_err (fields_in text) (λ f. Ok (normal_fields f)) e at) [ inl wrong ↦ fault_found text e wrong | inr f ↦ absurd (let no = f.next in cc) ]

pub rejected_only : (text : List ℕ) (e : SpecFault) → HasFault text e → expr_in text ≡ Err e
unfolding expr_in
rejected_only text e h = rw (fault_only text e h) refl
