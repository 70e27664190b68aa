-- `base_in` returns the base time of a request (`IsBase`).
use Rattle.std.proofs.Common.{ℕ, ◌≡◌, refl, sym, ap, ◌∙◌, arith, subst, ℤ, pos, negsuc, List, Option, None, Some, Result, Ok, Err}
use Rattle.std.specs.Prelude.{IfErr}
use Rattle.jiff.proofs.SpanFacts.{signed_arith}
use Rattle.cal_zone.specs.rules.Instant.{IsMoment}
use Rattle.cal_stamp.specs.declared.fault.StampFault.{StampFault}
use Rattle.cal_stamp.proofs.StampMomentRuleLemmas.{resolves}
use Rattle.cal_request.specs.rules.Request.{Request}
use Rattle.cal_report.specs.rules.BaseTime.{IsBase, IsBaseFrom, IsSecondOf}
use Rattle.cal_report.specs.rules.Context.{setting_of}
use Rattle.cal_report.specs.rules.RunReport.{base_from, base_in, second_or_fault}
use Rattle.cal_report.specs.rules.TextReport.TimestampReport.{second_at, stamp_in}

second_of : (moment : ℤ) → IsMoment moment → IsSecondOf moment (second_at moment)
second_of (pos n) h = record { begun = omega (arith, signed_arith); lasts = omega (arith, signed_arith) }
second_of (negsuc n) h = absurd (omega (arith, signed_arith, h.0))

only_second : (moment second : ℤ) → IsMoment moment → IsSecondOf moment second → second_at moment ≡ second
only_second (pos n) second h is = let begun = is.begun in let lasts = is.lasts in omega (arith, signed_arith)
only_second (negsuc n) second h is = absurd (omega (arith, signed_arith, h.0))

base_by : (asked : Request) (text : List ℕ) (base : ℤ) (result : Result ℤ StampFault) → stamp_in asked text ≡ result → second_or_fault result ≡ Ok base → IsBaseFrom asked (Some text) base
unfolding stamp_in
base_by asked text base (Ok moment) read e =
    let resolved = (resolves asked.now (setting_of asked) text moment).0 read in
    let same : second_at moment ≡ base = cc in
    (moment, resolved, subst (IsSecondOf moment) same (second_of moment resolved.in_range))
base_by asked text base (Err fault) read e = cc

base_of : (asked : Request) (text : List ℕ) (base : ℤ) → IsBaseFrom asked (Some text) base → base_from asked (Some text) ≡ Ok base
unfolding stamp_in
base_of asked text base h =
    let read = (resolves asked.now (setting_of asked) text h.0).1 h.1 in
    ap second_or_fault read ∙ ap Ok (only_second h.0 base h.1.in_range h.2)

found_from : (asked : Request) (text : Option (List ℕ)) (base : ℤ) → base_from asked text ≡ Ok base → IsBaseFrom asked text base
found_from asked None base e = cc
found_from asked (Some text) base e = base_by asked text base _ refl e

is_from : (asked : Request) (text : Option (List ℕ)) (base : ℤ) → IsBaseFrom asked text base → base_from asked text ≡ Ok base
is_from asked None base h = ap Ok (sym h)
is_from asked (Some text) base h = base_of asked text base h

-- if `base_in` returns a base time, then it is the base time of the request, as `IsBase` says
pub base_found : (asked : Request) (base : ℤ) → base_in asked ≡ Ok base → IsBase asked base
unfolding base_in
base_found asked base e = found_from asked asked.base base e

-- if the request has a base time, as `IsBase` says, then `base_in` returns it
pub base_is : (asked : Request) (base : ℤ) → IsBase asked base → base_in asked ≡ Ok base
unfolding base_in
base_is asked base h = is_from asked asked.base base h

no_base_by : (asked : Request) (P : Type 0) (based : Result ℤ StampFault) → base_in asked ≡ based → IfErr based (λ fault. P) → ((base : ℤ) → IsBase asked base → ⊥) → P
no_base_by asked P (Ok base) is if_refused none = absurd (none base (base_found asked base is))
no_base_by asked P (Err fault) is if_refused none = if_refused

-- if the request has no base time, then whatever holds if `base_in` returns an error is true
pub no_base : (asked : Request) (P : Type 0) → IfErr (base_in asked) (λ fault. P) → ((base : ℤ) → IsBase asked base → ⊥) → P
no_base asked P = no_base_by asked P (base_in asked) refl
