use Rattle.std.proofs.Common.{◌≡◌, ◌∙◌, rules, sym}
use Rattle.std.proofs.lemmas.Slice.Eq.{bytes_eq-Decides}
use Rattle.cal_load.proofs.FileFaultLemmas.{same_path}
use Rattle.cal_load.proofs.fault.is_same.Goals as goal

pub returns-then-eq : goal.returns-then-eq
returns-then-eq c e lost is =
    let because : c.in-Path-Path.reason ≡ c.in-Path-Path.why = search rules in
    same_path c.args.known.now c.args.fault.now c.in-Path-Path.place c.in-Path-Path.path c.in-Path-Path.reason c.in-Path-Path.why lost
    c.in-Path-Path.is-0 c.in-Path-Path.is-1
    (sym c.as_str.ensures.value ∙ (bytes_eq-Decides c.as_str.result.now c.as_str-in-Path-Path.result.now).0 (sym c.eq.ensures ∙ c.if-eq.true) ∙ c.as_str-in-Path-Path.ensures.value)
    because is
