use Rattle.std.proofs.Common.{◌≡◌, ◌∙◌, [], ◌∷◌, Err, ap, map, rules, string_bytes}
use Rattle.cal_answers.proofs.LocalClockLemmas.{has_single, named_zone, unusable_name}
use Rattle.cal_answers.proofs.local_clock.named.Goals as goal

pub returns-clause-zone : goal.returns-clause-zone
returns-clause-zone g c =
    λ machine shows.
    let name = string_bytes c.args.name in
    let single : map string_bytes c.as_slice.result.now ≡ name ∷ [] =
    ap (map string_bytes) c.as_slice.ensures.value ∙ c.in_ok-names.ensures ∙ ap (λ name. name ∷ []) c.as_str.ensures.value in
    named_zone machine c.in_ok-table.table name
    (has_single c.in_ok-table.table name c.as_slice.result.now single (c.in_ok-table.ensures.names name))
    (c.in_ok-table.ensures.zones machine shows)

pub returns-in_err-table-clause-fault : goal.returns-in_err-table-clause-fault
returns-in_err-table-clause-fault g c =
    let name = string_bytes c.args.name in
    let single : map string_bytes c.as_slice.result.now ≡ name ∷ [] =
    ap (map string_bytes) c.as_slice.ensures.value ∙ c.in_ok-names.ensures ∙ ap (λ name. name ∷ []) c.as_str.ensures.value in
    let same : c.from_residual-in_err-table.result ≡ Err c.in_err-table.field-0.0 = search rules in
    rw same (λ other machine shows.
    unusable_name machine name c.as_slice.result.now c.in_err-table.field-0.0 single other (c.in_err-table.ensures.fault machine shows))
