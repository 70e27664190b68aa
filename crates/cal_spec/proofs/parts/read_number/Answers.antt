use Rattle.cal_spec.proofs.SymbolLemmas.{first_has_digits}
use Rattle.cal_spec.proofs.parts.read_number.Goals as goal

pub value_of-number-requires : goal.value_of-number-requires
value_of-number-requires c =
    let arm = c.in-Some-Digits-default in
    first_has_digits c.args.text.now arm.digits.now _ (rw arm.field-0-0-is at arm.ensures)
