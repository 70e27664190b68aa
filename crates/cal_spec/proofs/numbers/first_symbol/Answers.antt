use Rattle.std.proofs.Common.{◌<◌, ◌≤◌, rules, length, get_or}
use Rattle.cal_spec.proofs.SymbolLemmas.{digits_at_front}
use Rattle.cal_spec.proofs.numbers.first_symbol.Goals as goal

pub returns-in-48-to-57 : goal.returns-in-48-to-57
returns-in-48-to-57 c =
    let text = c.args.text.now in
    let first : (0 < length text) × (48 ≤ get_or text 0 0) × (get_or text 0 0 ≤ 57) = (search rules, search rules, search rules) in
    rw (c.split_at.ensures.front, c.split_at.ensures.back, c.digits_len.ensures.value) (digits_at_front text first.0 first.1 first.2)
