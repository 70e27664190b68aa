use Rattle.cal_bytes.specs.rules.Separators.{is_blank}
use Rattle.cal_bytes.proofs.WordLemmas.{blank_ascii}
use Rattle.cal_bytes.proofs.words.trim_blanks_start.Goals as goal
use Rattle.cal_bytes.proofs.General.{front_boundary}

pub range_from-requires : goal.range_from-requires
range_from-requires c =
    let at = front_boundary is_blank c.args.text.now blank_ascii c.utf8.text in rw (c.blanks_in_front.ensures.value, c.as_bytes.ensures.value) (λ some. at)
