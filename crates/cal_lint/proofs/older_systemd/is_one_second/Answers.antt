use Rattle.std.specs.Char.{is_ascii_digit}
use Rattle.cal_lint.proofs.DigitLemmas.{front_passes}
use Rattle.cal_lint.proofs.older_systemd.is_one_second.Goals as goal

pub are_equal-requires-clause-first : goal.are_equal-requires-clause-first
are_equal-requires-clause-first c =
    rw (c.split_at.ensures.front, c.digits_len.ensures.value) (front_passes is_ascii_digit c.args.part.now)
