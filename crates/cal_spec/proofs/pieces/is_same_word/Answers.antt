use Rattle.std.proofs.Common.{map}
use Rattle.std.specs.Char.{to_ascii_lowercase}
use Rattle.std.specs.Str.{str_eq_ignore_ascii_case}
use Rattle.std.proofs.lemmas.Bool.Decides.{same_from_decides}
use Rattle.std.proofs.lemmas.Slice.Eq.{bytes_eq-Decides}
use Rattle.cal_spec.proofs.pieces.is_same_word.Goals as goal

pub returns : goal.returns
returns c =
    let word = c.args.word.now in
    let other = c.args.other.now in
    same_from_decides _ (str_eq_ignore_ascii_case word other) c.eq_ignore_ascii_case.ensures.test (bytes_eq-Decides (map to_ascii_lowercase word) (map to_ascii_lowercase other))
