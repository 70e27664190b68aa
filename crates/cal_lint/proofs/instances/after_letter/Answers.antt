use Rattle.std.proofs.Common.{None, lit<}
use Rattle.std.proofs.lemmas.Str.Pattern.{strip_prefix_char}
use Rattle.cal_lint.proofs.InstanceLemmas.{after_letter-second}
use Rattle.cal_lint.proofs.instances.after_letter.Goals as goal

pub returns-in-None : goal.returns-in-None
returns-in-None c =
    let first = strip_prefix_char 105 c.args.text.now None c.in-None.ensures.cases (lit< tt) in
    after_letter-second c.args.text.now c.strip_prefix-in-None.result first
    (strip_prefix_char 73 c.args.text.now c.strip_prefix-in-None.result c.strip_prefix-in-None.ensures.cases (lit< tt))
