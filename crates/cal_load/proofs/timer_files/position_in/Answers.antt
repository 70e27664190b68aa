use Rattle.std.proofs.Common.{◌≡◌, ◌∙◌, ◌+◌, None, ap, get_or, rules, sym}
use Rattle.cal_load.proofs.PositionLemmas.{last_unique}
use Rattle.cal_load.proofs.timer_files.position_in.Goals as goal

pub returns : goal.returns
returns c = record {
  index = c.in_ok-index.index;
  file = c.in_ok-file.file.now;
  is_at = c.in_ok-file.ensures;
  has_path = c.as_str.ensures.value;
  is_last = c.in_ok-index.ensures;
  counted = c.in_ok-line.ensures;
}

pub returns-in_err-line : goal.returns-in_err-line
returns-in_err-line c =
    let same : c.from_residual-in_err-line.result ≡ None = search rules in
    rw same (λ path line h.
    let index : h.index ≡ c.in_ok-index.index = last_unique c.args.first_lines.now c.args.number h.index c.in_ok-index.index h.is_last c.in_ok-index.ensures in
    c.in_err-line.ensures c.in_ok-index.ensures.1 line (ap (λ i. get_or c.args.first_lines.now i 0 + line) (sym index) ∙ h.counted))
