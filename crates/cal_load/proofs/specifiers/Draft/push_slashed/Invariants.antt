use Rattle.std.proofs.Common.{◌≡◌, drop}
use Rattle.cal_load.specs.rules.Specifiers.{joined, shown_draft, slashed}
use Rattle.cal_load.specs.rules.Specifiers.Filling.{Text}
use Rattle.cal_load.proofs.specifiers.Draft.push_slashed.Given as goal

-- what the bytes so far and the remaining bytes stand for, joined, is what all bytes stand for
abbrev pub invariant-loop-byte : goal.invariant-loop-byte
invariant-loop-byte l =
    joined (shown_draft l.self) (Text (slashed (drop l.byte-index l.text))) ≡ joined (shown_draft l.fn.self) (Text (slashed l.text))
