use Rattle.std.proofs.Common.{◌∙◌, ap}
use Rattle.std.specs.Option.{option_copied}
use Rattle.cal_bytes.specs.computed.SplitPieces.{pieces_after}
use Rattle.cal_load.specs.rules.Specifiers.{after_backslash, is_backslash}
use Rattle.cal_load.proofs.SpecifierLemmas.{joined_more}
use Rattle.cal_load.proofs.specifiers.Draft.push_unescaped.Goals as goal

pub loop-rest-preserved : goal.loop-rest-preserved
loop-rest-preserved c =
    joined_more after_backslash _ _ _ _ _ _ (ap (λ rest. pieces_after is_backslash (option_copied rest)) c.in-Some.is ∙ c.first_piece-in-Some.ensures.pieces) c.in_ok-push_escape.ensures c.loop-rest.invariant
