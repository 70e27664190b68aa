use Rattle.std.proofs.Common.{ℕ, Bool, ◌∙◌, sym, ap, ◌+◌, ◌∷◌, ◌==◌, take}
use Rattle.std.specs.List.{slice_split}
use Rattle.std.proofs.lemmas.List.{take_rest}
use Rattle.cal_spec.proofs.pieces.first_piece.Goals as goal
use Rattle.cal_bytes.proofs.General.{split_none, split_some}

pub returns-in-Some-clause-pieces : goal.returns-in-Some-clause-pieces
returns-in-Some-clause-pieces c =
    let p : ℕ → Bool = λ byte. byte == c.args.separator in
    let text = c.args.text.now in
    let n = c.in-Some.index in
    split_some p text n (sym c.index_of.ensures ∙ c.in-Some.is) ∙ ap (λ rest. take n text ∷ slice_split p rest) (sym (take_rest text (n + 1)))

pub returns-in-None-clause-pieces : goal.returns-in-None-clause-pieces
returns-in-None-clause-pieces c = split_none (λ byte. byte == c.args.separator) c.args.text.now (sym c.index_of.ensures ∙ c.in-None.is)
