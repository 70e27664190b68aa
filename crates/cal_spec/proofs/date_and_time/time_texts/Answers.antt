use Rattle.std.proofs.Common.{ℕ, ◌≡◌, List, ◌∷◌, None, refl}
use Rattle.std.specs.List.{slice_split}
use Rattle.cal_spec.specs.computed.DateAndTime.{time_texts}
use Rattle.cal_bytes.proofs.General.{some_piece}
use Rattle.cal_bytes.specs.rules.Separators.{is_colon}
use Rattle.cal_spec.proofs.date_and_time.time_texts.Goals as goal

-- a text with three colons or more is not a time
no_time : (word hour minute second b1 b2 b3 : List ℕ) → slice_split is_colon word ≡ hour ∷ slice_split is_colon b1 → slice_split is_colon b1 ≡ minute ∷ slice_split is_colon b2 → slice_split is_colon b2 ≡ second ∷ slice_split is_colon b3 → None ≡ time_texts word
unfolding time_texts
no_time word hour minute second b1 b2 b3 first next last =
    let more = some_piece is_colon b3 in rw (first, next, last, more.2) refl

pub returns-in-Some-after : goal.returns-in-Some-after
returns-in-Some-after c =
    no_time c.args.word.now _ _ _ c.in_ok-after.field-0.now c.in-Some.after.now c.in-Some-after.field-0.now (rw c.in_ok-after.was at c.first_piece.ensures.pieces) (rw c.in-Some.is at c.first_piece-2.ensures.pieces) (rw c.in-Some-after.is at c.first_piece-3.ensures.pieces)
