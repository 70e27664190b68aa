use Rattle.std.proofs.Common.{◌≡◌, ℕ, List, [], ◌∷◌, ◌++◌, arith, refl, sym}
use Rattle.std.proofs.lemmas.List.Concat.{flat_map-append}
use Rattle.cal_bytes.proofs.PutLemmas.{first_fails, last_ends, second_ends, text_respelled}
use Rattle.cal_bytes.specs.rules.Bytes.{joined}
use Rattle.cal_spec.specs.rules.WeekdayRuns.{day_name, run_text, text_after_first}
use Rattle.cal_spec.proofs.WeekdayLemmas.{text_after_first-second, text_after_first-more}
use Rattle.cal_spec.proofs.weekday_runs.put_run.Goals as goal

-- the text of a run is `lead`, the name of its first day, and then `text_after_first`
after_day : (lead : List ℕ) (first last : ℕ) → joined (lead ∷ day_name first ∷ []) ++ (text_after_first first last ++ []) ≡ run_text lead (record { first = first; last = last })
unfolding run_text
after_day lead first last = sym (flat_map-append (λ piece. piece) (lead ∷ day_name first ∷ []) (text_after_first first last ∷ []))

pub returns-in_err-put_day : goal.returns-in_err-put_day
returns-in_err-put_day g c =
    text_respelled (first_fails _ _ _ _ _ _ c.in_err-put_day.ensures refl c.from_residual.ensures.0) (after_day _ _ _)

pub returns-in-1 : goal.returns-in-1
returns-in-1 g c =
    let second = text_after_first-second c.args.first c.args.last (omega arith) in
    text_respelled (second_ends _ _ _ _ _ _ _ c.in_ok-put_day.ensures refl (last_ends _ _ _ (text_after_first c.args.first c.args.last) (rw second c.put_day-in-1.ensures))) (after_day _ _ _)

pub returns-in_default : goal.returns-in_default
returns-in_default g c =
    let more = text_after_first-more c.args.first c.args.last (omega arith) in
    text_respelled (second_ends _ _ _ _ _ _ _ c.in_ok-put_day.ensures refl (last_ends _ _ _ (text_after_first c.args.first c.args.last) (rw more c.put_day-in_default.ensures))) (after_day _ _ _)
