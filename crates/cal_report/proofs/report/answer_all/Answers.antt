use Rattle.std.proofs.Common.{sym, ◌∙◌, ap, arith, List, [], length, ℕ, ◌++◌, ◌<◌, ◌∷◌, ◌≡◌, get_or, map, take, ◌+◌}
use Rattle.std.specs.String.{string_bytes}
use Rattle.cal_bytes.proofs.Pieces.{start, done, respell}
use Rattle.cal_report.proofs.AnswerLemmas.{answered_before, err_more, err_none, goes_on-more, goes_on-none, out_more, out_none, reports_left, reports_left-all, reports_left-none, refusals-none, status_left, status_left-all, status_left-none, out_next, out_stops, err_next, err_stops, status_next}
use Rattle.cal_report.specs.rules.Answer.{error_lines}
use Rattle.cal_report.proofs.report.answer_all.Goals as goal
use Rattle.std.proofs.lemmas.Result.{err_from_is_err_and}
use Rattle.cal_bytes.proofs.General.{items_end, items_next}
use Rattle.std.proofs.lemmas.List.{map-append, take_more}

-- if `y` is the item at index `i` mapped by `f`, then the first `i + 1` mapped items are the first `i` mapped items
-- followed by `y`
items_taken : {A B : Type 0} (f : A → B) (xs : List A) (i : ℕ) (x : A) (y : B) → i < length xs → x ≡ get_or xs i x → y ≡ f x
    → map f (take (i + 1) xs) ≡ map f (take i xs) ++ y ∷ []
items_taken f xs i x y h is e =
    rw (take_more xs i x h) (map-append f (take i xs) (get_or xs i x ∷ []) ∙ ap (λ y. map f (take i xs) ++ f y ∷ []) (sym is) ∙ ap (λ t. map f (take i xs) ++ t ∷ []) (sym e))

pub loop-text-init : goal.loop-text-init
loop-text-init g c =
    record {
      out_works = c.requires.out;
      err_works = c.requires.err;
      out = respell _ _ _ _ _ (start _ _) (reports_left-all _ _);
      err = start _ _;
      status = status_left-all _ _;
      goes_on = goes_on-none _;
      out_done = out_none _ _;
      err_done = err_none _ _;
    }

pub loop-text-preserved : goal.loop-text-preserved
loop-text-preserved g c =
    let done = items_taken string_bytes c.args.texts.now c.loop-text.text-index c.text-item.result c.as_str.result.now (omega arith) c.text-item.is c.as_str.ensures.value in
    let next = items_next string_bytes c.args.texts.now c.loop-text.text-index c.text-item.result c.as_str.result.now (omega arith) c.text-item.is c.as_str.ensures.value in
    record {
      out_works = c.in_ok-answered.ensures.out_failed;
      err_works = c.in_ok-answered.ensures.err_failed;
      out = out_next _ _ _ _ _ _ _ _ _ _ _ next c.in_ok-answered.ensures.status c.is_fine-follows_report.ensures c.loop-text.invariant.out c.in_ok-answered.ensures.out;
      err = err_next _ _ _ _ _ _ _ _ next c.loop-text.invariant.err c.in_ok-answered.ensures.err;
      status = rw c.and-status.ensures (status_next _ _ _ _ _ _ _ next c.in_ok-answered.ensures.status c.loop-text.invariant.status);
      goes_on = goes_on-more _ _ _ _ _ _ _ done c.in_ok-answered.ensures.status c.is_fine-follows_report.ensures c.loop-text.invariant.goes_on;
      out_done = out_more _ _ _ _ _ _ _ _ done c.loop-text.invariant.goes_on c.loop-text.invariant.out_done c.in_ok-answered.ensures.out;
      err_done = err_more _ _ _ _ _ _ _ done c.loop-text.invariant.err_done c.in_ok-answered.ensures.err;
    }

pub returns-in_err-answered-clause-out : goal.returns-in_err-answered-clause-out
returns-in_err-answered-clause-out g c =
    let next = items_next string_bytes c.args.texts.now c.loop-text.text-index c.text-item.result c.as_str.result.now (omega arith) c.text-item.is c.as_str.ensures.value in
    let fault = err_from_is_err_and c.from_residual.result c.from_residual.ensures.1 in
    rw fault.1 (out_stops _ _ _ _ _ _ _ _ _ next c.loop-text.invariant.out c.in_err-answered.ensures.out)

pub returns-in_err-answered-clause-err : goal.returns-in_err-answered-clause-err
returns-in_err-answered-clause-err g c =
    let next = items_next string_bytes c.args.texts.now c.loop-text.text-index c.text-item.result c.as_str.result.now (omega arith) c.text-item.is c.as_str.ensures.value in
    let fault = err_from_is_err_and c.from_residual.result c.from_residual.ensures.1 in
    rw fault.1 (err_stops _ _ _ _ _ _ _ _ next c.loop-text.invariant.err c.in_err-answered.ensures.err)

pub returns-in_err-answered-clause-cut : goal.returns-in_err-answered-clause-cut
returns-in_err-answered-clause-cut g c = λ refused.
    let fault = err_from_is_err_and c.from_residual.result c.from_residual.ensures.1 in
    let same = c.in_err-answered.ensures.unwritten (rw (fault.1, fault.2) at refused) in
    answered_before string_bytes c.args.texts.now c.loop-text.text-index _ _ _ _ _ _ _ (omega arith)
    c.loop-text.invariant.out_done c.loop-text.invariant.err_done same.0 same.1

pub returns-clause-status : goal.returns-clause-status
returns-clause-status g c =
    let end = items_end string_bytes c.args.texts.now c.loop-text.text-index (omega arith) in
    sym (status_left-none _ _) ∙ ap (status_left _ _) (sym end) ∙ c.loop-text.invariant.status

pub returns-clause-out : goal.returns-clause-out
returns-clause-out g c =
    let end = items_end string_bytes c.args.texts.now c.loop-text.text-index (omega arith) in
    done _ _ _ (respell _ _ _ _ _ c.loop-text.invariant.out (ap (reports_left _ _) end ∙ reports_left-none _ _))

pub returns-clause-err : goal.returns-clause-err
returns-clause-err g c =
    let end = items_end string_bytes c.args.texts.now c.loop-text.text-index (omega arith) in
    done _ _ _ (respell _ _ _ _ _ c.loop-text.invariant.err (ap (error_lines _) end ∙ refusals-none _))
