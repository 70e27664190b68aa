use Rattle.std.proofs.Common.{◌≡◌, ◌<◌, ◌∙◌, ap, sym, arith, length, Ok, Err}
use Rattle.cal_spec.specs.computed.Expr.{expr_in}
use Rattle.cal_timer.specs.computed.ResumedLists.{resumed}
use Rattle.cal_timer.proofs.ListedLemmas.{first_from_entries, first_from_fault, lists_from_entries, lists_from_fault}
use Rattle.cal_read.proofs.TimerTextsLemmas.{resumed_all, resumed_more, resumed_stops}
use Rattle.cal_read.proofs.texts.read_texts.Goals as goal

pub loop-index-init : goal.loop-index-init
unfolding resumed
loop-index-init c = ap Ok (sym c.new-lists.ensures)

pub loop-index-preserved : goal.loop-index-preserved
loop-index-preserved c =
    let here : c.loop-index.index < length c.args.files.now = omega arith in
    resumed_more expr_in c.args.files.now c.loop-index.index _ c.without_mark.result.now c.loop-index.lists _ here c.without_mark.ensures.mark c.loop-index.invariant c.in_default.ensures

pub returns-in-Err-clause-lists : goal.returns-in-Err-clause-lists
returns-in-Err-clause-lists c = λ other.
    let here : c.loop-index.index < length c.args.files.now = omega arith in
    let stopped = resumed_more expr_in c.args.files.now c.loop-index.index _ c.without_mark.result.now c.loop-index.lists (Err c.in-Err.fault) here c.without_mark.ensures.mark c.loop-index.invariant (c.in-Err.ensures other) in
    lists_from_fault expr_in _ c.in-Err.fault (resumed_stops expr_in c.args.files.now _ c.in-Err.fault stopped)

pub returns-in-Err-clause-file : goal.returns-in-Err-clause-file
returns-in-Err-clause-file c = λ other.
    let here : c.loop-index.index < length c.args.files.now = omega arith in
    let stopped = resumed_more expr_in c.args.files.now c.loop-index.index _ c.without_mark.result.now c.loop-index.lists (Err c.in-Err.fault) here c.without_mark.ensures.mark c.loop-index.invariant (c.in-Err.ensures other) in
    (here, first_from_entries expr_in _ c.loop-index.lists c.loop-index.invariant, first_from_fault expr_in _ c.in-Err.fault stopped)

pub returns-in-Ok-clause-lists : goal.returns-in-Ok-clause-lists
returns-in-Ok-clause-lists c =
    let all : c.loop-index.index ≡ length c.args.files.now = omega arith in
    lists_from_entries expr_in _ c.loop-index.lists (resumed_all expr_in c.args.files.now c.loop-index.index c.loop-index.lists all c.loop-index.invariant)
    ∙ c.in-Ok.ensures.lists

pub returns-in-Err-into_timer-clause-lists : goal.returns-in-Err-into_timer-clause-lists
returns-in-Err-into_timer-clause-lists c = λ other.
    let all : c.loop-index.index ≡ length c.args.files.now = omega arith in
    lists_from_entries expr_in _ c.loop-index.lists (resumed_all expr_in c.args.files.now c.loop-index.index c.loop-index.lists all c.loop-index.invariant)
    ∙ c.in-Err-into_timer.ensures.lists

pub returns-in-Err-into_timer-clause-file : goal.returns-in-Err-into_timer-clause-file
returns-in-Err-into_timer-clause-file c = λ other.
    let all : c.loop-index.index ≡ length c.args.files.now = omega arith in
    (first_from_entries expr_in _ c.loop-index.lists (resumed_all expr_in c.args.files.now c.loop-index.index c.loop-index.lists all c.loop-index.invariant), c.in-Err-into_timer.ensures.nothing)
