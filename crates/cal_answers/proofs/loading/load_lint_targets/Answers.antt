use Rattle.std.proofs.Common.{ap, map, subst, sym, ◌∙◌}
use Rattle.cal_cron.specs.computed.Translation.{exprs_in}
use Rattle.cal_crontabs.specs.rules.CrontabFiles.{AreCrontabsAt}
use Rattle.cal_unit_index.specs.rules.Index.{IsIndexOf}
use Rattle.cal_answers.specs.rules.Found.{AreFilesOn, AreLintedOn, HasAllLinted}
use Rattle.cal_answers.specs.rules.LintTargets.{AreFilesOf}
use Rattle.cal_answers.proofs.FoundLemmas.{all_linted, files_on, no_targets, none_seen, some_targets}
use Rattle.cal_answers.proofs.loading.load_lint_targets.Goals as goal

pub returns-then-is_empty-clause-known : goal.returns-then-is_empty-clause-known
returns-then-is_empty-clause-known g c machine search_path shows is =
    let all = c.in_ok-linted.linted in
    let none = no_targets c.args.targets.now (sym c.is_empty.ensures ∙ c.if-is_empty.true) in
    subst (λ targets. AreLintedOn machine search_path (map (λ text. text.now) targets) all.0 all.1 all.2) (sym none)
    (c.in_ok-linted.ensures.known machine search_path shows is)

pub returns-then-is_empty-clause-whole : goal.returns-then-is_empty-clause-whole
returns-then-is_empty-clause-whole g c =
    let none = no_targets c.args.targets.now (sym c.is_empty.ensures ∙ c.if-is_empty.true) in
    subst (λ targets. HasAllLinted (λ machine search_path. g.T.Tree.shows c.load_lint_units.new.tree machine × IsIndexOf machine search_path c.args.index.now) c.args.is_all
    (map (λ text. text.now) targets) c.in_ok-linted.linted.1) (sym none) c.in_ok-linted.ensures.whole

pub returns-then-is_empty-clause-files : goal.returns-then-is_empty-clause-files
returns-then-is_empty-clause-files g c machine search_path shows is =
    let none = no_targets c.args.targets.now (sym c.is_empty.ensures ∙ c.if-is_empty.true) in
    subst (λ targets. AreFilesOn machine search_path c.args.is_all (map (λ text. text.now) targets) c.in_ok-linted.linted.0) (sym none)
    (c.in_ok-linted.ensures.files machine search_path shows is)

pub returns-clause-known : goal.returns-clause-known
returns-clause-known g c machine search_path shows is =
    let after_files = c.in_ok-timers.ensures.grows machine shows in
    let after_crontabs = c.in_ok-files.ensures.grows machine after_files in
    let split = c.in_ok-split.ensures.known machine (c.in_ok-crontabs.ensures.grows machine after_crontabs) in (
      c.in_ok-files.ensures.known machine after_files,
      c.in_ok-timers.ensures.known machine search_path shows is,
      (
        exprs_in,
        c.times_are_read.ensures,
        subst (λ texts. AreCrontabsAt machine texts c.in_ok-crontabs.crontabs) (ap (map (λ text. text.now)) c.as_slice.ensures.value ∙ split.0)
            (c.in_ok-crontabs.ensures.known machine after_crontabs),
      ),
    )

pub returns-clause-whole : goal.returns-clause-whole
returns-clause-whole g c =
    all_linted _ c.args.is_all c.args.targets.now _ (some_targets c.args.targets.now (sym c.is_empty.ensures ∙ c.if-is_empty.false)) (
      exprs_in,
      c.times_are_read.ensures,
      λ machine search_path knows none.
          let after_files = c.in_ok-timers.ensures.grows machine knows.0 in
          let after_crontabs = c.in_ok-files.ensures.grows machine after_files in
          let split = c.in_ok-split.ensures.known machine (c.in_ok-crontabs.ensures.grows machine after_crontabs) in
          c.in_ok-timers.ensures.none (c.as_slice-3.ensures.value ∙ none_seen c.in_ok-split.split.others.items (split.1 ∙ none)),
    )

pub returns-clause-files : goal.returns-clause-files
returns-clause-files g c machine search_path shows is =
    let after_files = c.in_ok-timers.ensures.grows machine shows in
    let after_crontabs = c.in_ok-files.ensures.grows machine after_files in
    let split = c.in_ok-split.ensures.known machine (c.in_ok-crontabs.ensures.grows machine after_crontabs) in
    files_on machine search_path c.args.is_all c.args.targets.now c.in_ok-files.files
    (some_targets c.args.targets.now (sym c.is_empty.ensures ∙ c.if-is_empty.false)) (
      exprs_in,
      c.times_are_read.ensures,
      subst (λ texts. AreFilesOf machine search_path texts c.in_ok-files.files) (ap (map (λ text. text.now)) c.as_slice-2.ensures.value ∙ split.1)
          (c.in_ok-files.ensures.files machine search_path after_files is),
    )
