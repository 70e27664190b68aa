use Rattle.std.proofs.Common.{◌∙◌, Some, codes, sym}
use Rattle.clap.specs.Words.{found_of, rows_of, subcommand_rows_of}
use Rattle.clap.proofs.WalkLemmas.{raw_values-rows}
use Rattle.cal_options.proofs.CommandLemmas.{map-first, pair_none, pair_some}
use Rattle.cal_command.specs.rules.Ask.{texts_of}
use Rattle.cal_command.proofs.CommandLineLemmas.{no_verb, texts_counted, texts_found, textless, unnamed}
use Rattle.cal_command.proofs.verb_matches.VerbMatches.of.Goals as goal

pub unreachable-requires : goal.unreachable-requires
unreachable-requires c =
    no_verb (subcommand_rows_of c.args.matches.now) (pair_none (subcommand_rows_of c.args.matches.now) (c.in_default.ensures.name ∙ map-first _ _ _)) c.requires

pub unreachable-requires-in_default-named : goal.unreachable-requires-in_default-named
unreachable-requires-in_default-named c =
    unnamed (subcommand_rows_of c.args.matches.now) c.in-Some.name.now (rows_of (found_of c.in-Some.values.now))
    (pair_some (subcommand_rows_of c.args.matches.now) _ _ (c.in-Some.ensures.name ∙ map-first _ _ _) c.in-Some.ensures.rows) c.in_default-named.ensures c.requires

pub unreachable-requires-in_default-get_strs : goal.unreachable-requires-in_default-get_strs
unreachable-requires-in_default-get_strs c =
    textless (subcommand_rows_of c.args.matches.now) c.in-Some.name.now (rows_of (found_of c.in-Some.values.now)) c.in-Some-named.verb
    (pair_some (subcommand_rows_of c.args.matches.now) _ _ (c.in-Some.ensures.name ∙ map-first _ _ _) c.in-Some.ensures.rows) c.in-Some-named.ensures
    (c.in_default-get_strs.ensures ∙ raw_values-rows (found_of c.in-Some.values.now) (codes "text")) c.requires

pub invariant_of-result : goal.invariant_of-result
invariant_of-result c =
    let counts = texts_counted (subcommand_rows_of c.args.matches.now) c.in-Some.name.now (rows_of (found_of c.in-Some.values.now)) c.in-Some-named.verb
    c.in-Some-get_strs.texts.now (pair_some (subcommand_rows_of c.args.matches.now) _ _ (c.in-Some.ensures.name ∙ map-first _ _ _) c.in-Some.ensures.rows)
    c.in-Some-named.ensures (c.in-Some-get_strs.ensures ∙ raw_values-rows (found_of c.in-Some.values.now) (codes "text")) c.requires in
    record { some_text = counts.0; file = counts.1 }

pub returns : goal.returns
returns c =
    sym (texts_found (subcommand_rows_of c.args.matches.now) c.in-Some.name.now (rows_of (found_of c.in-Some.values.now)) c.in-Some-named.verb
    (Some (texts_of c.in-Some-get_strs.texts.now))
    (pair_some (subcommand_rows_of c.args.matches.now) _ _ (c.in-Some.ensures.name ∙ map-first _ _ _) c.in-Some.ensures.rows)
    c.in-Some-named.ensures (c.in-Some-get_strs.ensures ∙ raw_values-rows (found_of c.in-Some.values.now) (codes "text")))
