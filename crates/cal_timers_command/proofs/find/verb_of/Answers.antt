use Rattle.std.proofs.Common.{◌∙◌, Some}
use Rattle.clap.specs.Words.{found_of, rows_of, subcommand_rows_of}
use Rattle.cal_options.proofs.CommandLemmas.{map-first, pair_none, pair_some}
use Rattle.cal_timers_command.proofs.CommandLemmas.{needed_found, no_verb, unnamed, verb_found}
use Rattle.cal_timers_command.proofs.find.verb_of.Goals as goal

pub unreachable-requires : goal.unreachable-requires
unreachable-requires c =
    no_verb (subcommand_rows_of c.args.matches.now) (pair_none (subcommand_rows_of c.args.matches.now) (c.in_default.ensures.name ∙ map-first _ _ _)) c.requires

pub unreachable-requires-in_default-named : goal.unreachable-requires-in_default-named
unreachable-requires-in_default-named c =
    unnamed (subcommand_rows_of c.args.matches.now) c.in-Some.name.now (rows_of (found_of c.in-Some.values.now))
    (pair_some (subcommand_rows_of c.args.matches.now) _ _ (c.in-Some.ensures.name ∙ map-first _ _ _) c.in-Some.ensures.rows) c.in_default-named.ensures c.requires

pub returns : goal.returns
returns c =
    let found = verb_found (subcommand_rows_of c.args.matches.now) c.in-Some.name.now (rows_of (found_of c.in-Some.values.now)) (Some c.in-Some-named.verb)
    (pair_some (subcommand_rows_of c.args.matches.now) _ _ (c.in-Some.ensures.name ∙ map-first _ _ _) c.in-Some.ensures.rows) c.in-Some-named.ensures in
    record {
      found = found;
      needed = needed_found (subcommand_rows_of c.args.matches.now) c.in-Some-named.verb (rows_of (found_of c.in-Some.values.now)) found c.requires;
    }
