use Rattle.std.proofs.Common.{rules}
use Rattle.cal_spec.specs.computed.Views.{fields_of}
use Rattle.cal_spec.specs.computed.Grammar.{fields_in}
use Rattle.cal_spec.specs.computed.Reads.{GivesUnlessNoMemory}
use Rattle.cal_spec.proofs.FieldLemmas.{gives_valid}
use Rattle.cal_spec.proofs.read.read_fields.Goals as goal

pub returns-in-Some-clause-valid : goal.returns-in-Some-clause-valid
unfolding fields_in
returns-in-Some-clause-valid c =
    let gives : GivesUnlessNoMemory fields_of c.read_roles.result (fields_in c.args.text.now) = search rules in
    gives_valid c.args.text.now c.read_roles.result gives
