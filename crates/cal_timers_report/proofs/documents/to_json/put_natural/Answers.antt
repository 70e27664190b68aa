use Rattle.std.proofs.Common.{rules}
use Rattle.json.proofs.Printed.Decimals.{IsNumber-decimal}
use Rattle.cal_timers_report.proofs.documents.to_json.put_natural.Goals as goal

pub token-requires : goal.token-requires
token-requires c = search (rules, IsNumber-decimal)
