use Rattle.std.proofs.Common.{rules}
use Rattle.json.proofs.Printed.Decimals.{IsNumber-decimal}
use Rattle.cal_crontabs.proofs.document.put_number.Goals as goal

pub token-requires-2 : goal.token-requires-2
token-requires-2 c = search (rules, IsNumber-decimal)
