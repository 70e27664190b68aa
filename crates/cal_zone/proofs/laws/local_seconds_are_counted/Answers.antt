use Rattle.cal_civil.specs.rules.LocalSecond.{seconds_in_all-is}
use Rattle.cal_zone.proofs.YearLemmas.{year_of_local, local_of_year}
use Rattle.cal_zone.proofs.laws.local_seconds_are_counted.Goals as goal

pub returns-clause-count : goal.returns-clause-count
returns-clause-count c = seconds_in_all-is

pub returns-clause-years : goal.returns-clause-years
returns-clause-years c = year_of_local

pub returns-clause-all : goal.returns-clause-all
returns-clause-all c = local_of_year
