-- A request, together with the present and the zones that its answer depends on.
use Rattle.std.specs.Prelude.{ℕ, ℤ, List, Option}
use Rattle.cal_zone.specs.rules.ZoneTable.{ZoneMap}
use Rattle.cal_zone.specs.declared.zone.Zone.{Zone}
use Rattle.cal_request.specs.declared.verb.Verb.{Verb}

-- a request, the present instant, the local zone and the named zones; each string is the list of its bytes
pub record Request : Type 0 where
  pub verb : Verb
  pub texts : List (List ℕ)
  pub iterations : ℕ
  pub base : Option (List ℕ)
  pub now : ℤ
  pub local : Zone
  pub zones : ZoneMap
