-- How contracts see a request: with the present and the zones added, and each string as the list of its bytes.
use Rattle.std.specs.Prelude.{ℤ, map}
use Rattle.std.specs.String.{string_bytes}
use Rattle.std.specs.Option.{option_map}
use Rattle.cal_zone.specs.rules.ZoneTable.{ZoneMap}
use Rattle.cal_zone.specs.declared.zone.Zone.{Zone}
use Rattle.cal_request.specs.declared.request.Request as declared_request
use Rattle.cal_request.specs.rules.Request.{Request}

abbrev pub asked : declared_request.Request → ℤ → Zone → ZoneMap → Request
asked request now local zones = record {
  verb = request.verb;
  texts = map string_bytes request.texts.items;
  iterations = request.iterations;
  base = option_map string_bytes request.base;
  now = now;
  local = local;
  zones = zones;
}
