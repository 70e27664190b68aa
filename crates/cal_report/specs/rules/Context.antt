-- The request of a run as contracts describe it, with the zones that its texts can refer to.
use Rattle.cal_request.specs.rules.RequestView.{asked}
use Rattle.cal_request.specs.declared.request.Request as declared_request
use Rattle.cal_request.specs.rules.Request.{Request}
use Rattle.cal_zone.specs.declared.setting.Setting as declared_setting
use Rattle.cal_report.specs.declared.context.Context.{Context}
use Rattle.cal_zone.specs.rules.Setting.{Setting}
use Rattle.cal_zone.specs.rules.Zone.{zone_of}
use Rattle.cal_zone.specs.rules.ZoneTable.{zone_named}

-- a request, together with the present and the zones of a setting
abbrev pub asked_in : declared_request.Request → declared_setting.Setting → Request
asked_in request setting = asked request setting.now.secs setting.local setting.zones.now

-- the request, the present and the zones that a `Context` of the code has, together as one `Request`
abbrev pub asked_by : Context → Request
asked_by context = asked_in context.request.now context.setting

-- the local zone of a request, and the zones of its table
abbrev pub setting_of : Request → Setting
setting_of request = record { local = zone_of request.local; find = zone_named request.zones }
