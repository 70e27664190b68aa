-- The files of a unit that are read: its own, and then its drop-ins (systemd.unit(5), Description).
use Rattle.std.specs.Prelude.{ℕ, nat_le, if◌then◌else◌, List, Option, None, Some, Result, Ok, Err, length, option_map, string_bytes}
use Rattle.std.specs.List.{flat_map}
use Rattle.std.specs.Option.{option_to_list}
use Rattle.cal_machine.specs.rules.Machine.{Machine}
use Rattle.cal_machine.specs.rules.Places.{Content, content_at}
use Rattle.cal_machine.specs.rules.Places.{Content as contents}
use Rattle.cal_machine.specs.declared.tree.Unreadable.{Unreadable}
use Rattle.cal_unit_index.specs.rules.Index.{Fault}
use Rattle.cal_unit_index.specs.declared.fault.Reason.{Reason}
use Rattle.cal_unit_index.specs.declared.fault.Reason.TheVariants as reasons
use Rattle.cal_unit_index.specs.declared.files.FileRead as reads
use Rattle.cal_unit_index.specs.declared.files.UnitText as texts

pub record UnitText : Type 0 where
  pub path : List ℕ
  pub bytes : List ℕ

-- the maximum size of a file of a unit, in bytes; it is this project's choice
abbrev pub max_bytes : ℕ
max_bytes = 1048576

-- what is at the path of a unit's file: an empty file or a device, which masks the unit; something that can't be used;
-- or a text
pub data FileRead : Type 0 where
  Mask : FileRead
  Unusable : (reason : Reason) → FileRead
  Text : (bytes : List ℕ) → FileRead

abbrev pub file_read : Result Content Unreadable → FileRead
file_read (Err why) = Unusable (reasons.Unreadable why)
file_read (Ok contents.Nothing) = Unusable reasons.Missing
file_read (Ok contents.InFolder) = Unusable reasons.IsFolder
file_read (Ok contents.Blank) = Mask
file_read (Ok (contents.Text bytes)) = if nat_le (length bytes) max_bytes then Text bytes else Unusable reasons.TooLarge

abbrev pub file_at : Machine → List ℕ → FileRead
file_at machine path = file_read (content_at machine path)

-- ## Drop-ins

abbrev pub drop_in_bytes : FileRead → Option (List ℕ)
drop_in_bytes Mask = None
drop_in_bytes (Unusable reason) = None
drop_in_bytes (Text bytes) = Some bytes

-- why a drop-in is lost, given why it can't be used; None if it is only skipped, as a folder and a link to nothing are
abbrev pub lost_for : Reason → Option Reason
lost_for (reasons.Unreadable why) = Some (reasons.Unreadable why)
lost_for reasons.IsFolder = None
lost_for reasons.Missing = None
lost_for reasons.TooLarge = Some reasons.TooLarge

abbrev pub drop_in_fault : FileRead → Option Reason
drop_in_fault Mask = None
drop_in_fault (Unusable reason) = lost_for reason
drop_in_fault (Text bytes) = None

abbrev pub text_at : Machine → List ℕ → List UnitText
text_at machine path =
    option_to_list (option_map (λ bytes. record { path = path; bytes = bytes }) (drop_in_bytes (file_at machine path)))

abbrev pub fault_at : Machine → List ℕ → List Fault
fault_at machine path =
    option_to_list (option_map (λ reason. record { path = path; reason = reason }) (drop_in_fault (file_at machine path)))

-- the drop-ins at these paths that are read
abbrev pub texts_at : Machine → List (List ℕ) → List UnitText
texts_at machine paths = flat_map (text_at machine) paths

-- the drop-ins at these paths that are lost, each with the reason
abbrev pub faults_at : Machine → List (List ℕ) → List Fault
faults_at machine paths = flat_map (fault_at machine) paths

-- ## Views

abbrev pub shown_unit_text : texts.UnitText → UnitText
shown_unit_text file = record { path = string_bytes file.path; bytes = file.bytes.items }

abbrev pub shown_file : reads.FileRead → FileRead
shown_file reads.TheVariants.Mask = Mask
shown_file (reads.TheVariants.Unusable reason) = Unusable reason
shown_file (reads.TheVariants.Text bytes) = Text bytes.items
