use Rattle.std.proofs.Common.{◌≡◌, ◌++◌, string_bytes}
use Rattle.std.specs.List.{flat_map}
use Rattle.cal_crontabs.specs.rules.EntryText.{comment_char}
use Rattle.cal_crontabs.proofs.entry_text.push_comment_text.Given as goal

-- the characters that the loop has visited have been appended as they are printed
abbrev pub invariant-loop-sign : goal.invariant-loop-sign
invariant-loop-sign l = string_bytes l.out ≡ string_bytes l.initial.out ++ flat_map comment_char l.yielded
