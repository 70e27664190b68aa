-- The values of `--count`, and the texts of the errors that parsing the arguments can return.
use Rattle.std.specs.Prelude.{◌≡◌, ℕ, ◌≤◌, ◌<◌, ⊤, List, length, string_bytes}
use Rattle.cal_options.specs.declared.argument_fault.ArgumentFault.{ArgumentFault}
use Rattle.cal_options.specs.declared.argument_fault.ArgumentFault.TheVariants.{Usage, Help, NoMemory}

-- the maximum value of `--count`
abbrev pub max_count : ℕ
max_count = 1_000_000

-- the number of elapses if `--count` isn't given
abbrev pub default_count : ℕ
default_count = 5

-- the number is from `least` to `most`
abbrev pub IsBetween : ℕ → ℕ → ℕ → Type 0
IsBetween least most number = (least ≤ number) × (number ≤ most)

-- `count` is a valid value of `--count`
abbrev pub IsElapseCount : ℕ → Type 0
IsElapseCount = IsBetween 1 max_count

-- the text to print isn't empty; `NoMemory` has no text
abbrev pub HasText : ArgumentFault → Type 0
HasText (Usage text) = 0 < length (string_bytes text)
HasText (Help text) = 0 < length (string_bytes text)
HasText NoMemory = ⊤

-- the error is `Usage` with this text, unless allocation failed
abbrev pub IsUsageOf : List ℕ → ArgumentFault → Type 0
IsUsageOf message (Usage text) = string_bytes text ≡ message
IsUsageOf message (Help text) = ⊥
IsUsageOf message NoMemory = ⊤
