-- The character with which a number is padded on the left.
use Rattle.std.specs.Prelude.{ℕ}
use Rattle.cal_bytes.specs.declared.short_text.Fill.{Fill}
use Rattle.cal_bytes.specs.declared.short_text.Fill.TheVariants.{Zero, Blank}

-- the ASCII code of the padding character: the digit `0` or a space
abbrev pub byte_of : Fill → ℕ
byte_of Zero = 48
byte_of Blank = 32
