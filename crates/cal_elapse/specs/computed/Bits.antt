-- Sets of small numbers, represented as the bits of masks. A mask is a word in which bit i is 1 if the set contains the
-- number i.
use Rattle.std.specs.Prelude.{◌==◌, ℕ, ◌/◌, ◌%◌, Bool, not, List, slice_index_or}
use Rattle.std.specs.Int.{bit_at}

-- whether the set in a mask contains i: bit i, counted from the lowest, is 1
unfoldable pub is_bit : ℕ → ℕ → Bool
is_bit mask i = bit_at mask i == 1

-- whether the set in a list of masks of 64 bits contains i: bit i % 64 of the mask with index i / 64 is 1
unfoldable pub is_bit_in : List ℕ → ℕ → Bool
is_bit_in masks i = is_bit (slice_index_or masks (i / 64) 0) (i % 64)

-- whether a word has at least one set bit, that is, whether it isn't 0
abbrev pub is_set : ℕ → Bool
is_set x = not (x == 0)
