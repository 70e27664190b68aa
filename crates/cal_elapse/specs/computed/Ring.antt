-- A ring of cells, one bit each. The cell of an instant is its number of seconds modulo the number of cells. Among
-- `cell_count` consecutive seconds, no two have the same cell.
use Rattle.std.specs.Prelude.{◌≡◌, ◌+◌, ◌-◌, ◌*◌, ◌%◌, ◌+ℤ◌, true, cond, if◌then◌else◌, ◌==◌, ℕ, zero, suc, Bool, List, [], ◌∷◌, length, Option, None, Some, ℤ, pos, ◌≤ℤ◌, refl}
use Rattle.cal_zone.specs.rules.Instant.{last_instant}
use Rattle.cal_elapse.specs.computed.Bits.{is_bit, is_bit_in}
use Rattle.cal_rising.specs.rules.Elements.{Has}
use Rattle.cal_elapse.specs.rules.Search.{IsFirstPassing}

-- The number of cells. Proofs use the lemma below, which states the value, instead of unfolding the definition: with
-- the definition unfolded, the prover could build a list of this length.
pub cells_in_all : ℕ
cells_in_all = 187_200

pub cells_in_all-is : cells_in_all ≡ 187_200
unfolding cells_in_all
cells_in_all-is = refl

-- The number of cells, under a second name. Proofs may unfold this name, because it isn't used as the length of a list.
abbrev pub cell_count : ℕ
cell_count = 187_200

-- the number of words of 64 bits that hold the cells
abbrev pub cell_words : ℕ
cell_words = 2_925

-- whether the cell of a second is set
unfoldable pub is_held : List ℕ → ℕ → Bool
is_held cells second = is_bit_in cells (second % cell_count)

-- how many steps lead from the cell `cell` forward to the cell `i`, if cell 0 follows the last cell
abbrev pub cells_behind : ℕ → ℕ → ℕ
cells_behind cell i = (i + cell_count - cell) % cell_count

-- `i` is `start` plus the index of a set bit of `bits`
pub record IsOneOf (start : ℤ) (bits : ℕ) (i : ℤ) : Type 0 where
  pub bit : ℕ
  pub set : is_bit bits bit ≡ true
  pub is : (start +ℤ pos bit) ≡ i

-- `i` is m minutes and s seconds after `start`, where m is the index of a set bit of `minutes`, and s of `seconds`
pub record IsInMinutes (start : ℤ) (minutes seconds : ℕ) (i : ℤ) : Type 0 where
  pub minute : ℕ
  pub second : ℕ
  pub minute_set : is_bit minutes minute ≡ true
  pub second_set : is_bit seconds second ≡ true
  pub is : (start +ℤ pos (minute * 60 + second)) ≡ i

-- of the `n` numbers from `from` on, the list of those that pass, in increasing order
abbrev pub rising_from : (ℕ → Bool) → ℕ → ℕ → List ℤ
rising_from passes from zero = []
rising_from passes from (suc n) = cond (passes from) (pos from ∷ rising_from passes (suc from) n) (rising_from passes (suc from) n)

-- `i` and `j` are less than `cell_count` seconds apart, so they have different cells unless they are equal
abbrev pub IsNear : ℤ → ℤ → Type 0
IsNear i j = (i ≤ℤ (j +ℤ pos 187_199)) × (j ≤ℤ (i +ℤ pos 187_199))

-- the instants in a ring that starts at the second `low`: of the `cell_count` seconds from `low` on, those whose cell
-- is set
unfoldable pub instants_in : List ℕ → ℕ → List ℤ
instants_in cells low = rising_from (is_held cells) low cells_in_all

-- the ring has one bit for each cell, in `cell_words` words of 64 bits, and if it starts at `low`, none of the instants
-- in it is after `last_instant`
pub record IsRound (cells : List ℕ) (low : ℕ) : Type 0 where
  pub whole : length cells ≡ cell_words
  pub members : (i : ℤ) → Has (instants_in cells low) i → i ≤ℤ last_instant

-- the value that is stored as the smallest second if the ring is empty; it is later than every instant
abbrev pub no_second : ℕ
no_second = 18_446_744_073_709_551_615

-- the smallest second, or `None` if the stored value says that the ring is empty
abbrev pub least_kept : ℕ → Option ℕ
least_kept least = if least == no_second then None else Some least

-- a ring whose smallest second is `least`, or which is empty if `least` is `no_second`
pub record IsRoundFrom (cells : List ℕ) (least : ℕ) : Type 0 where
  pub round : IsRound cells least
  pub first : IsFirstPassing (is_held cells) least (least + cell_count) (least_kept least)
