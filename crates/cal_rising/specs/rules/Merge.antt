-- The merge of several strictly increasing lists into one, which has each of their numbers once. The numbers of some
-- other lists, the exceptions, are left out. The merge models systemd.timer(5), OnCalendar=: a timer with several
-- expressions elapses whenever one of them does.
use Rattle.std.specs.Prelude.{◌≡◌, cond, Bool, List, [], ◌∷◌, Option, None, Some, ℤ, int_lt, slice_get}
use Rattle.std.specs.Ordering.{int_cmp}
use Rattle.std.specs.List.Sorted.{IsStrictlySortedBy}
use Rattle.cal_rising.specs.rules.RisingList.{union, without}

-- the state of a merge: whether `next` has been called, and the remaining numbers of each source and of each exception
pub record Merge : Type 0 where
  pub started : Bool
  pub lists : List (List ℤ)
  pub exceptions : List (List ℤ)

-- the numbers that a merge has yet to return: the remaining numbers of its sources, without those that an exception has
abbrev pub merged : Merge → List ℤ
merged m = without (union m.lists) (union m.exceptions)

-- one source of a merge: the number read ahead and not returned yet, if any, and the numbers after it
pub record Peeked : Type 0 where
  pub head : Option ℤ
  pub after : List ℤ

-- the numbers that a source has yet to return: the number read ahead, if there is one, and then the numbers after it
abbrev pub numbers_by : Option ℤ → List ℤ → List ℤ
numbers_by None xs = xs
numbers_by (Some x) xs = x ∷ xs

abbrev pub numbers : Peeked → List ℤ
numbers s = numbers_by s.head s.after

-- the remaining numbers are strictly increasing, and the first of them, if any, has been read ahead
abbrev pub HasHead : Peeked → Type 0
HasHead s = (s.head ≡ slice_get (numbers s) 0) × IsStrictlySortedBy int_cmp (numbers s)

-- what remains of a strictly increasing list after `x` is returned, provided that no number of the list is below `x`
abbrev pub advanced : ℤ → List ℤ → List ℤ
advanced x [] = []
advanced x (y ∷ ys) = cond (int_lt x y) (y ∷ ys) ys

-- the smaller of two numbers, or the only one if the other is missing; `None` if both are missing
abbrev pub lesser : Option ℤ → Option ℤ → Option ℤ
lesser None b = b
lesser (Some x) None = Some x
lesser (Some x) (Some y) = cond (int_lt y x) (Some y) (Some x)
