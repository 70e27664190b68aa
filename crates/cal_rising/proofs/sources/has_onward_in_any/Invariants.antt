use Rattle.std.proofs.Common.{◌≡◌, ◌≤ℤ◌, ℤ, map, int_eq}
use Rattle.std.specs.List.{list_any}
use Rattle.std.specs.Set.{is_member}
use Rattle.cal_rising.specs.rules.Merge.{numbers}
use Rattle.cal_rising.proofs.WithoutLemmas.{AreBehind}
use Rattle.cal_rising.proofs.sources.has_onward_in_any.Given as goal

-- no source visited so far had `number`, and the sources not visited yet are unchanged (`AreBehind`); taken together,
-- the sources have the same numbers from `number` upwards as at the start
abbrev pub invariant-loop-peeked : goal.invariant-loop-peeked
invariant-loop-peeked g l = record {
  behind : AreBehind l.number l.peeked-index l.initial.peeked-items l.peeked-items;
  left : (i : ℤ) → l.number ≤ℤ i → list_any (λ xs. is_member int_eq xs i) (map numbers l.peeked-items) ≡ list_any (λ xs. is_member int_eq xs i) (map numbers l.initial.peeked-items);
}
