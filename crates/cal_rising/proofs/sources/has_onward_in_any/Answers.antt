use Rattle.std.proofs.Common.{rules, ◌∙◌, List, ap, arith, length-set, map, set, sym, w64, int_eq, drop, length, ℕ, ◌++◌, ◌≡◌, take, ◌≤◌}
use Rattle.std.proofs.lemmas.Int.{to_z-of_z}
use Rattle.std.specs.List.{list_any}
use Rattle.std.specs.Set.{is_member}
use Rattle.cal_rising.specs.rules.Merge.{Peeked, numbers}
use Rattle.cal_rising.proofs.WithoutLemmas.{any_replaced, behind_all, behind_here, behind_more}
use Rattle.cal_rising.proofs.sources.has_onward_in_any.Goals as goal
use Rattle.std.proofs.lemmas.List.{append-nil}
use Rattle.std.proofs.Math.Seq.{take-length}
use Rattle.std.proofs.Math.ListN.{drop_of_length-le}

-- if two lists `xs` and `ys` have `n` items each, and `xs` is written over `ys`, the first `n` items of the result are
-- `xs`
taken_whole : {X : Type 0} (xs ys : List X) (n : ℕ) → length xs ≡ length ys → n ≡ length ys → take n (xs ++ drop (length xs) ys) ≡ xs
taken_whole xs ys n long e =
    let past : length ys ≤ length xs = omega arith in
    rw (drop_of_length-le ys past, append-nil xs, e, sym long) (take-length xs)

pub returns-then-has_onward-clause-has : goal.returns-then-has_onward-clause-has
returns-then-has_onward-clause-has g c =
    behind_here _ _ _ _ _ _ _ c.loop-peeked.invariant.behind (to_z-of_z w64 c.args.number (search rules)) c.deref_mut-peeked-items.ensures.value (omega arith) (sym c.has_onward.ensures.has ∙ c.if-has_onward.true)

pub returns-clause-has : goal.returns-clause-has
returns-clause-has g c =
    behind_all _ _ _ _ _ _ c.loop-peeked.invariant.behind (to_z-of_z w64 c.args.number (search rules)) c.deref_mut-peeked-items.ensures.value (omega arith)

pub returns-then-has_onward-clause-left : goal.returns-then-has_onward-clause-left
returns-then-has_onward-clause-left g c = λ i le.
    let whole = taken_whole (set c.loop-peeked.peeked-items c.loop-peeked.peeked-index c.has_onward.new.self) c.args.sources.now.items c.args.sources.now.len (omega (arith, length-set {A = Peeked})) (omega arith) in
    let any = λ (ss : List Peeked). list_any (λ xs. is_member int_eq xs i) (map numbers ss) in
    ap any whole
    ∙ any_replaced i c.loop-peeked.peeked-items c.loop-peeked.peeked-index c.has_onward.new.self c.peeked-item.result (omega arith) (c.has_onward.ensures.left i (rw (to_z-of_z w64 c.args.number (search rules)) le))
    ∙ c.loop-peeked.invariant.left i (rw (to_z-of_z w64 c.args.number (search rules)) le)
    ∙ ap any c.deref_mut-peeked-items.ensures.value

pub loop-peeked-preserved : goal.loop-peeked-preserved
loop-peeked-preserved g c = record {
  behind = behind_more _ _ _ _ _ _ c.loop-peeked.invariant.behind (omega arith) (sym c.has_onward.ensures.has ∙ c.if-has_onward.false);
  left = λ i le.
      any_replaced i c.loop-peeked.peeked-items c.loop-peeked.peeked-index c.has_onward.new.self c.peeked-item.result (omega arith) (c.has_onward.ensures.left i le)
      ∙ c.loop-peeked.invariant.left i le;
}
