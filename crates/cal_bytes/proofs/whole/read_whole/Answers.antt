use Rattle.std.proofs.Common.{◌++◌, take, arith, List, None, Option, Some, ap, sym, ℕ, ◌∙◌, length, ◌≡◌, ◌+◌, ◌≤◌}
use Rattle.cal_bytes.proofs.whole.read_whole.Goals as goal
use Rattle.std.proofs.lemmas.List.{append_assoc, length-append, length-take-le}
use Rattle.std.specs.Io.KnownBytes.{Consumes}

-- two consecutive reads consume the concatenation of what each consumes
consumes-append : (a b c : Option (List ℕ)) (xs ys : List ℕ) → Consumes a b xs → Consumes b c ys → Consumes a c (xs ++ ys)
consumes-append None b c xs ys h k = tt
consumes-append (Some held) None c xs ys h k = absurd h
consumes-append (Some held) (Some bs) None xs ys h k = absurd k
consumes-append (Some held) (Some bs) (Some cs) xs ys h k = h ∙ ap (λ rest. xs ++ rest) k ∙ sym (append_assoc xs ys cs)

length-taken : (xs ys : List ℕ) (n : ℕ) → n ≤ length ys → length (xs ++ take n ys) ≡ length xs + n
length-taken xs ys n h = simp length-append (ap (λ m. length xs + m) (length-take-le n ys h))

pub returns-then-count-limit-clause-bytes : goal.returns-then-count-limit-clause-bytes
returns-then-count-limit-clause-bytes g c =
    record {
      front = c.loop-count.bytes.items ++ take c.in-Some.count c.fetch.new.into;
      taken = consumes-append _ _ _ c.loop-count.bytes.items _ c.loop-count.invariant.taken c.in-Some.ensures.bytes.2;
      is_more = omega (arith, c.len.ensures, length-taken c.loop-count.bytes.items c.fetch.new.into c.in-Some.count c.in-Some.ensures.bytes.0);
    }

pub returns-then-is_err-clause-bytes : goal.returns-then-is_err-clause-bytes
returns-then-is_err-clause-bytes g c =
    record {
      front = c.loop-count.bytes.items ++ take c.in-Some.count c.fetch.new.into;
      taken = consumes-append _ _ _ c.loop-count.bytes.items _ c.loop-count.invariant.taken c.in-Some.ensures.bytes.2;
      fits = omega (arith, c.len.ensures, length-taken c.loop-count.bytes.items c.fetch.new.into c.in-Some.count c.in-Some.ensures.bytes.0);
    }
