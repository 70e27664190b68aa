-- Lemmas on the request that continues a report after some of its elapses: the base time of this request resolves to
-- the last of these elapses.
use Rattle.std.proofs.Common.{◌≡◌, ◌≤◌, ◌*◌, ◌/◌, ◌∙◌, inl, inr, ℕ, zero, suc, ℤ, pos, negsuc, List, [], ◌∷◌, Option, None, Some, Result, Ok, take, drop, length, length-take, refl, sym, ap, subst, arith, get_or}
use Rattle.std.proofs.lemmas.Option.{slice_get-get_or}
use Rattle.jiff.proofs.SpanFacts.{signed_arith}
use Rattle.cal_bytes.specs.declared.whole.WholeFault.{WholeFault}
use Rattle.cal_rising.proofs.RisingLemmas.{Has-slice_get}
use Rattle.cal_zone.specs.rules.Instant.{IsInstant}
use Rattle.cal_stamp.proofs.StampCounted.{counted_back}
use Rattle.cal_plan.specs.rules.Instants.{AreInstants}
use Rattle.cal_report.specs.rules.RunReport.{base_from, base_in, report, second_or_fault}
use Rattle.cal_report.specs.rules.Resume.{AreShown, IsBaseAfter, IsBegunAgain, Resumes, base_after, begun_again, showing}
use Rattle.cal_report.specs.rules.Context.{setting_of}
use Rattle.cal_report.specs.rules.TextReport.TimestampReport.{stamp_in}
use Rattle.cal_report.specs.rules.Headline.{Schedule, base_text, started_at}
use Rattle.cal_report.proofs.BaseLemmas.{base_found}
use Rattle.cal_report.proofs.HeadlineElapses.{elapses_are_instants}
use Rattle.cal_request.specs.rules.Request.{Request}

-- `@` and the seconds of an instant, parsed as a base time, resolve to that instant
counted_base : (asked : Request) (secs : ℤ) → IsInstant secs → base_from asked (Some (base_text secs)) ≡ Ok secs
unfolding stamp_in
counted_base asked (pos n) h =
    let whole : n * 1_000_000 / 1_000_000 ≡ n = omega arith in
    ap second_or_fault (counted_back asked.now (setting_of asked) n h) ∙ ap (λ m. Ok (pos m)) whole
counted_base asked (negsuc n) h = absurd (omega (arith, signed_arith, h.0))

pub base_at : (asked : Request) (secs : ℤ) → IsInstant secs → base_in (started_at asked secs) ≡ Ok secs
unfolding base_in
base_at asked secs h = counted_base (started_at asked secs) secs h

-- a base time resolves to the same instant in `asked` and in the request that `begun_again` returns, because only the
-- present and the zones matter
same_base : (asked : Request) (shown : List ℤ) (k : ℕ) (base : Option (List ℕ)) → base_from (begun_again asked shown k) base ≡ base_from asked base
unfolding stamp_in
same_base asked shown k None = refl
same_base asked shown k (Some text) = refl

-- the base time of the request that `begun_again` returns resolves to the `k`-th of the elapses shown, or to the old
-- base time if `k` is 0
record IsSought (asked : Request) (base : ℤ) (shown : List ℤ) (k : ℕ) : Type 0 where
  from : ℤ
  sought : base_in (begun_again asked shown k) ≡ Ok from
  after : IsBaseAfter base shown k from

is_sought : (asked : Request) (base : ℤ) (shown : List ℤ) (k : ℕ) → base_in asked ≡ Ok base → AreInstants shown → k ≤ length shown → IsSought asked base shown k
unfolding base_in
is_sought asked base shown zero sought instants few = record { from = base; sought = same_base asked shown zero asked.base ∙ sought; after = refl }
is_sought asked base shown (suc before) sought instants few =
    let secs = get_or shown before (pos 0) in
    let at = slice_get-get_or shown before (pos 0) (omega arith) in
    record {
      from = secs;
      sought = same_base asked shown (suc before) (base_after asked.base shown (suc before)) ∙ rw at (counted_base asked secs (instants secs (Has-slice_get shown before secs at)));
      after = at;
    }

instants_shown : (n : ℕ) (xs : List ℤ) → AreInstants xs → AreInstants (take n xs)
instants_shown zero xs h i there = absurd there
instants_shown (suc n) [] h i there = absurd there
instants_shown (suc n) (x ∷ xs) h i (inl e) = h i (inl e)
instants_shown (suc n) (x ∷ xs) h i (inr there) = instants_shown n xs (λ j k. h j (inr k)) i there

-- the request that `begun_again` returns continues `asked` after the first `k` elapses shown, as `IsBegunAgain` says
pub is_begun_again : (asked : Request) (base : ℤ) (s : Schedule) (shown : List ℤ) (k : ℕ) → IsInstant asked.now → base_in asked ≡ Ok base
    → AreShown asked base s shown → k ≤ length shown → IsBegunAgain asked base shown k (begun_again asked shown k)
is_begun_again asked base s shown k now sought these few =
    let instants = subst AreInstants (sym these.first) (instants_shown asked.iterations these.elapses (elapses_are_instants asked base s these.elapses now sought these.these)) in
    let found = is_sought asked base shown k sought instants few in
    record {
      verb = refl;
      texts = refl;
      now = refl;
      local = refl;
      zones = refl;
      count = omega (arith, few, ap length these.first, length-take asked.iterations these.elapses);
      from = found.from;
      sought = base_found (begun_again asked shown k) found.from found.sought;
      after = found.after;
    }

-- if a prefix of the report can be continued as `Resumes` says, the request that `begun_again` returns shows exactly
-- the remaining elapses
pub shows_others_again : (asked : Request) (base : ℤ) (s : Schedule) (read : Result (List ℕ) WholeFault) (front : List ℕ) → IsInstant asked.now → base_in asked ≡ Ok base
    → (r : Resumes asked base s read front) → (report (begun_again asked r.shown r.number) read).out ≡ showing asked s (drop r.number r.shown)
shows_others_again asked base s read front now sought r =
    r.others (begun_again asked r.shown r.number) (is_begun_again asked base s r.shown r.number now sought r.these r.stand.few)
