-- Expressions whose elapses are all elapses of exceptions, and why these expressions can be left out.
use Rattle.std.proofs.Common.{◌≡◌, ◌⊎◌, ◌↔◌, ◌++◌, ℕ, Bool, true, false, List, [], ◌∷◌, ℤ, pos, ◌-ℤ◌, ◌<ℤ◌, inl, inr, refl, sym, subst, ◌∙◌, arith, int_eq}
use Rattle.std.proofs.lemmas.Bool.{false≢true}
use Rattle.std.proofs.lemmas.Int.{ints}
use Rattle.jiff.specs.Types.{TimeZone}
use Rattle.std.specs.Set.{is_member}
use Rattle.cal_spec.specs.rules.Fields.{Fields}
use Rattle.cal_spec.specs.rules.Match.{Sets, date_in, matches, time_in}
use Rattle.cal_spec.specs.rules.Members.{sets_of}
use Rattle.cal_rising.specs.rules.Elements.{Has}
use Rattle.cal_bytes.proofs.General.{list-no_first, both_follow}
use Rattle.cal_rising.proofs.WithoutLemmas.{Has-is_member, is_member-Has}
use Rattle.cal_elapse.specs.rules.Covered.{AreAmong, AreKept, IsCovered}
use Rattle.cal_elapse.specs.rules.ElapsesAfter.{elapses_after, elapses_except}
use Rattle.cal_elapse.specs.rules.Elapses.{IsElapse, IsPlace, Timed, timed}
use Rattle.cal_elapse.proofs.ElapsesLemmas.{AreAbove-elapses_after, AreElapses-elapses_except, AreElapses-only, first-none}

-- if `others` has every value that `sets` has (`AreAmong`), a local second that matches `sets` also matches `others`
pub matches_among : (sets others : Sets) → AreAmong sets others → (local : ℕ) → matches sets local ≡ true → matches others local ≡ true
unfolding matches date_in time_in
matches_among sets others h local =
    both_follow _ _ _ _ (λ same. same)
    (both_follow _ _ _ _
    (both_follow _ _ _ _ (λ m. grind (arith, h.weekday)) (both_follow _ _ _ _ (h.year _) (both_follow _ _ _ _ (h.month _) (rw h.from_end (h.day _)))))
    (both_follow _ _ _ _ (h.hour _) (both_follow _ _ _ _ (h.minute _) (h.second _))))

-- if `others` matches all values that `fields` matches, field by field, and both count days from the same end of the
-- month, then in the same zone the expression `fields` is covered by the expression `others`
pub place_among : (fields others : Fields) (zone : TimeZone) → AreAmong (sets_of fields) (sets_of others) → IsCovered (timed fields zone) (timed others zone ∷ [])
unfolding timed
place_among fields others zone among i p = grind (arith, matches_among)

below : (i : ℤ) → (i -ℤ pos 1) <ℤ i
below i = omega (arith, ints)

-- if `i` is an elapse of `e`, and no elapse of `e` after `i` - 1 is left once the elapses of the exceptions are
-- removed, then `i` is an elapse of an exception
not_left : (e : Timed) (exceptions : List Timed) (i : ℤ) (b : Bool) → is_member int_eq (elapses_after exceptions (i -ℤ pos 1)) i ≡ b → elapses_except (e ∷ []) exceptions (i -ℤ pos 1) ≡ []
    → IsPlace e i → IsElapse exceptions i
not_left e exceptions i true has none p = (((AreAbove-elapses_after exceptions (i -ℤ pos 1)).members i).0 (Has-is_member (elapses_after exceptions (i -ℤ pos 1)) i has)).1
not_left e exceptions i false lacks none p =
    let base = i -ℤ pos 1 in
    let excepted = λ (x : IsElapse exceptions i). let has = is_member-Has (elapses_after exceptions base) i (((AreAbove-elapses_after exceptions base).members i).1 (below i, x)) in false≢true (sym lacks ∙ has) in
    absurd (subst (λ (xs : List ℤ). Has xs i) none (((AreElapses-elapses_except (e ∷ []) exceptions base).members i).1 (below i, (inl p, excepted))))

-- an expression is covered by exceptions if and only if, whatever the base is, none of its elapses after the base is
-- left once the elapses of the exceptions are removed
pub elapses_of_covered : (e : Timed) (exceptions : List Timed) → IsCovered e exceptions ↔ ((base : ℤ) → elapses_except (e ∷ []) exceptions base ≡ [])
elapses_of_covered e exceptions = (
  λ covered base.
      let these = AreElapses-elapses_except (e ∷ []) exceptions base in
      list-no_first (elapses_except (e ∷ []) exceptions base)
      (first-none (elapses_except (e ∷ []) exceptions base)
      (λ i m. let here = ((these.members i).0 m).1 in here.1 (covered i (elim here.0 [ inl p ↦ p | inr none ↦ absurd none ])))),
  λ none i p. not_left e exceptions i (is_member int_eq (elapses_after exceptions (i -ℤ pos 1)) i) refl (none (i -ℤ pos 1)) p,
)

-- an instant is an elapse of `es` ++ `fs` if it is an elapse of `es`, or if it is an elapse of `fs` (`IsElapse-right`),
-- and in no other case (`IsElapse-either`)
pub IsElapse-left : (es fs : List Timed) (i : ℤ) → IsElapse es i → IsElapse (es ++ fs) i
IsElapse-left [] fs i h = absurd h
IsElapse-left (e ∷ es) fs i (inl here) = inl here
IsElapse-left (e ∷ es) fs i (inr rest) = inr (IsElapse-left es fs i rest)

pub IsElapse-right : (es fs : List Timed) (i : ℤ) → IsElapse fs i → IsElapse (es ++ fs) i
IsElapse-right [] fs i h = h
IsElapse-right (e ∷ es) fs i h = inr (IsElapse-right es fs i h)

pub IsElapse-either : (es fs : List Timed) (i : ℤ) → IsElapse (es ++ fs) i → IsElapse es i ⊎ IsElapse fs i
IsElapse-either [] fs i h = inr h
IsElapse-either (e ∷ es) fs i (inl here) = inl (inl here)
IsElapse-either (e ∷ es) fs i (inr rest) = elim (IsElapse-either es fs i rest) [ inl h ↦ inl (inr h) | inr h ↦ inr h ]

-- Suppose that every elapse of `kept` is an elapse of `all`, and that every elapse of `all` is an elapse of `kept` or
-- of an exception (`AreKept`). This stays true if the same expression is added to `all` and to `kept`, and also if an
-- expression that the exceptions cover is added to `all` alone (`kept_without`).
pub kept_one : (all exceptions kept : List Timed) (e : Timed) → AreKept all exceptions kept → AreKept (all ++ e ∷ []) exceptions (kept ++ e ∷ [])
kept_one all exceptions kept e h = record {
  within = λ i m.
      elim (IsElapse-either kept (e ∷ []) i m) [
        | inl p ↦ IsElapse-left all (e ∷ []) i (h.within i p)
        | inr p ↦ IsElapse-right all (e ∷ []) i p
      ];
  rest = λ i m.
      elim (IsElapse-either all (e ∷ []) i m) [
        | inl p ↦ elim (h.rest i p) [ inl q ↦ inl (IsElapse-left kept (e ∷ []) i q) | inr q ↦ inr q ]
        | inr p ↦ inl (IsElapse-right kept (e ∷ []) i p)
      ];
}

pub kept_without : (all exceptions kept : List Timed) (e : Timed) → IsCovered e exceptions → AreKept all exceptions kept → AreKept (all ++ e ∷ []) exceptions kept
kept_without all exceptions kept e covered h = record {
  within = λ i m. IsElapse-left all (e ∷ []) i (h.within i m);
  rest = λ i m.
      elim (IsElapse-either all (e ∷ []) i m) [
        | inl p ↦ h.rest i p
        | inr p ↦ elim p [ inl here ↦ inr (covered i here) | inr none ↦ absurd none ]
      ];
}

-- if `AreKept` is true, `kept` and `all` have the same elapses after `b` once the elapses of the exceptions are removed
pub elapses_except-kept : (all exceptions kept : List Timed) (b : ℤ) → AreKept all exceptions kept → elapses_except kept exceptions b ≡ elapses_except all exceptions b
elapses_except-kept all exceptions kept b h =
    let these = AreElapses-elapses_except kept exceptions b in
    AreElapses-only all exceptions b (elapses_except kept exceptions b) (record {
      rises = these.rises;
      members = λ i. (
        λ m. let here = (these.members i).0 m in (here.0, (h.within i here.1.0, here.1.1)),
        λ p. (these.members i).1 (p.0, (elim (h.rest i p.1.0) [ inl k ↦ k | inr x ↦ absurd (p.1.1 x) ], p.1.1)),
      );
    })
