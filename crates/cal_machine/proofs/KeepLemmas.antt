-- Lemmas on what changes when an answer is recorded.
use Rattle.std.proofs.Common.{◌≡◌, ◌⊎◌, ◌∙◌, Bool, List, None, Option, Ordering, Some, true, ap, inl, inr, subst, sym, unwrap_or}
use Rattle.std.proofs.lemmas.Bool.{cases_Bool}
use Rattle.std.proofs.lemmas.Map.Lookups.{CmpEqualImpliesEq}
use Rattle.std.specs.BTreeMap.{BTreeMap, get_by, UpdatesBy}
use Rattle.std.specs.Cmp.{Equal-is}
use Rattle.std.specs.Map.{AreApart, IsKeyTest, KeepsOthers, lookup}
use Rattle.std.specs.Ordering.{is_eq, eq_by_cmp}
use Rattle.cal_machine.specs.rules.Recorded.{Adds, Extends}

some-is : {A : Type 0} {a b : A} → Some a ≡ Some b → a ≡ b
some-is {A} {a} e = ap (λ found. unwrap_or found a) e

None-is-not-Some : {A : Type 0} {a : A} → (let none : Option A = None in none) ≡ Some a → ⊥
None-is-not-Some e = cc

equal-is : {B : Type 0} (compare : B → B → Ordering) → CmpEqualImpliesEq compare → (b c : B) → is_eq (compare b c) ≡ true → b ≡ c
equal-is compare exact b c e = exact b c ((Equal-is (compare b c)).0 e)

kept : {K A : Type 0} (eq : K → K → Bool) (test : K → Bool) (old new : List (K × A)) → KeepsOthers eq test old new → (other : K → Bool)
    → IsKeyTest eq other → AreApart test other → lookup other new ≡ lookup other old
unfolding KeepsOthers
kept eq test old new h = h

-- In this module, `view` returns the question that a key of a map stands for.
module _ {K Q A : Type 0} (view : K → Q) (compare : Q → Q → Ordering) (exact : CmpEqualImpliesEq compare) where
  abbrev pub get_at : BTreeMap K A → Q → Option A
  get_at m question = get_by (λ k. compare question (view k)) m

  -- an update at a question leaves the answers to all other questions as they were
  pub changes : (m n : BTreeMap K A) (b : Q) (w : Option A) → UpdatesBy (λ x y. compare (view x) (view y)) (λ k. compare b (view k)) m n w
      → (c : Q) → ((c ≡ b) × (get_at n c ≡ w)) ⊎ (get_at n c ≡ get_at m c)
  changes m n b w updates c =
      elim (cases_Bool (is_eq (compare c b))) [
        | inl e ↦ inl (equal-is compare exact c b e, subst (λ d. get_at n d ≡ w) (sym (equal-is compare exact c b e)) updates.1)
        | inr differs ↦ inr (kept (eq_by_cmp (λ x y. compare (view x) (view y))) (λ k. is_eq (compare b (view k))) m.entries n.entries updates.3
            (λ k. is_eq (compare c (view k)))
            (λ x y e. ap (λ d. is_eq (compare d (view y))) (equal-is compare exact c (view x) e))
            (λ k e. ap (λ d. is_eq (compare c d)) (sym (equal-is compare exact b (view k) e)) ∙ differs))
      ]

-- In this module, `new` has the answer `answer` to the question `at`, and the answers of `old` to all other questions.
module _ {Q A : Type 0} (old new : Q → Option A) (at : Q) (answer : A) (changed : (c : Q) → ((c ≡ at) × (new c ≡ Some answer)) ⊎ (new c ≡ old c)) where
  pub extends : old at ≡ None → Extends old new
  extends none c a had =
      elim (changed c) [
        | inl here ↦ absurd (None-is-not-Some (sym none ∙ ap old (sym here.0) ∙ had))
        | inr stays ↦ stays ∙ had
      ]

  pub adds : Adds old new at answer
  adds c a has =
      elim (changed c) [ inl here ↦ inr (here.0, some-is (sym has ∙ here.1)) | inr stays ↦ inl (sym stays ∙ has) ]

-- what is true of each answer in `old`, and of the one that was added, is true of each answer in `new`
pub still : {Q A : Type 0} (old new : Q → Option A) (P : Q → A → Type 0) (added : Q) (with : A) → Adds old new added with
    → ((question : Q) (answer : A) → old question ≡ Some answer → P question answer) → P added with
    → (question : Q) (answer : A) → new question ≡ Some answer → P question answer
still old new P added with adds before now question answer has =
    elim (adds question answer has) [
      | inl had ↦ before question answer had
      | inr same ↦ subst (λ q. P q answer) (sym same.0) (subst (P added) (sym same.1) now)
    ]
