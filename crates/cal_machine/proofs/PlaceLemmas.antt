-- Lemmas on paths, and on the walk along one.
use Rattle.std.proofs.Common.{◌≡◌, ◌≢◌, ◌+◌, ◌-◌, ◌<◌, ◌++◌, ◌∷◌, ℕ, zero, suc, List, [], None, Some, Result, Ok, Err, ap, arith, drop, get_or, length, refl, sym, ◌∙◌, take, inl, inr}
use Rattle.std.specs.Path.{rfind_below}
use Rattle.std.proofs.lemmas.Bool.Decides.{eqb_tells}
use Rattle.cal_machine.specs.declared.follow.Last.{Last}
use Rattle.cal_machine.specs.declared.tree.TreeFault as faults
use Rattle.cal_machine.specs.declared.tree.Unreadable.{Unreadable}
use Rattle.cal_machine.specs.declared.tree.Unreadable.TheVariants.{Failed}
use Rattle.cal_machine.specs.rules.Machine.{Machine, Tells}
use Rattle.cal_machine.specs.rules.Machine.Entry.{Folder}
use Rattle.cal_machine.specs.rules.Places.{Step, after_step, shown_place, shown_step, step, walk}

-- ## The last slash

pub none_below : (c : ℕ) (text : List ℕ) (n : ℕ) → ((i : ℕ) → i < n → get_or text i 0 ≢ c) → rfind_below c text n ≡ None
none_below c text zero lacks = refl
none_below c text (suc n) lacks =
    elim (eqb_tells (get_or text n 0) c) [
      | inl same ↦ absurd (lacks n (omega arith) same.1)
      | inr other ↦ rw (other.0) (none_below c text n (λ i less. lacks i (omega arith)))
    ]

pub last_below : (c : ℕ) (text : List ℕ) (n k : ℕ) → k < n → get_or text k 0 ≡ c → ((i : ℕ) → k < i → i < n → get_or text i 0 ≢ c)
    → rfind_below c text n ≡ Some k
last_below c text zero k within is after = absurd (omega arith)
last_below c text (suc n) k within is after =
    elim (eqb_tells (get_or text n 0) c) [
      | inl same ↦
          elim (eqb_tells n k) [
            | inl last ↦ rw (same.0) (ap Some last.1)
            | inr more ↦
                let differs : n ≢ k = more.1 in
                absurd (after n (omega arith) (omega arith) same.1)
          ]
      | inr other ↦
          elim (eqb_tells n k) [
            | inl last ↦ absurd (other.1 (ap (λ i. get_or text i 0) last.1 ∙ is))
            | inr more ↦
                let differs : n ≢ k = more.1 in
                rw (other.0) (last_below c text n k (omega arith) is (λ i above below. after i above (omega arith)))
          ]
    ]

-- ## The first part

pub first_and_rest : {X : Type 0} (xs rest : List X) (x : X) → 0 < length xs → x ≡ get_or xs 0 x → rest ≡ take 0 xs ++ drop (0 + 1) xs → xs ≡ x ∷ rest
first_and_rest [] rest x some first others = absurd (omega arith)
first_and_rest (y ∷ ys) rest x some first others = rw (first, others) refl

-- ## The walk

pub walk_end : (machine : Machine) (last : Last) (count : ℕ) (folder : List ℕ) (parts : List (List ℕ)) → parts ≡ []
    → walk machine last count folder parts ≡ Ok (record { path = folder; entry = Folder })
unfolding walk
walk_end machine last zero folder parts none = rw none refl
walk_end machine last (suc count) folder parts none = rw none refl

pub walk_none : (machine : Machine) (last : Last) (count : ℕ) (folder : List ℕ) (parts : List (List ℕ)) (part : List ℕ) (rest : List (List ℕ))
    → count ≡ 0 → parts ≡ part ∷ rest → walk machine last count folder parts ≡ Err Failed
unfolding walk
walk_none machine last count folder parts part rest no_more some = rw (no_more, some) refl

pub walk_step : (machine : Machine) (last : Last) (count less : ℕ) (folder : List ℕ) (parts : List (List ℕ)) (part : List ℕ) (rest : List (List ℕ))
    → count ≡ suc less → parts ≡ part ∷ rest
    → walk machine last count folder parts ≡ after_step (walk machine last less) (step machine last folder part rest)
unfolding walk
walk_step machine last count less folder parts part rest more some = rw (more, some) refl

-- ## What a call returned

-- Suppose that `other` is the same error as `answer` if `answer` is an error. If a failed call agrees with `answer`
-- (`Tells`), then it also agrees with `other`.
pub tells_err : {X Y A B : Type 0} (view : X → Y) (seen : A → B) (fault : faults.TreeFault) (answer : Result Y Unreadable) (other : Result B Unreadable)
    → Tells view (Err fault) answer → ((why : Unreadable) → answer ≡ Err why → other ≡ Err why) → Tells seen (Err fault) other
tells_err view seen (faults.TheVariants.Unreadable why) answer other said same = same why said
tells_err view seen faults.TheVariants.NoMemory answer other said same = tt

-- ## The walk after a step to the first part, which is `text`

module _ (machine : Machine) (last : Last) (count : ℕ) (folder : List ℕ) (parts : List (List ℕ)) (part text : List ℕ) (rest : List (List ℕ))
    (more : 0 < count) (some : parts ≡ part ∷ rest) (same : text ≡ part) where
  pub walk_on : (known : Result Step Unreadable) → step machine last folder text rest ≡ known
      → walk machine last count folder parts ≡ after_step (walk machine last (count - 1)) known
  walk_on known is =
      walk_step machine last count (count - 1) folder parts part rest (omega arith) some
      ∙ ap (λ part. after_step (walk machine last (count - 1)) (step machine last folder part rest)) (sym same) ∙ ap (after_step (walk machine last (count - 1))) is

  -- an error in the step ends the walk
  pub walk_err : (fault : faults.TreeFault) → Tells shown_step (Err fault) (step machine last folder text rest)
      → Tells shown_place (Err fault) (walk machine last count folder parts)
  walk_err fault = λ said. tells_err shown_step shown_place fault (step machine last folder text rest) (walk machine last count folder parts) said (λ why. walk_on (Err why))
