-- Parsers that run one after the other: if all of them together succeed, each of them succeeds.
use Rattle.std.proofs.Common.{◌≡◌, ◌⊎◌, inl, inr, Bool, true, false, cond, Option, Some, None, Ok, Err, refl, ap}
use Rattle.std.specs.Prelude.{Result}
use Rattle.cal_bytes.specs.rules.AndThen.{◌>>=◌}
use Rattle.cal_spec.specs.computed.Reads.{unless}
use Rattle.cal_spec.specs.declared.spec_fault.SpecFault.{SpecFault}

-- the first of two parsers returns some value, and for this value the second returns `y`
pub record Follows {A B E : Type 0} (r : Result A E) (f : A → Result B E) (y : B) : Type 0 where
  pub value : A
  pub first : r ≡ Ok value
  pub next : f value ≡ Ok y

pub bind_ok : {A B E : Type 0} (r : Result A E) (f : A → Result B E) (y : B) → (r >>= f) ≡ Ok y → Follows r f y
bind_ok (Ok x) f y at = record { value = x; first = refl; next = at }
bind_ok (Err e) f y at = cc

-- the first of two parsers fails, or it returns some value, for which the second fails
pub record Fails {A B E : Type 0} (r : Result A E) (f : A → Result B E) (e : E) : Type 0 where
  pub value : A
  pub first : r ≡ Ok value
  pub next : f value ≡ Err e

pub bind_err : {A B E : Type 0} (r : Result A E) (f : A → Result B E) (e : E) → (r >>= f) ≡ Err e → (r ≡ Err e) ⊎ Fails r f e
bind_err (Ok x) f e at = inr (record { value = x; first = refl; next = at })
bind_err (Err d) f e at = let same : d ≡ e = cc in inl (ap Err same)

pub unless_err : {A : Type 0} (o : Option SpecFault) (x : A) (e : SpecFault) → unless o x ≡ Err e → o ≡ Some e
unless_err None x e at = cc
unless_err (Some d) x e at = let same : d ≡ e = cc in ap Some same

pub unless_ok : {A : Type 0} (o : Option SpecFault) (x y : A) → unless o x ≡ Ok y → (o ≡ None) × (x ≡ y)
unless_ok None x y at = (refl, cc)
unless_ok (Some e) x y at = cc

pub cond_ok : {A : Type 0} (test : Bool) (e : SpecFault) (r : Result A SpecFault) (y : A) → cond test (Err e) r ≡ Ok y → (test ≡ false) × (r ≡ Ok y)
cond_ok true e r y at = cc
cond_ok false e r y at = (refl, at)

-- ## Three and four parsers that run one after the other

pub record Three {A B C D : Type 0} (r : Result A SpecFault) (g : A → Result B SpecFault) (h : A → B → Result C SpecFault) (k : A → B → C → D) (y : D) : Type 0 where
  pub a : A
  pub b : B
  pub c : C
  pub first : r ≡ Ok a
  pub second : g a ≡ Ok b
  pub third : h a b ≡ Ok c
  pub is : k a b c ≡ y

pub three_ok : {A B C D : Type 0} (r : Result A SpecFault) (g : A → Result B SpecFault) (h : A → B → Result C SpecFault) (k : A → B → C → D) (y : D) → (r >>= λ a. g a >>= λ b. h a b >>= λ c. Ok (k a b c)) ≡ Ok y → Three r g h k y
three_ok r g h k y at =
    let one = bind_ok r (λ a. g a >>= λ b. h a b >>= λ c. Ok (k a b c)) y at in
    let two = bind_ok (g one.value) (λ b. h one.value b >>= λ c. Ok (k one.value b c)) y one.next in
    let three = bind_ok (h one.value two.value) (λ c. Ok (k one.value two.value c)) y two.next in
    record {
      a = one.value;
      b = two.value;
      c = three.value;
      first = one.first;
      second = two.first;
      third = three.first;
      is = let e = three.next in cc;
    }

pub record Four {A B C D E : Type 0} (r : Result A SpecFault) (s : Result B SpecFault) (g : B → Result C SpecFault) (t : Result D SpecFault) (k : A → B → C → D → E) (y : E) : Type 0 where
  pub a : A
  pub b : B
  pub c : C
  pub d : D
  pub first : r ≡ Ok a
  pub second : s ≡ Ok b
  pub third : g b ≡ Ok c
  pub fourth : t ≡ Ok d
  pub is : k a b c d ≡ y

pub four_ok : {A B C D E : Type 0} (r : Result A SpecFault) (s : Result B SpecFault) (g : B → Result C SpecFault) (t : Result D SpecFault) (k : A → B → C → D → E) (y : E) → (r >>= λ a. s >>= λ b. g b >>= λ c. t >>= λ d. Ok (k a b c d)) ≡ Ok y → Four r s g t k y
four_ok r s g t k y at =
    let one = bind_ok r (λ a. s >>= λ b. g b >>= λ c. t >>= λ d. Ok (k a b c d)) y at in
    let rest = three_ok s g (λ b c. t) (λ b c d. k one.value b c d) y one.next in
    record {
      a = one.value;
      b = rest.a;
      c = rest.b;
      d = rest.c;
      first = one.first;
      second = rest.first;
      third = rest.second;
      fourth = rest.third;
      is = rest.is;
    }
