use Rattle.std.proofs.Common.{◌≡◌, ◌∙◌, ℕ, true, false, List, Option, Some, None, refl, sym, ap, drop, Bor}
use Rattle.std.specs.Prelude.{MatchOption, nat_eq}
use Rattle.std.specs.List.{starts_with}
use Rattle.std.specs.Option.{option_map}
use Rattle.std.specs.Str.{IsCharBoundary}
use Rattle.std.specs.Str.Pattern.{FindsTextPrefix, StripsPrefix}
use Rattle.std.proofs.lemmas.Str.Pattern.{starts_text}
use Rattle.cal_machine.specs.rules.Prefix.{after_prefix}
use Rattle.cal_machine.proofs.prefix.after_prefix.Goals as goal

after_is : (prefix text : List ℕ) (r : Option (Bor (List ℕ)))
    → MatchOption r (FindsTextPrefix prefix text None) (λ x. StripsPrefix (FindsTextPrefix prefix) text x.now)
    → option_map (λ rest. rest.now) r ≡ after_prefix prefix text
unfolding after_prefix
after_is prefix text None h =
    let lacks : false ≡ starts_with nat_eq text prefix = starts_text false prefix text h in
    rw (sym lacks) refl
after_is prefix text (Some x) h =
    let cut : IsCharBoundary text h.0 = rw (h.1.0) h.1.2 in
    let begins : true ≡ starts_with nat_eq text prefix = starts_text true prefix text (h.0, h.1, cut) in
    rw (sym begins) (ap Some (h.2 ∙ ap (λ n. drop n text) h.1.0))

pub returns : goal.returns
returns c = after_is c.args.prefix.now c.args.text.now c.strip_prefix.result c.strip_prefix.ensures.cases
