use Rattle.std.proofs.Common.{inl, inr}
use Rattle.cal_answers.proofs.loading.load_side.Goals as goal

pub returns-then-not-is_invalid_entry-clause-known : goal.returns-then-not-is_invalid_entry-clause-known
returns-then-not-is_invalid_entry-clause-known g c = λ machine search_path shows is.
    inl (c.in_ok-loaded.ensures.known machine search_path (c.in_ok-expression-in-Some.ensures.grows machine shows) is)

pub returns-else-is_empty-clause-known : goal.returns-else-is_empty-clause-known
returns-else-is_empty-clause-known g c = λ machine search_path shows is. inr (c.in_ok-expression-in-Some.ensures.known machine shows)

pub returns-in_default-clause-known : goal.returns-in_default-clause-known
returns-in_default-clause-known g c = λ machine search_path shows is. inl (c.in_ok-loaded.ensures.known machine search_path shows is)
