use Rattle.cal_answers.proofs.FoundLemmas.{made_at}
use Rattle.cal_answers.proofs.loading.load_by_verb.Goals as goal

pub returns-in_ok-load_named-in-List-clause-known : goal.returns-in_ok-load_named-in-List-clause-known
returns-in_ok-load_named-in-List-clause-known g c = λ machine search_path shows is. (
  c.in_ok-load_named-in-List.ensures.known machine search_path shows is,
  c.in_ok-entries-in-List.ensures.known machine (c.in_ok-load_named-in-List.ensures.grows machine shows),
)

pub returns-in_ok-load_named-in-Show-clause-known : goal.returns-in_ok-load_named-in-Show-clause-known
returns-in_ok-load_named-in-Show-clause-known g c = c.in_ok-load_named-in-Show.ensures.known

pub returns-in_ok-load_named-in-Between-clause-known : goal.returns-in_ok-load_named-in-Between-clause-known
returns-in_ok-load_named-in-Between-clause-known g c = λ machine search_path shows is. (
  c.in_ok-load_named-in-Between.ensures.known machine search_path shows is,
  c.in_ok-entries-in-Between.ensures.known machine (c.in_ok-load_named-in-Between.ensures.grows machine shows),
)

pub returns-in_ok-first-in-Same-clause-known : goal.returns-in_ok-first-in-Same-clause-known
returns-in_ok-first-in-Same-clause-known g c = c.in_ok-first-in-Same.ensures.known

pub returns-in_ok-timers-in-Next-clause-known : goal.returns-in_ok-timers-in-Next-clause-known
returns-in_ok-timers-in-Next-clause-known g c =
    λ machine search_path shows is. c.in_ok-timers-in-Next.ensures.known machine shows

pub returns-in_ok-timers-in-Next-clause-whole : goal.returns-in_ok-timers-in-Next-clause-whole
returns-in_ok-timers-in-Next-clause-whole g c =
    made_at _ _ _ c.in_ok-timers-in-Next.timers (λ machine is. is.1.0) c.in_ok-timers-in-Next.ensures.outcome
