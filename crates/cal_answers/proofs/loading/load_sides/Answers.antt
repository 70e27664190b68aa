use Rattle.cal_answers.proofs.loading.load_sides.Goals as goal

pub returns-clause-known : goal.returns-clause-known
returns-clause-known g c = λ machine search_path shows is. (
  c.in_ok-first.ensures.known machine search_path (c.in_ok-second.ensures.grows machine shows) is,
  c.in_ok-second.ensures.known machine search_path shows is,
)
