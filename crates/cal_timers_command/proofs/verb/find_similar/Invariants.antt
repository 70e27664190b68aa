-- No verb so far is similar to the word, so searching the remaining verbs has the same result as searching all verbs.
use Rattle.std.proofs.Common.{◌≡◌, drop, find}
use Rattle.cal_timers_command.specs.rules.Verbs.{is_similar}
use Rattle.cal_timers_command.proofs.verb.find_similar.Given as goal

abbrev pub invariant-loop-verb : goal.invariant-loop-verb
invariant-loop-verb l = find (is_similar l.word) (drop l.verb-index l.verbs) ≡ find (is_similar l.word) l.verbs
