use Rattle.std.proofs.Common.{IfSome, IsTrue}
use Rattle.cal_lint.specs.rules.Hints.{is_of_word}
use Rattle.cal_lint.proofs.hint_words.rewrite_words.Given as goal

-- the mistake found so far, if there is one, concerns a word and not the whole text
abbrev pub invariant-loop-word : goal.invariant-loop-word
invariant-loop-word l = IfSome l.mistake (λ mistake. IsTrue (is_of_word mistake))
