use Rattle.std.proofs.Common.{take}
use Rattle.kv_script.specs.Reading.{AreNumberWords, texts}
use Rattle.kv_script.proofs.promotions.numbers_at.Given as goal

-- the numbers so far are those of the words so far
abbrev pub invariant-loop-word : goal.invariant-loop-word
invariant-loop-word l = AreNumberWords (take l.word-index (texts l.words)) l.numbers.items
