use Rattle.std.proofs.Common.{◌≡◌, map, take}
use Rattle.kv_script.specs.Reading.{texts, place_of}
use Rattle.kv_script.proofs.chains.places_at.Given as goal

-- the places so far are those of the words so far
abbrev pub invariant-loop-word : goal.invariant-loop-word
invariant-loop-word l = l.places ≡ take l.word-index (map place_of (texts l.words))
