use Rattle.manifest_rules.proofs.Hex.{Seen}
use Rattle.manifest_rules.proofs.reading.hex_number.Given as goal

abbrev pub invariant-loop-byte : goal.invariant-loop-byte
invariant-loop-byte l = Seen l.text l.byte-index l.number
