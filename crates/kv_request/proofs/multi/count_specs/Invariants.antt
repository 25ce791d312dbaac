use Rattle.std.proofs.Common.{◌≡◌, ◌≤◌, ◌+◌, length}
use Rattle.std.specs.Prelude.{option_map}
use Rattle.kv_request.specs.Multi.{specs_in}
use Rattle.kv_request.proofs.multi.count_specs.Given as goal

-- each spec has a byte at least, and the specs so far and those that follow are all
abbrev pub invariant-loop-behind : goal.invariant-loop-behind
invariant-loop-behind l = record {
  within : l.count + length l.rest ≤ length l.bytes;
  all : option_map (λ specs. l.count + length specs) (specs_in l.edits l.rest) ≡ option_map length (specs_in l.edits l.bytes);
}

abbrev pub decreases-loop-behind : goal.decreases-loop-behind
decreases-loop-behind l = length l.rest
