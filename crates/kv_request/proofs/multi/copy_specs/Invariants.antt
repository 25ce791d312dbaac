use Rattle.std.proofs.Common.{◌≡◌, ◌++◌, length}
use Rattle.kv_request.specs.Viewing.{AreSpecs, specs_at}
use Rattle.kv_request.proofs.multi.copy_specs.Given as goal

-- the specs so far and those that follow are all
abbrev pub invariant-loop-spec : goal.invariant-loop-spec
invariant-loop-spec l = record {
  are : AreSpecs l.edits l.rest;
  all : l.specs ++ specs_at l.edits l.rest ≡ specs_at l.edits l.bytes;
}

abbrev pub decreases-loop-spec : goal.decreases-loop-spec
decreases-loop-spec l = length l.rest
