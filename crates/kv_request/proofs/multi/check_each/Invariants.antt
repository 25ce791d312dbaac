use Rattle.std.proofs.Common.{◌≡◌, length}
use Rattle.std.specs.List.{flat_map}
use Rattle.kv_request.specs.Multi.{own_checks}
use Rattle.kv_request.specs.Tables.{first_failing}
use Rattle.kv_request.specs.Viewing.{AreSpecs, specs_at}
use Rattle.kv_request.proofs.multi.check_each.Given as goal

-- it depends on the specs that follow
abbrev pub invariant-loop-spec : goal.invariant-loop-spec
invariant-loop-spec l = record {
  are : AreSpecs l.edits l.rest;
  same : first_failing (flat_map own_checks (specs_at l.edits l.rest)) ≡ first_failing (flat_map own_checks (specs_at l.edits l.bytes));
}

abbrev pub decreases-loop-spec : goal.decreases-loop-spec
decreases-loop-spec l = length l.rest
