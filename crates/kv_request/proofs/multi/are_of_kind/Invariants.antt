use Rattle.std.proofs.Common.{◌≡◌, length}
use Rattle.std.specs.List.{list_all}
use Rattle.kv_request.specs.Multi.{is_of_kind}
use Rattle.kv_request.specs.Viewing.{AreSpecs, specs_at}
use Rattle.kv_request.proofs.multi.are_of_kind.Given as goal

-- it depends on the specs that follow
abbrev pub invariant-loop-spec : goal.invariant-loop-spec
invariant-loop-spec l = record {
  are : AreSpecs l.edits l.rest;
  same : list_all (is_of_kind l.edits) (specs_at l.edits l.rest) ≡ list_all (is_of_kind l.edits) (specs_at l.edits l.bytes);
}

abbrev pub decreases-loop-spec : goal.decreases-loop-spec
decreases-loop-spec l = length l.rest
