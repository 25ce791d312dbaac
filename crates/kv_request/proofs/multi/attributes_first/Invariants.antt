use Rattle.std.proofs.Common.{◌≡◌, length, cond, not}
use Rattle.std.specs.List.{list_any}
use Rattle.kv_request.specs.Parts.{is_attribute}
use Rattle.kv_request.specs.Multi.{attributes_first}
use Rattle.kv_request.specs.Viewing.{AreSpecs, specs_at}
use Rattle.kv_request.proofs.multi.attributes_first.Given as goal

-- it depends on the specs that follow: behind one on the value none may be on an attribute
abbrev pub invariant-loop-spec : goal.invariant-loop-spec
invariant-loop-spec l = record {
  are : AreSpecs l.edits l.rest;
  same : cond l.on_value (not (list_any is_attribute (specs_at l.edits l.rest))) (attributes_first (specs_at l.edits l.rest)) ≡ attributes_first (specs_at l.edits l.bytes);
}

abbrev pub decreases-loop-spec : goal.decreases-loop-spec
decreases-loop-spec l = length l.rest
