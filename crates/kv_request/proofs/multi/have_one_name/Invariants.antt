use Rattle.std.proofs.Common.{◌≡◌, length}
use Rattle.std.specs.List.{list_all}
use Rattle.std.specs.Str.{bytes_eq}
use Rattle.std.specs.Option.{option_copied, option_map_or}
use Rattle.kv_request.specs.Multi.{names_spelt, are_same}
use Rattle.kv_request.specs.Viewing.{AreSpecs, specs_at}
use Rattle.kv_request.proofs.multi.have_one_name.Given as goal

-- it depends on the names that follow: they are to be the first one, where there was one
abbrev pub invariant-loop-spec : goal.invariant-loop-spec
invariant-loop-spec l = record {
  are : AreSpecs l.edits l.rest;
  same : option_map_or (λ name. list_all (bytes_eq name) (names_spelt (specs_at l.edits l.rest))) (option_copied l.first) (are_same (names_spelt (specs_at l.edits l.rest))) ≡ are_same (names_spelt (specs_at l.edits l.bytes));
}

abbrev pub decreases-loop-spec : goal.decreases-loop-spec
decreases-loop-spec l = length l.rest
