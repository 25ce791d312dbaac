use Rattle.std.proofs.Common.{List, ℕ, ◌∙◌, ap}
use Rattle.magma_store.specs.declared.meta.Meta.{Meta}
use Rattle.magma_store.specs.Held.{with_numbers}
use Rattle.magma_store.specs.Spots.{with_spots}
use Rattle.magma_store.specs.Taking.{spots_left}
use Rattle.magma_store.proofs.Takings.{sets_taken, writes_taken, Places}
use Rattle.magma_store.proofs.loading.changed.Goals as goal
use Rattle.magma_store.proofs.loading.changed.Goals.{in-Sets, in-Writes+in_ok-take_places-in-Writes+in_ok-meta-in-Writes}

pub returns-clause-taken : goal.returns-clause-taken
returns-clause-taken c = elim c.match-branch-2.branch [
  | in-Sets w ↦ sets_taken _ _ c.in_ok-numbers.field-0 w.in-Sets.numbers _ _ _ _ w.in-Sets.is c.in_ok-numbers.ensures.found w.spots-is (w.meta-is ∙ w.set_numbers.ensures)
  | in-Writes+in_ok-take_places-in-Writes+in_ok-meta-in-Writes w ↦
      let put = w.in_ok-take_places-in-Writes.ensures in
      let p : Places w.in-Writes.tail.now w.in-Writes.is_anew w.in-Writes.places c.args.spots.now c.match-branch-2.spots =
      record { dropped = put.0; drops = put.1; is = w.spots-is ∙ put.2 ∙ ap (with_spots (spots_left w.in-Writes.is_anew put.0 c.args.spots.now)) w.as_slice.ensures } in
      writes_taken _ _ c.in_ok-numbers.field-0 w.in-Writes.is_anew w.in-Writes.numbers w.in-Writes.tail w.in-Writes.places _ _ _ _ w.in-Writes.is c.in_ok-numbers.ensures.found p
      (w.meta-is ∙ ap (λ (m : Meta). record m { tail = w.in_ok-meta-in-Writes.field-0 }) w.set_numbers-in-Writes.ensures ∙ ap (λ (l : List ℕ). with_numbers w.in-Writes.numbers l c.args.meta) w.in_ok-meta-in-Writes.ensures)
]
