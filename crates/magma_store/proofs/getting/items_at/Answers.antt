use Rattle.std.proofs.Common.{◌∙◌, ◌++◌, ◌∷◌, [], sym, ap, subst, arith}
use Rattle.magma_store.proofs.Counts.{counts_on, counts_fewer}
use Rattle.magma_store.specs.Gotten.{Stands}
use Rattle.magma_store.proofs.Gotten.{stand_next, stand_all}
use Rattle.magma_store.proofs.getting.items_at.Goals as goal

-- src/getting.rt:147:5
pub loop-spot-preserved : goal.loop-spot-preserved
loop-spot-preserved g c = (
  c.add_item.ensures.states ∙ c.loop-spot.invariant.0,
  counts_fewer _ _ (λ (never : ⊥). absurd never) (counts_on _ _ _ c.loop-spot.invariant.1 c.add_item.ensures.counts),
  c.in_ok-add_item.ensures.storable c.loop-spot.invariant.2,
  λ items all.
      let n = stand_next c.args.spots.now items (g.D.Disk.states c.args.disk.now) all c.loop-spot.spot-index (omega arith) (record { seqno = 0; at = 0; length = 0; weight = 0; cas = 0 }) in
      c.in_ok-add_item.ensures.added n.item (subst (Stands _ n.item) (sym c.loop-spot.invariant.0) n.stands)
      ∙ ap (λ l. l ++ n.item ∷ []) (c.loop-spot.invariant.3 items all) ∙ sym n.more,
)

-- src/getting.rt:139:1
pub returns-clause-found : goal.returns-clause-found
returns-clause-found g c = λ items all. c.loop-spot.invariant.3 items all ∙ stand_all c.args.spots.now items (g.D.Disk.states c.args.disk.now) all c.loop-spot.spot-index (omega arith)
