use Rattle.std.specs.Int.{w32, to_be_bytes}
use Rattle.std.proofs.Common.{Bor, ◌≡◌, ◌+◌, ◌-◌, ◌++◌, length, take, map as list_map, sym, ap, ap₂, ◌∙◌, subst, take_all, arith}
use Rattle.std.proofs.lemmas.List.{length-append, length-map}
use Rattle.doc_model.specs.declared.document.Item.{Item}
use Rattle.vb_log.specs.Stored.{IsStorable}
use Rattle.magma_store.specs.Spots.{placed}
use Rattle.magma_store.proofs.StoredItems.{flat}
use Rattle.magma_store.proofs.Written.{lent_at, lent_push, bytes_step, places_step}
use Rattle.magma_store.proofs.spelling.add_items.Goals as goal

pub add_item-requires-clause-allowed : goal.add_item-requires-clause-allowed
add_item-requires-clause-allowed c =
    subst (λ (i : Bor Item). IsStorable i.now) (sym c.item-item.is) (lent_at c.args.items.now c.loop-item.item-index c.item-item.result c.requires.allowed c.loop-item-test.true)

pub add_item-requires-clause-begun : goal.add_item-requires-clause-begun
add_item-requires-clause-begun c =
    let begun = c.requires.begun in
    omega (arith, ap length c.loop-item.invariant.bytes, length-append c.args.piece.now.items (to_be_bytes w32 (length c.args.items.now) ++ flat (list_map (λ i. i.now) (take c.loop-item.item-index c.args.items.now))))

pub loop-item-init : goal.loop-item-init
loop-item-init c = record {
  bytes = c.in_ok-extend_from_slice.ensures.items ∙ ap (λ l. c.args.piece.now.items ++ l) c.to_be_bytes.ensures;
  places = c.new-places.ensures;
}

pub loop-item-preserved : goal.loop-item-preserved
loop-item-preserved c =
    let lent = c.args.items.now in
    let old = c.args.piece.now.items in
    let item = c.item-item.result in
    let before = list_map (λ (i : Bor Item). i.now) (take c.loop-item.item-index lent) in
    let so = c.loop-item.invariant in
    let one = sym (lent_push lent c.loop-item.item-index item c.loop-item-test.true c.item-item.is) in
    record {
      bytes = bytes_step old (to_be_bytes w32 (length lent)) before item.now c.loop-item.piece.items c.add_item.new.piece.items so.bytes c.in_ok-place.ensures.bytes
          ∙ ap (λ l. old ++ (to_be_bytes w32 (length lent) ++ flat l)) one;
      places = places_step old (length lent) c.args.at before item.now c.loop-item.piece.items c.loop-item.places c.in_ok-place.place c.push.new.self c.requires.begun so.bytes so.places c.in_ok-place.ensures.place c.in_ok-push.ensures.ok
          ∙ ap (λ l. placed (c.args.at + (length old - 4)) l) one;
    }

pub returns-clause-bytes : goal.returns-clause-bytes
returns-clause-bytes c =
    let lent = c.args.items.now in
    let all : take c.loop-item.item-index lent ≡ lent = take_all c.loop-item.item-index lent (omega arith) in
    c.loop-item.invariant.bytes
    ∙ ap₂ (λ n l. c.args.piece.now.items ++ (to_be_bytes w32 n ++ flat l)) (sym (length-map lent (λ i. i.now))) (ap (list_map (λ (i : Bor Item). i.now)) all)

pub returns-clause-places : goal.returns-clause-places
returns-clause-places c =
    let lent = c.args.items.now in
    let all : take c.loop-item.item-index lent ≡ lent = take_all c.loop-item.item-index lent (omega arith) in
    c.loop-item.invariant.places ∙ ap (λ l. placed (c.args.at + (length c.args.piece.now.items - 4)) (list_map (λ (i : Bor Item). i.now) l)) all
