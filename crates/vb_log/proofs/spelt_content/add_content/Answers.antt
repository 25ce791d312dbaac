use Rattle.std.proofs.Common.{◌≡◌, ◌++◌, map as list_map, sym, ap, ◌∙◌, subst}
use Rattle.std.specs.FinMap as map
use Rattle.manifest_rules.specs.State.{state_of}
use Rattle.vb_log.specs.Contents.{bounds_of}
use Rattle.vb_log.specs.Held.{StandAtKeys}
use Rattle.vb_log.specs.Prepares.{IsAllowedPending, pending_bytes}
use Rattle.vb_log.proofs.ContentBytes.{bounds_within, widened, lent_few, lent_allowed, content_written}
use Rattle.vb_log.proofs.spelt_content.add_content.Goals as goal

pub add_items-requires-clause-few : goal.add_items-requires-clause-few
add_items-requires-clause-few c =
    let m = c.args.content.now in
    let own : StandAtKeys c.content.inside.items = subst (λ k. StandAtKeys k.items) (sym c.content.view_is) c.requires.own in
    let values : list_map (λ i. i.now) c.in_ok-items.items.items ≡ map.values m.items = c.in_ok-items.ensures c.content.inside.items c.values.ensures.values own ∙ ap (λ k. map.values k.items) c.content.view_is in
    lent_few m c.as_slice.result.now c.requires (ap (list_map (λ i. i.now)) c.as_slice.ensures.value ∙ values)

pub add_items-requires-clause-allowed : goal.add_items-requires-clause-allowed
add_items-requires-clause-allowed c =
    let m = c.args.content.now in
    let own : StandAtKeys c.content.inside.items = subst (λ k. StandAtKeys k.items) (sym c.content.view_is) c.requires.own in
    let values : list_map (λ i. i.now) c.in_ok-items.items.items ≡ map.values m.items = c.in_ok-items.ensures c.content.inside.items c.values.ensures.values own ∙ ap (λ k. map.values k.items) c.content.view_is in
    lent_allowed m c.as_slice.result.now c.requires (ap (list_map (λ i. i.now)) c.as_slice.ensures.value ∙ values)

pub add_pending-requires : goal.add_pending-requires
add_pending-requires c =
    let m = c.args.content.now in
    subst IsAllowedPending (sym c.prepares.ensures.value) (widened (bounds_of m) m.prepares (bounds_within m c.requires) c.requires.prepares)

pub returns : goal.returns
returns c =
    let m = c.args.content.now in
    let own : StandAtKeys c.content.inside.items = subst (λ k. StandAtKeys k.items) (sym c.content.view_is) c.requires.own in
    let values : list_map (λ i. i.now) c.in_ok-items.items.items ≡ map.values m.items = c.in_ok-items.ensures c.content.inside.items c.values.ensures.values own ∙ ap (λ k. map.values k.items) c.content.view_is in
    content_written m (list_map (λ i. i.now) c.as_slice.result.now) c.args.out.now.items c.extend_from_slice.new.self.items c.extend_from_slice-2.new.self.items c.state_into.new.out.items c.add_items.new.out.items c.add_pending.new.out.items
    (ap (list_map (λ i. i.now)) c.as_slice.ensures.value ∙ values)
    (c.in_ok-extend_from_slice.ensures.items ∙ ap (λ l. c.args.out.now.items ++ l) (cc))
    (c.in_ok-extend_from_slice-2.ensures.items ∙ ap (λ l. c.extend_from_slice.new.self.items ++ l) (cc))
    (c.in_ok-state_into.ensures.ok ∙ ap (λ k. c.extend_from_slice-2.new.self.items ++ state_of k) c.manifest.ensures.value)
    c.in_ok-add_items.ensures
    (c.in_ok-add_pending.ensures ∙ ap (λ k. c.add_items.new.out.items ++ pending_bytes k) c.prepares.ensures.value)
