use Rattle.std.specs.List.{AllByRecursion}
use Rattle.std.specs.Prelude.{true}
use Rattle.std.proofs.Common.{rules, ◌≡◌, map as list_map, subst}
use Rattle.std.proofs.lemmas.List.Sorted.{IsNonDecreasingBy-from_sort_by_key}
use Rattle.doc_model.specs.declared.document.Item.{Item}
use Rattle.vb_log.specs.Content.{Content, has_collection}
use Rattle.vb_log.specs.Flushing.{AreByPosition}
use Rattle.vb_log.specs.Held.{StandAtKeys}
use Rattle.vb_log.proofs.Positions.{sorted_positions, present_moved}
use Rattle.vb_log.proofs.flushing.by_position.Goals as goal

pub returns-clause-items : goal.returns-clause-items
returns-clause-items c =
    subst (λ (k : Content). AreByPosition k.items (list_map (λ i. i.now) c.sort_unstable_by_key.new.self.items)) c.content.view_is
    (sorted_positions c.content.inside.items c.in_ok-items.items.items c.sort_unstable_by_key.new.self.items _ c.in_ok-items.ensures c.values.ensures.values c.values.ensures.stand c.sort_unstable_by_key.ensures.permutation
    (IsNonDecreasingBy-from_sort_by_key (λ r. r.now.seqno) c.sort_unstable_by_key.new.self.items c.sort_unstable_by_key.ensures.sorted (λ a r h. search rules)))

pub returns-clause-stand : goal.returns-clause-stand
returns-clause-stand c = subst (λ (k : Content). StandAtKeys k.items) c.content.view_is c.values.ensures.stand

pub returns-in_err-items-clause-stand : goal.returns-in_err-items-clause-stand
returns-in_err-items-clause-stand c = subst (λ (k : Content). StandAtKeys k.items) c.content.view_is c.values.ensures.stand

pub returns-clause-present : goal.returns-clause-present
returns-clause-present c =
    subst (λ (k : Content). AllByRecursion (λ (i : Item). has_collection k.manifest i.key.collection ≡ true) (list_map (λ i. i.now) c.sort_unstable_by_key.new.self.items)) c.content.view_is
    (present_moved c.content.inside.manifest c.content.inside.items (list_map (λ i. i.now) c.sort_unstable_by_key.new.self.items) c.content.invariant.there
    (sorted_positions c.content.inside.items c.in_ok-items.items.items c.sort_unstable_by_key.new.self.items _ c.in_ok-items.ensures c.values.ensures.values c.values.ensures.stand c.sort_unstable_by_key.ensures.permutation
    (IsNonDecreasingBy-from_sort_by_key (λ r. r.now.seqno) c.sort_unstable_by_key.new.self.items c.sort_unstable_by_key.ensures.sorted (λ a r h. search rules))))
