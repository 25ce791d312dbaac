use Rattle.std.proofs.Common.{◌≡◌, ◌<◌, ◌+◌, ◌^◌, not, refl, sym, ap, ap₂, ◌∙◌, subst, arith}
use Rattle.std.specs.FinMap as map
use Rattle.doc_model.specs.Keys.{is_in}
use Rattle.manifest_rules.specs.Catalog.{collection_ids}
use Rattle.manifest_rules.specs.Ids.{SameIds}
use Rattle.manifest_rules.specs.Rules.{lost}
use Rattle.vb_log.specs.Content.{Content}
use Rattle.vb_log.specs.Held.{items_size, waiting_size, IsHeld}
use Rattle.vb_log.specs.Joining.{part_size, with_all}
use Rattle.vb_log.specs.Parts.{Difference, joined}
use Rattle.vb_log.specs.Sizes.{size}
use Rattle.vb_log.specs.Wholes.{by_keys, listed_size}
use Rattle.vb_log.proofs.Joined.{room_for, joined_held, joined_made}
use Rattle.vb_log.proofs.joining.join.Goals as goal
use Rattle.vb_log.proofs.joining.join.Goals.{After-drop-lost-2}

pub set_all-requires : goal.set_all-requires
set_all-requires c =
    let old = c.content.inside in
    let part = c.part.inside in
    let before : Content = record { items = old.items; prepares = old.prepares; manifest = old.manifest; greatest_cas = old.greatest_cas; length = old.length } in
    let added : Difference = record { from = part.from; end = part.end; items = map.from_entries (by_keys part.items.items); prepares = part.prepares; manifest = part.manifest; greatest_cas = part.greatest_cas } in
    let room = subst (λ (k : Content). size k + part_size added < 2 ^ 64) (sym c.content.view_is) (subst (λ (d : Difference). size c.args.content.now + part_size d < 2 ^ 64) (sym c.part.view_is) c.requires.room) in
    let all = room_for before added part.items.items c.part.invariant refl room in
    omega arith

-- the content, as it was
abbrev before : After-drop-lost-2 → Content
before c = let old = c.content.inside in record { items = old.items; prepares = old.prepares; manifest = old.manifest; greatest_cas = old.greatest_cas; length = old.length }

-- the part
abbrev added : After-drop-lost-2 → Difference
added c = let p = c.part.inside in record { from = p.from; end = p.end; items = map.from_entries (by_keys p.items.items); prepares = p.prepares; manifest = p.manifest; greatest_cas = p.greatest_cas }

-- there is room for all
room : (c : After-drop-lost-2) → items_size c.content.inside.items + listed_size c.part.inside.items.items + waiting_size c.part.inside.prepares < 2 ^ 64
room c =
    room_for (before c) (added c) c.part.inside.items.items c.part.invariant refl
    (subst (λ (k : Content). size k + part_size (added c) < 2 ^ 64) (sym c.content.view_is) (subst (λ (d : Difference). size c.args.content.now + part_size d < 2 ^ 64) (sym c.part.view_is) c.requires.room))

-- the collections that are lost
same : (c : After-drop-lost-2) → SameIds c.rising-lost.result.items (lost (collection_ids c.content.inside.manifest.scopes) (collection_ids c.part.inside.manifest.scopes))
same c = subst (SameIds c.rising-lost.result.items) c.in_ok-lost_collections.ensures c.rising-lost.ensures.same

-- the items, as they are then
left : (c : After-drop-lost-2) → c.remove_collections.new.self ≡ map.retain_keys (with_all c.content.inside.items (by_keys c.part.inside.items.items)) (λ key. not (is_in c.rising-lost.result.items key))
left c =
    c.remove_collections.ensures
    ∙ ap (λ l. map.retain_keys c.set_all.new.items (λ key. not (is_in l key))) c.as_slice.ensures.value
    ∙ ap (λ m. map.retain_keys m (λ key. not (is_in c.rising-lost.result.items key))) c.in_ok-set_all.ensures.ok

pub invariant_of-content-2 : goal.invariant_of-content-2
invariant_of-content-2 c =
    subst IsHeld (sym (joined_made (before c) (added c) c.part.inside.items.items c.rising-lost.result.items c.remove_collections.new.self c.content.invariant c.part.invariant refl (same c) (left c)))
    (joined_held (before c) (added c) c.part.inside.items.items c.rising-lost.result.items c.content.invariant c.part.invariant refl (same c) (room c))

pub returns-clause-ok : goal.returns-clause-ok
returns-clause-ok c =
    joined_made (before c) (added c) c.part.inside.items.items c.rising-lost.result.items c.remove_collections.new.self c.content.invariant c.part.invariant refl (same c) (left c)
    ∙ ap₂ joined c.content.view_is c.part.view_is
