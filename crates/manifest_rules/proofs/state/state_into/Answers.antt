use Rattle.std.proofs.Common.{◌<◌, ◌^◌, ◌++◌, length, sym, ap, ◌∙◌, subst}
use Rattle.manifest_rules.specs.Catalog.{scope_ids, collection_ids}
use Rattle.manifest_rules.specs.State.{text_bytes, ids_bytes}
use Rattle.manifest_rules.proofs.Runs.{kept_parts}
use Rattle.manifest_rules.proofs.States.{kept_sound, sound_short, gone_short, state_whole}
use Rattle.manifest_rules.proofs.state.state_into.Goals as goal

pub add_text-requires : goal.add_text-requires
add_text-requires c = sound_short c.args.manifest.now (kept_sound c.args.manifest.now c.requires)

pub add_ids-requires : goal.add_ids-requires
add_ids-requires c =
    let m = c.args.manifest.now in
    subst (λ l. length l < 2 ^ 32) (sym c.dropped_scopes.ensures.value) (gone_short (scope_ids m.scopes) m.dropped_scopes (kept_parts m c.requires).gone_scopes)

pub add_ids-requires-2 : goal.add_ids-requires-2
add_ids-requires-2 c =
    let m = c.args.manifest.now in
    subst (λ l. length l < 2 ^ 32) (sym c.dropped_collections.ensures.value) (gone_short (collection_ids m.scopes) m.dropped_collections (kept_parts m c.requires).gone_collections)

pub returns-clause-ok : goal.returns-clause-ok
returns-clause-ok c =
    let m = c.args.manifest.now in
    let old = c.args.out.now.items in
    state_whole m old c.add_text.new.out.items c.add_ids.new.out.items c.add_ids-2.new.out.items c.extend_from_slice.new.self.items
    (c.in_ok-add_text.ensures ∙ ap (λ l. l ++ text_bytes m) c.new-state.ensures.items)
    (c.in_ok-add_ids.ensures ∙ ap (λ l. c.add_text.new.out.items ++ ids_bytes l) c.dropped_scopes.ensures.value)
    (c.in_ok-add_ids-2.ensures ∙ ap (λ l. c.add_ids.new.out.items ++ ids_bytes l) c.dropped_collections.ensures.value)
    (c.in_ok-extend_from_slice.ensures.items ∙ ap (λ t. old ++ t) c.as_slice.ensures.value)
