use Rattle.std.specs.Prelude.{not}
use Rattle.std.proofs.Common.{◌∙◌, ap, subst, sym}
use Rattle.std.specs.FinMap as map
use Rattle.std.specs.Result.{is_ok}
use Rattle.doc_model.specs.Keys.{is_in}
use Rattle.manifest_rules.specs.Applying.{text_step}
use Rattle.vb_log.specs.declared.entry.Entry.TheVariants as entries
use Rattle.vb_log.specs.Adding.{HasRoom}
use Rattle.vb_log.specs.Content.{with_entry}
use Rattle.vb_log.proofs.Holding.{same_without, manifest_is, manifest_held}
use Rattle.vb_log.proofs.adding.add_manifest.Goals as goal

pub invariant_of-content-2 : goal.invariant_of-content-2
invariant_of-content-2 c =
    let old = c.content.inside in
    let text = c.args.text.now in
    let e = ap (text_step old.manifest) (sym c.as_slice.ensures) ∙ c.in-Ok.ensures.step in
    manifest_held (record { items = old.items; prepares = old.prepares; manifest = old.manifest; greatest_cas = old.greatest_cas; length = old.length }) text
    (record { after = c.apply_text.new.old; dropped = c.in-Ok.dropped.collections; changed = c.in-Ok.dropped.changed }) c.remove_collections.new.self c.content.invariant
    (subst (λ d. HasRoom (is_ok (text_step d.manifest text)) d (with_entry d (entries.Manifest text))) (sym c.content.view_is) c.requires)
    e (c.apply_text.ensures.kept c.content.invariant.kept)
    (c.remove_collections.ensures ∙ ap (λ l. map.retain_keys old.items (λ key. not (is_in l key))) c.as_slice-2.ensures.value
    ∙ same_without old.items c.rising-ids.result.items c.in-Ok.dropped.collections c.rising-ids.ensures.same)

pub returns : goal.returns
returns c =
    let old = c.content.inside in
    let text = c.args.text.now in
    let e = ap (text_step old.manifest) (sym c.as_slice.ensures) ∙ c.in-Ok.ensures.step in (
      ap (λ d. is_ok (text_step d.manifest text)) (sym c.content.view_is) ∙ ap is_ok e,
      manifest_is (record { items = old.items; prepares = old.prepares; manifest = old.manifest; greatest_cas = old.greatest_cas; length = old.length }) text
          (record { after = c.apply_text.new.old; dropped = c.in-Ok.dropped.collections; changed = c.in-Ok.dropped.changed }) c.remove_collections.new.self e
          (c.remove_collections.ensures ∙ ap (λ l. map.retain_keys old.items (λ key. not (is_in l key))) c.as_slice-2.ensures.value
          ∙ same_without old.items c.rising-ids.result.items c.in-Ok.dropped.collections c.rising-ids.ensures.same)
          ∙ ap (λ d. with_entry d (entries.Manifest text)) c.content.view_is,
    )
