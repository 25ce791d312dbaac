-- A change that is planned on a document that an entry could have can be made by an entry.
use Rattle.std.specs.Prelude.{◌≡◌, ℕ, ◌^◌, ◌<◌, ◌≤◌, Option, Some, None, Ok}
use Rattle.std.specs.Option.{IfSome}
use Rattle.std.proofs.Common.{arith}
use Rattle.doc_model.specs.declared.document.Doc.{Doc}
use Rattle.doc_model.specs.declared.document.Item.{Item}
use Rattle.doc_model.specs.declared.document.What.{What}
use Rattle.doc_model.specs.declared.document.What.TheVariants as whats
use Rattle.kv_request.specs.declared.request.Request.{Request}
use Rattle.kv_request.specs.Tables.{IsSmallRequest}
use Rattle.doc_step.specs.declared.Change.{Change}
use Rattle.doc_step.specs.declared.Effect.{Effect}
use Rattle.doc_step.specs.declared.Effect.TheVariants as effects
use Rattle.doc_step.specs.Expiry.{Setting}
use Rattle.doc_step.specs.Step.{document_step}
use Rattle.doc_step.specs.Laws.{CarriesDraw, IsSmallDoc, IsSmallEffect, HasSmallInitial}
use Rattle.doc_step.proofs.Small.{step_small}
use Rattle.doc_step.proofs.Drawn.{carries}
use Rattle.vb_log.specs.declared.limits.TheConstants.{GREATEST_CAS}
use Rattle.vb_log.specs.Content.{stored_doc, doc_in}
use Rattle.vb_log.specs.Spelling.{IsAllowedDoc, IsAllowedWhat}
use Rattle.vb_log.specs.Stored.{IsStorable}
use Rattle.vb_core.specs.Making.{CanBeMade, IsPlanned}
use Rattle.vb_core.specs.Plans.{HasRanges}
use Rattle.vb_core.proofs.Sectioned.{HasSection, KeepsEffect, step_keeps}

allowed_small : (doc : Option Doc) → IfSome doc IsAllowedDoc → IfSome doc IsSmallDoc
allowed_small None h = tt
allowed_small (Some doc) h = record {
  value = omega (arith, h.value_short);
  xattrs = omega (arith, h.attributes_short);
  cas = omega
      (arith, h.cas);
}

allowed_sectioned : (doc : Option Doc) → IfSome doc IsAllowedDoc → IfSome doc HasSection
allowed_sectioned None h = tt
allowed_sectioned (Some doc) h = record { section = h.attributes }

doc_made : (doc : Doc) → doc.cas ≤ GREATEST_CAS → IsSmallDoc doc → KeepsEffect (effects.Put doc) → HasRanges (effects.Put doc)
    → IsAllowedDoc doc
doc_made doc cas small kept ranges = record {
  cas = cas;
  flags = ranges.0;
  expiry = ranges.1;
  attributes = kept.section;
  attributes_short = omega (arith, small.xattrs);
  value_short = omega (arith, small.value);
}

effect_made : (cas : ℕ) (change : Change) (effect : Effect) → CarriesDraw cas change effect → IsSmallEffect effect → KeepsEffect effect
    → HasRanges effect → CanBeMade cas effect
effect_made cas change effects.Nothing carries small kept ranges = tt
effect_made cas change (effects.Put doc) carries small kept ranges =
    let same = carries.0 in
    (same, λ low. doc_made doc (omega arith) small kept ranges, kept.unnumbered)
effect_made cas change effects.Remove carries small kept ranges = tt

-- what an allowed document becomes can be made
pub step_planned : (s : Setting) (request : Request) (doc : Option Doc) (change : Change) → s.draw < 2 ^ 64 → IsSmallRequest request
    → HasSmallInitial request.body → IfSome doc IsAllowedDoc → HasRanges change.effect
    → document_step s request doc ≡ Ok change → IsPlanned s.draw change
step_planned s request doc change low small initial allowed ranges e =
    let made = step_small s request doc change low small initial (allowed_small doc allowed) e in
    record {
      reply = made.reply;
      effect = effect_made s.draw change change.effect (carries s request doc change e) made.effect
          (step_keeps s request doc change (allowed_sectioned doc allowed) e) ranges;
    }

what_allowed : (what : What) → IsAllowedWhat what → IfSome (stored_doc what) IsAllowedDoc
what_allowed (whats.Put doc) h = h
what_allowed (whats.Remove cas) h = tt

-- the document of an item that can be stored is allowed
pub item_allowed : (item : Option Item) → IfSome item IsStorable → IfSome (doc_in item) IsAllowedDoc
item_allowed None h = tt
item_allowed (Some item) h = what_allowed item.what h.what
