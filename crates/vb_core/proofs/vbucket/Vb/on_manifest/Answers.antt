-- Each request on the manifest is answered by the copy's own.
use Rattle.std.specs.Prelude.{◌≡◌, List, ℕ, true, false, Result}
use Rattle.std.proofs.Common.{◌∙◌, ap, sym}
use Rattle.std.proofs.lemmas.Result.{IfOk-weaker}
use Rattle.doc_model.specs.declared.status.Status.{Status}
use Rattle.manifest_rules.specs.Catalog.{Catalog}
use Rattle.manifest_rules.specs.Paths.{collection_by, scope_by}
use Rattle.replica_core.specs.Terms.{is_active}
use Rattle.copy_model.specs.declared.outcome.Outcome.TheVariants as outcomes
use Rattle.copy_model.specs.Requests.{id_answer}
use Rattle.vb_core.specs.Shown.{ShownVb}
use Rattle.vb_core.proofs.Rested.{home_of}
use Rattle.vb_core.proofs.Served.{role_is, active_lives}
use Rattle.vb_core.proofs.Answered.{inactive_comes, set_comes, get_comes, collection_comes, scope_comes}
use Rattle.vb_core.proofs.vbucket.Vb.on_manifest.Goals as goal

pub returns-then-not-is_active-clause-step : goal.returns-then-not-is_active-clause-step
returns-then-not-is_active-clause-step g c = λ now copy is.
    let vb = c.args.self.now in
    let off : is_active vb.core.role ≡ false = ap (λ (v : ShownVb g.row.D.Denot). is_active v.core.role) (sym c.self.view_is)
    ∙ sym c.is_active.ensures ∙ c.if-not-is_active.true in
    inactive_comes g.D.Disk.states g.D.Disk.counts vb c.args.request.now now c.refusal.result
    (home_of _ vb c.self.view_is c.self.invariant) c.requires.ours c.requires.key off c.refusal.ensures.reply copy is
    (role_is g.D.Disk.states vb copy is)

pub returns-in-SetManifest-clause-step : goal.returns-in-SetManifest-clause-step
returns-in-SetManifest-clause-step g c = λ now copy is.
    let vb = c.args.self.now in
    let on : is_active vb.core.role ≡ true = ap (λ (v : ShownVb g.row.D.Denot). is_active v.core.role) (sym c.self.view_is)
    ∙ sym c.is_active.ensures ∙ c.if-not-is_active.false in
    let active = role_is g.D.Disk.states vb copy is ∙ on in
    IfOk-weaker c.set_manifest.result _ _ (λ told h.
    set_comes g.D.Disk.states g.D.Disk.counts vb c.set_manifest.new.self c.args.request.now now c.in-SetManifest.text
    (outcomes.Reply told) copy c.in-SetManifest.is active h)
    (c.set_manifest.ensures.set copy (active_lives g.D.Disk.states vb copy on is))

pub returns-in-GetManifest-clause-step : goal.returns-in-GetManifest-clause-step
returns-in-GetManifest-clause-step g c = λ now copy is.
    let vb = c.args.self.now in
    let on : is_active vb.core.role ≡ true = ap (λ (v : ShownVb g.row.D.Denot). is_active v.core.role) (sym c.self.view_is)
    ∙ sym c.is_active.ensures ∙ c.if-not-is_active.false in
    let active = role_is g.D.Disk.states vb copy is ∙ on in
    IfOk-weaker c.tell_manifest.result _ _ (λ told h.
    get_comes g.D.Disk.states g.D.Disk.counts vb c.args.request.now now told copy (home_of _ vb c.self.view_is c.self.invariant)
    c.in-GetManifest.is active
    (active_lives g.D.Disk.states vb copy on is) h)
    c.tell_manifest.ensures.reply

pub returns-in-CollectionId-clause-step : goal.returns-in-CollectionId-clause-step
returns-in-CollectionId-clause-step g c = λ now copy is.
    let vb = c.args.self.now in
    let request = c.args.request.now in
    let path = c.in-CollectionId.path in
    let on : is_active vb.core.role ≡ true = ap (λ (v : ShownVb g.row.D.Denot). is_active v.core.role) (sym c.self.view_is)
    ∙ sym c.is_active.ensures ∙ c.if-not-is_active.false in
    let active = role_is g.D.Disk.states vb copy is ∙ on in
    let id : c.collection_of-id.result ≡ collection_by vb.recent.manifest.scopes path =
    c.collection_of-id.ensures
    ∙ ap (λ (m : Catalog). collection_by m.scopes c.as_slice.result.now) (c.manifest.ensures.value
    ∙ ap (λ (v : ShownVb g.row.D.Denot). v.recent.manifest) c.self.view_is)
    ∙ ap (λ (p : List ℕ). collection_by vb.recent.manifest.scopes p) c.as_slice.ensures in
    IfOk-weaker c.tell_id.result _ _ (λ told h.
    collection_comes g.D.Disk.states g.D.Disk.counts vb request now path told copy (home_of _ vb c.self.view_is c.self.invariant)
    c.in-CollectionId.is active
    (active_lives g.D.Disk.states vb copy on is) (h ∙ ap (λ (i : Result ℕ Status). id_answer vb.recent request i) id))
    c.tell_id.ensures.reply

pub returns-in-ScopeId-clause-step : goal.returns-in-ScopeId-clause-step
returns-in-ScopeId-clause-step g c = λ now copy is.
    let vb = c.args.self.now in
    let request = c.args.request.now in
    let path = c.in-ScopeId.path in
    let on : is_active vb.core.role ≡ true = ap (λ (v : ShownVb g.row.D.Denot). is_active v.core.role) (sym c.self.view_is)
    ∙ sym c.is_active.ensures ∙ c.if-not-is_active.false in
    let active = role_is g.D.Disk.states vb copy is ∙ on in
    let id : c.scope_of-id.result ≡ scope_by vb.recent.manifest.scopes path =
    c.scope_of-id.ensures
    ∙ ap (λ (m : Catalog). scope_by m.scopes c.as_slice-in-ScopeId.result.now) (c.manifest-in-ScopeId.ensures.value
    ∙ ap (λ (v : ShownVb g.row.D.Denot). v.recent.manifest) c.self.view_is)
    ∙ ap (λ (p : List ℕ). scope_by vb.recent.manifest.scopes p) c.as_slice-in-ScopeId.ensures in
    IfOk-weaker c.tell_id-in-ScopeId.result _ _ (λ told h.
    scope_comes g.D.Disk.states g.D.Disk.counts vb request now path told copy (home_of _ vb c.self.view_is c.self.invariant)
    c.in-ScopeId.is active
    (active_lives g.D.Disk.states vb copy on is) (h ∙ ap (λ (i : Result ℕ Status). id_answer vb.recent request i) id))
    c.tell_id-in-ScopeId.ensures.reply
