-- A manifest that is set is refused, changes nothing, or is installed.
use Rattle.std.specs.Prelude.{◌≡◌, List, ℕ, Result}
use Rattle.std.proofs.Common.{◌∙◌, ap, sym, subst}
use Rattle.std.proofs.lemmas.Result.{IfOk-weaker}
use Rattle.doc_model.specs.declared.status.Status.{Status}
use Rattle.manifest_rules.specs.Applying.{text_step, Drops}
use Rattle.manifest_rules.specs.Catalog.{Catalog}
use Rattle.manifest_rules.specs.Rules.{Step}
use Rattle.copy_model.specs.declared.outcome.Outcome.TheVariants as outcomes
use Rattle.vb_core.specs.Shown.{ShownVb}
use Rattle.vb_core.proofs.Rested.{home_of}
use Rattle.vb_core.proofs.Answered.{set_refused, set_unchanged, set_changed}
use Rattle.vb_core.proofs.vbucket.Vb.set_manifest.Goals as goal

pub returns-then-dropped-clause-set : goal.returns-then-dropped-clause-set
returns-then-dropped-clause-set g c = λ copy lives.
    let vb = c.args.self.now in
    let step : text_step c.manifest.result.now c.as_slice.result.now ≡ text_step vb.recent.manifest c.args.text.now =
    ap (λ (m : Catalog). text_step m c.as_slice.result.now) (c.manifest.ensures.value
    ∙ ap (λ (v : ShownVb g.row.D.Denot). v.recent.manifest) c.self.view_is)
    ∙ ap (λ (t : List ℕ). text_step vb.recent.manifest t) c.as_slice.ensures in
    let drops = subst (λ (r : Result Step Status). Drops r c.in-Ok.dropped) step c.in-Ok.ensures.step in
    IfOk-weaker c.install.result _ _ (λ told h.
    set_changed g.D.Disk.states g.D.Disk.counts vb c.install.new.self c.args.request.now c.args.text.now c.in-Ok.dropped
    (outcomes.Reply told) drops c.if-dropped.true copy lives h)
    (c.install.ensures.installed copy lives)

pub returns-else-dropped-clause-set : goal.returns-else-dropped-clause-set
returns-else-dropped-clause-set g c =
    let vb = c.args.self.now in
    let step : text_step c.manifest.result.now c.as_slice.result.now ≡ text_step vb.recent.manifest c.args.text.now =
    ap (λ (m : Catalog). text_step m c.as_slice.result.now) (c.manifest.ensures.value
    ∙ ap (λ (v : ShownVb g.row.D.Denot). v.recent.manifest) c.self.view_is)
    ∙ ap (λ (t : List ℕ). text_step vb.recent.manifest t) c.as_slice.ensures in
    let drops = subst (λ (r : Result Step Status). Drops r c.in-Ok.dropped) step c.in-Ok.ensures.step in
    set_unchanged g.D.Disk.states g.D.Disk.counts vb c.args.request.now c.args.text.now c.in-Ok.dropped c.refusal.result
    (home_of _ vb c.self.view_is c.self.invariant) drops c.if-dropped.false c.refusal.ensures.reply

pub returns-in-Err-Status-clause-set : goal.returns-in-Err-Status-clause-set
returns-in-Err-Status-clause-set g c =
    let vb = c.args.self.now in
    let step : text_step c.manifest.result.now c.as_slice.result.now ≡ text_step vb.recent.manifest c.args.text.now =
    ap (λ (m : Catalog). text_step m c.as_slice.result.now) (c.manifest.ensures.value
    ∙ ap (λ (v : ShownVb g.row.D.Denot). v.recent.manifest) c.self.view_is)
    ∙ ap (λ (t : List ℕ). text_step vb.recent.manifest t) c.as_slice.ensures in
    set_refused g.D.Disk.states g.D.Disk.counts vb c.args.request.now c.args.text.now c.in-Err-Status.status
    c.refusal-in-Err-Status.result
    (home_of _ vb c.self.view_is c.self.invariant) (sym step ∙ (rw c.in-Err-Status.field-0-is at c.in-Err-Status.ensures.refused))
    c.refusal-in-Err-Status.ensures.reply
