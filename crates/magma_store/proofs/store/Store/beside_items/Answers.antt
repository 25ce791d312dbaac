use Rattle.std.proofs.Common.{◌≡◌, refl, sym, ap, ◌∙◌, subst, true≢false}
use Rattle.vb_log.specs.declared.reading.ContentFault.{ContentFault}
use Rattle.vb_log.specs.Contents.{IsWhole}
use Rattle.vb_log.specs.Wholes.{IsNoWhole}
use Rattle.magma_store.specs.Store.{Shown}
use Rattle.magma_store.proofs.Going.{content_is, never_whole}
use Rattle.magma_store.proofs.store.Store.beside_items.Goals as goal

pub returns-then-branch-clause-whole : goal.returns-then-branch-clause-whole
returns-then-branch-clause-whole g c = λ held is.
    let store = c.args.self.now in
    let meta : c.self.inside.meta ≡ held.meta = ap (λ (s : Shown g.row.D.Denot). s.meta) c.self.view_is ∙ is.meta in
    let same = content_is held c.self.inside.meta c.args.manifest c.args.prepares.items c.new-none.result.items c.in-Ok.rest c.new-none.ensures.items meta c.in-Ok.ensures.found in
    let told = c.in_ok-is_whole_with-in-Ok.ensures.items held is in
    (λ yes. subst IsWhole same (told.0 c.if-branch.true), λ w. refl)

pub returns-in-Err-Bad-clause-whole : goal.returns-in-Err-Bad-clause-whole
returns-in-Err-Bad-clause-whole g c = λ held is.
    let meta : c.self.inside.meta ≡ held.meta = ap (λ (s : Shown g.row.D.Denot). s.meta) c.self.view_is ∙ is.meta in
    let none = subst (λ (f : ContentFault). IsNoWhole c.new-none.result.items c.args.prepares.items c.args.manifest c.self.inside.meta.cas c.self.inside.meta.length f) c.in-Err-Bad.field-0-is c.in-Err-Bad.ensures.broken in
    (λ no. absurd (true≢false (sym no)), λ w. absurd (never_whole held c.self.inside.meta c.args.manifest c.args.prepares.items c.new-none.result.items c.new-none.ensures.items meta none.1 w))
