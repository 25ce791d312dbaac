use Rattle.std.proofs.Common.{◌≡◌, ◌∙◌, sym, subst, true≢false, arith}
use Rattle.manifest_rules.specs.Catalog.{Catalog}
use Rattle.magma_store.specs.Spots.{spots_size}
use Rattle.magma_store.specs.Whole.{size_there}
use Rattle.magma_store.proofs.Going.{of_log_of, going}
use Rattle.magma_store.proofs.whole.go_with.Goals as goal

pub returns-then-not-are_of_log : goal.returns-then-not-are_of_log
returns-then-not-are_of_log c = (
  λ no. absurd (true≢false (sym no)),
  λ g.
      let told = of_log_of c.args.spots.now c.args.rest.now c.length.result c.greatest_cas.result c.are_of_log.result c.length.ensures c.greatest_cas.ensures c.are_of_log.ensures in
      absurd (true≢false (sym (told.1 g.of_log) ∙ c.if-not-are_of_log.true)),
)

pub returns : goal.returns
returns c =
    let spots = c.args.spots.now in
    let told = of_log_of spots c.args.rest.now c.length.result c.greatest_cas.result c.are_of_log.result c.length.ensures c.greatest_cas.ensures c.are_of_log.ensures in
    going c.have_one_each.result spots c.args.rest.now c.prepares.result.now c.prepares.ensures.value
    (omega arith)
    (subst (λ (m : Catalog). size_there m spots ≡ spots_size spots) c.manifest.ensures.value (c.in_ok-are_present.ensures.0 c.if-not-branch.false))
    (told.0 c.if-not-are_of_log.false)
    c.have_one_each.ensures
