use Rattle.std.proofs.Common.{◌≡◌, true, sym, ◌∙◌, subst}
use Rattle.durability_core.specs.declared.chain.Chain.{Chain}
use Rattle.magma_store.proofs.SameChains.{same_names, names_same, names_refl}
use Rattle.magma_store.proofs.opening.same_chain.Goals as goal

pub returns : goal.returns
returns c =
    let one = c.args.one.now in
    let other = c.args.other.now in
    let to : c.eq.result ≡ true → one ≡ other = λ t i. record { names = names_same one.names other.names (sym c.eq.ensures ∙ t) i } in
    let from : one ≡ other → c.eq.result ≡ true = λ e. c.eq.ensures ∙ subst (λ (d : Chain). same_names one.names d.names ≡ true) e (names_refl one.names) in
    (to, from)
