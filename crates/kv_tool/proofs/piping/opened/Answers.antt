use Rattle.std.proofs.Common.{◌≡◌, subst, IfSome, IfErr}
use Rattle.durability_core.specs.declared.chain.Chain.{Chain}
use Rattle.magma_disk.specs.Moments.{Throughout}
use Rattle.vb_core.specs.Openings.{OpensVb, LeavesRefused}
use Rattle.kv_tool.specs.Course.{only_chain}
use Rattle.kv_tool.proofs.piping.opened.Goals as goal

pub returns-in-Ok-clause-opens : goal.returns-in-Ok-clause-opens
returns-in-Ok-clause-opens g c =
    let same : c.in-Ok.chain ≡ only_chain = λ i. record { names = c.in-Ok.ensures.names i } in
    subst (λ (chain : Chain). OpensVb g.D.Disk.states (g.D.Disk.states c.args.disk) chain 0 0 c.open_vb.result.0) same c.open_vb.ensures.opens

pub returns-in-Ok-clause-any_moment_back : goal.returns-in-Ok-clause-any_moment_back
returns-in-Ok-clause-any_moment_back g c =
    let same : c.in-Ok.chain ≡ only_chain = λ i. record { names = c.in-Ok.ensures.names i } in
    subst (λ (chain : Chain). IfErr c.open_vb.result.0 (λ why. IfSome c.open_vb.result.1 (λ back.
    Throughout (LeavesRefused why (g.D.Disk.states c.args.disk) chain 0 0) (g.D.Disk.states c.args.disk) (g.D.Disk.states back))))
    same c.open_vb.ensures.any_moment_back
