use Rattle.std.proofs.Common.{◌≡◌, ◌∙◌, sym, ap₂, subst}
use Rattle.vb_core.specs.Beginning.{PutsFirst, core_at}
use Rattle.vb_core.specs.Means.{Stands}
use Rattle.vb_core.specs.Openings.{begun}
use Rattle.vb_core.specs.Shown.{ShownVb}
use Rattle.vb_core.proofs.Fresh.{fresh_stands}
use Rattle.vb_core.proofs.opening.with_term.Goals as goal

pub returns-in-Ok-clause-puts : goal.returns-in-Ok-clause-puts
returns-in-Ok-clause-puts g c = λ content copy r b.
    let states = g.D.Disk.states in
    let log = c.args.log in
    let V = ShownVb g.row.D.Denot in
    let core : c.in-Ok.core ≡ core_at c.args.store.meta log.content.length = c.in-Ok.ensures ∙ ap₂ (λ m n. core_at m n) c.meta.ensures c.length.ensures in
    let stands : Stands states c.in_store.result (begun copy) =
    subst (λ (v : V). Stands states v (begun copy)) (sym c.in_store.ensures)
    (fresh_stands states c.args.store c.args.number content log.content log.is_anew copy c.in-Ok.core r core b) in
    subst (λ (v : V). PutsFirst states (states v.store.disk) (begun copy) c.put_first.result.0 c.put_first.result.1) c.in_store.ensures (c.put_first.ensures.puts (begun copy) stands)
