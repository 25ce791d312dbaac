use Rattle.std.proofs.Common.{ℕ, Err, Ok, false, sym, subst, subst₂}
use Rattle.vb_log.specs.Content.{Content}
use Rattle.vb_core.specs.Means.{Stands}
use Rattle.vb_core.specs.Putting.{IsMetaOf, Puts}
use Rattle.vb_core.specs.Shown.{ShownVb}
use Rattle.vb_core.proofs.PutDown.{puts_done}
use Rattle.vb_core.proofs.Putdowns.{puts_refused, puts_failed, fit_emptied}
use Rattle.vb_core.proofs.vbucket.Vb.put_log.Goals as goal

pub returns-in_err-left-clause-puts : goal.returns-in_err-left-clause-puts
returns-in_err-left-clause-puts g c = λ copy s. puts_refused g.D.Disk.states g.D.Disk.counts c.args.self.now copy c.from_residual.result c.from_residual.ensures.1

pub returns-in_err-meta-clause-puts : goal.returns-in_err-meta-clause-puts
returns-in_err-meta-clause-puts g c = λ copy s. puts_refused g.D.Disk.states g.D.Disk.counts c.args.self.now copy c.from_residual-in_err-meta.result c.from_residual-in_err-meta.ensures.1

pub invariant_of-self : goal.invariant_of-self
invariant_of-self g c =
    let inside = c.self.inside in
    fit_emptied inside.store.meta c.put-written.new.store.meta inside.core inside.recent c.in_ok-left.left inside.seen c.self.invariant c.put-written.ensures.own c.in_ok-left.ensures

pub returns-in-Ok-clause-puts : goal.returns-in-Ok-clause-puts
returns-in-Ok-clause-puts g c = λ copy s.
    let V = ShownVb g.row.D.Denot in
    let states = g.D.Disk.states in
    let counts = g.D.Disk.counts in
    let inside = c.self.inside in
    let seen : V = record { store = inside.store; core = inside.core; number = inside.number; recent = inside.recent; showing = inside.showing; is_anew = inside.is_anew; seen = inside.seen; inherited = inside.inherited; unflushed_entries = inside.unflushed_entries; unflushed_bytes = inside.unflushed_bytes } in
    let stands : Stands states seen copy = subst (λ (v : V). Stands states v copy) (sym c.self.view_is) s in
    let meta : IsMetaOf seen.core seen.recent c.in_ok-meta.meta = subst (λ (v : V). IsMetaOf v.core v.recent c.in_ok-meta.meta) (sym c.self.view_is) c.in_ok-meta.ensures.meta in
    let new : Content → ℕ → V = λ left n. record seen { store = c.put-written.new.store; recent = left; showing = n; is_anew = false; unflushed_entries = 0; unflushed_bytes = 0 } in
    subst (λ (v : V). Puts states counts copy v (new c.in_ok-left.left c.weight-self-inside.result) (Ok tt)) c.self.view_is
    (subst₂ (λ (left : Content) (n : ℕ). Puts states counts copy seen (new left n) (Ok tt)) (sym c.in_ok-left.ensures) (sym c.weight-self-inside.ensures.spots)
    (puts_done states counts seen copy c.in_ok-meta.meta c.put-written.new.store c.in-Ok.ensures.puts stands c.self.invariant meta))

pub returns-in-Err-clause-puts : goal.returns-in-Err-clause-puts
returns-in-Err-clause-puts g c = λ copy s.
    let V = ShownVb g.row.D.Denot in
    let states = g.D.Disk.states in
    let counts = g.D.Disk.counts in
    let inside = c.self.inside in
    let seen : V = record { store = inside.store; core = inside.core; number = inside.number; recent = inside.recent; showing = inside.showing; is_anew = inside.is_anew; seen = inside.seen; inherited = inside.inherited; unflushed_entries = inside.unflushed_entries; unflushed_bytes = inside.unflushed_bytes } in
    let stands : Stands states seen copy = subst (λ (v : V). Stands states v copy) (sym c.self.view_is) s in
    let meta : IsMetaOf seen.core seen.recent c.in_ok-meta.meta = subst (λ (v : V). IsMetaOf v.core v.recent c.in_ok-meta.meta) (sym c.self.view_is) c.in_ok-meta.ensures.meta in
    subst (λ (v : V). Puts states counts copy v c.stop_at.new.self (Err c.in-Err.fault)) c.self.view_is
    (subst (λ (v : V). Puts states counts copy seen v (Err c.in-Err.fault)) (sym c.stop_at.ensures)
    (puts_failed states counts seen copy c.in_ok-meta.meta c.put-written.new.store c.in-Err.fault c.in-Err.ensures.puts stands c.self.invariant meta c.in-Err.ensures.counts))
