use Rattle.std.proofs.Common.{◌≡◌, ℕ, Result, Err, Ok, true, false, sym, ◌∙◌, ap, subst, rules}
use denote.Enum.Bare.{same_true, sameb}
use Rattle.replica_core.specs.contracts.copy.Role.{the_type}
use Rattle.replica_core.specs.declared.copy.Role.{Role}
use Rattle.replica_core.specs.declared.copy.Role.TheVariants as roles
use Rattle.magma_store.specs.declared.fault.StoreFault.{StoreFault}
use Rattle.vb_log.specs.Logs.{folds}
use Rattle.copy_model.specs.declared.outcome.VbFault.{VbFault}
use Rattle.copy_model.specs.Events.{flushes}
use Rattle.vb_core.specs.Coming.{Comes}
use Rattle.vb_core.specs.Flat.{flat}
use Rattle.vb_core.specs.Means.{Lives}
use Rattle.vb_core.specs.Noting.{put_told}
use Rattle.vb_core.specs.Shown.{ShownVb, IsFit}
use Rattle.vb_core.proofs.Flushing.{flush_comes, dead_comes, role_of, lives}
use Rattle.vb_core.proofs.vbucket.Vb.flush.Goals as goal
use Rattle.vb_core.proofs.vbucket.Vb.flush.Goals.{in-Ok, in-Err}

pub returns-then-eq-clause-flushes : goal.returns-then-eq-clause-flushes
returns-then-eq-clause-flushes g c = λ copy is.
    let V = ShownVb g.row.D.Denot in
    let old : V = c.args.self.now in
    let fit : IsFit old.store.meta old.core old.recent old.seen = subst (λ (v : V). IsFit v.store.meta v.core v.recent v.seen) c.self.view_is c.self.invariant in
    let role : c.self.inside.core.role ≡ roles.Dead = same_true the_type (search rules) _ _ (sym c.if-eq.ensures) in
    let dead : old.core.role ≡ roles.Dead = sym (ap (λ (v : V). v.core.role) c.self.view_is) ∙ role in
    dead_comes g.D.Disk.states g.D.Disk.counts copy old is (sym (role_of g.D.Disk.states old copy is) ∙ dead) fit

pub returns-clause-flushes : goal.returns-clause-flushes
returns-clause-flushes g c = λ copy is.
    let V = ShownVb g.row.D.Denot in
    let states = g.D.Disk.states in
    let counts = g.D.Disk.counts in
    let old : V = c.args.self.now in
    let new : V = c.put_log.new.self in
    let r : Result (Unit {0}) StoreFault = c.put_log.result in
    let fit : IsFit old.store.meta old.core old.recent old.seen = subst (λ (v : V). IsFit v.store.meta v.core v.recent v.seen) c.self.view_is c.self.invariant in
    let living : old.core.role ≡ roles.Dead → ⊥ = λ dead.
    let same : sameb the_type c.self.inside.core.role roles.Dead ≡ true = ap (λ (x : Role). sameb the_type x roles.Dead) (ap (λ (v : V). v.core.role) c.self.view_is ∙ dead) in
    let differs : false ≡ sameb the_type c.self.inside.core.role roles.Dead = c.if-eq.ensures in
    absurd (cc) in
    let ok : ℕ → Result ℕ VbFault = λ n. Ok n in
    let err : VbFault → Result ℕ VbFault = λ why. Err why in
    let l : Lives states old copy = lives states old copy is living in
    let told : put_told new.core.length r ≡ c.match-put_log.result =
    elim c.match-put_log.branch [
      | in-Ok w ↦ ap (put_told new.core.length) w.in-Ok.is ∙ ap ok (sym (ap (λ (v : V). v.core.length) c.self-2.view_is)) ∙ sym w.result-is
      | in-Err w ↦ ap (put_told new.core.length) w.in-Err.is ∙ ap err (sym w.vb_fault.ensures.told) ∙ sym w.result-is
    ] in
    subst (λ (t : Result ℕ VbFault). Comes states counts copy (λ luck. flushes folds (flat copy.chain) luck copy) old new t) told
    (flush_comes states counts copy old new r l fit c.put_log.ensures.stays (c.put_log.ensures.puts copy l.stands))
