use Rattle.std.specs.Prelude.{◌≡◌, true}
use Rattle.std.proofs.Common.{rules, sym, ap, subst, arith}
use Rattle.replica_core.specs.declared.copy.Role.TheVariants as roles
use Rattle.replica_core.specs.Terms.{is_active}
use Rattle.copy_memory.specs.Remembers.{Remembers}
use Rattle.copy_memory.specs.Settling.{IsPlanned}
use Rattle.copy_memory.specs.contracts.memory.Memory.{the_view}
use Rattle.copy_memory.proofs.Flushes.{plan_long, not_active, flushed_active, flushed_telling, flushed_quietly}
use Rattle.copy_memory.proofs.memory.Memory.flushed.Goals as goal

pub stand-requires-clause-made : goal.stand-requires-clause-made
stand-requires-clause-made c =
    let a = plan_long (the_view c.self.inside) c.args.plan (subst (λ m. IsPlanned m c.args.plan) (sym c.self.view_is) c.requires.planned) in
    let b = c.length-self-inside.ensures in
    let e = c.self.invariant.length_is in
    omega arith

pub stand-requires-clause-numbers : goal.stand-requires-clause-numbers
stand-requires-clause-numbers c =
    let a = plan_long (the_view c.self.inside) c.args.plan (subst (λ m. IsPlanned m c.args.plan) (sym c.self.view_is) c.requires.planned) in
    let b = c.length-self-inside.ensures in
    let e = c.self.invariant.length_is in
    let f = c.length-self-inside.type_inv in
    omega arith

pub returns-then-eq : goal.returns-then-eq
returns-then-eq c = λ copy d r put.
    let is : c.self.inside.core.role ≡ roles.Active = search rules in
    flushed_active (the_view c.self.inside) c.stand.new.self c.args.plan (subst (λ m. IsPlanned m c.args.plan) (sym c.self.view_is) c.requires.planned)
    c.self.invariant.length_is c.length-self-inside.result c.length-self-inside.ensures copy d (subst (λ m. Remembers m copy) (sym c.self.view_is) r) put
    (ap is_active is) c.stand.ensures

pub returns-then-tells_flush : goal.returns-then-tells_flush
returns-then-tells_flush c = λ copy d r put.
    let not : c.self.inside.core.role ≡ roles.Active → ⊥ = λ e. let told : c.eq.result ≡ true = search rules in cc (told, c.if-eq.false) in
    flushed_telling (the_view c.self.inside) c.acknowledge_reserved.new.self c.args.plan (subst (λ m. IsPlanned m c.args.plan) (sym c.self.view_is) c.requires.planned)
    c.self.invariant.length_is c.length-self-inside.result c.length-self-inside.ensures copy d (subst (λ m. Remembers m copy) (sym c.self.view_is) r) put
    (not_active c.self.inside.core.role not) c.tells_flush.result c.if-tells_flush.true c.tells_flush.ensures c.acknowledge_reserved.ensures

pub returns-else-tells_flush : goal.returns-else-tells_flush
returns-else-tells_flush c = λ copy d r put.
    let not : c.self.inside.core.role ≡ roles.Active → ⊥ = λ e. let told : c.eq.result ≡ true = search rules in cc (told, c.if-eq.false) in
    flushed_quietly (the_view c.self.inside) (the_view c.self.inside) c.args.plan (subst (λ m. IsPlanned m c.args.plan) (sym c.self.view_is) c.requires.planned)
    c.self.invariant.length_is c.length-self-inside.result c.length-self-inside.ensures copy d (subst (λ m. Remembers m copy) (sym c.self.view_is) r) put
    (not_active c.self.inside.core.role not) c.tells_flush.result c.if-tells_flush.false c.tells_flush.ensures
