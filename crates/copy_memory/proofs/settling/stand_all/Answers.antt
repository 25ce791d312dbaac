use Rattle.std.specs.Prelude.{◌+◌, take}
use Rattle.std.proofs.Common.{get_or, sym, ◌∙◌, ap, arith}
use Rattle.copy_memory.specs.declared.tickets.KeptFate.TheVariants as kept
use Rattle.copy_memory.specs.Tickets.{deciding, standing}
use Rattle.copy_memory.proofs.Steps.{standing_next}
use Rattle.copy_memory.proofs.settling.stand_all.Goals as goal

pub loop-prepare-preserved : goal.loop-prepare-preserved
loop-prepare-preserved c =
    let a = c.args in
    let i = c.loop-prepare.prepare-index in
    let inv = c.loop-prepare.invariant in
    record {
      tickets =
          c.decide.ensures
          ∙ ap (λ t. deciding (record { term = a.term; prepare = get_or a.settled.now i 0 }) (kept.Stood (c.loop-prepare.position + 1)) t) inv.tickets
          ∙ ap (λ n. deciding (record { term = a.term; prepare = get_or a.settled.now i 0 }) (kept.Stood (n + 1)) (standing a.term a.behind (take i a.settled.now) a.tickets.now)) inv.position
          ∙ sym (standing_next a.term a.behind a.settled.now i a.tickets.now c.loop-prepare-test.true);
      position = (let e = inv.position in omega arith);
    }
