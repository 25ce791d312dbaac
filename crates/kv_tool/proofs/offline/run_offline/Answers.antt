use Rattle.std.proofs.Common.{◌≡◌, List, ◌∷◌, sym, ◌∙◌, ap, subst}
use Rattle.magma_store.specs.Counting.{CountsStore}
use Rattle.kv_tool.specs.declared.exit.Exit.TheVariants as exits
use Rattle.kv_tool.specs.Outcomes.{Seen, IsMoment, Outcome}
use Rattle.kv_tool.proofs.Called.{outcome_as, first_is, others_are}
use Rattle.kv_tool.proofs.offline.run_offline.Goals as goal

pub returns-clause-outcome : goal.returns-clause-outcome
returns-clause-outcome g c = λ first others is.
    let D : Type 0 = g.row.D.Denot in
    let taken : c.remove-first.result ≡ first = first_is c.args.disks.items first c.remove-first.result others is c.remove-first.ensures.value in
    let told = g.C.Clock.told c.args.clock.now in
    let may = g.C.Clock.may_answer c.args.clock.now in
    let seen : D → Seen = λ d. record {
      left_before = g.S.Source.left c.args.source.now;
      left_now = g.S.Source.left c.pipe-exit.new.source;
      written_before = g.K.Sink.written c.args.sink.now;
      written_now = g.K.Sink.written c.pipe-exit.new.sink;
      disk_before = g.D.Disk.states d;
      disk_now = g.D.Disk.states c.pipe-exit.result.1;
      faults_before = (g.D.Disk.counts d).faults;
      faults_now = (g.D.Disk.counts c.pipe-exit.result.1).faults;
    } in (
      c.pipe-exit.result.1,
      c.in-Ok.ensures.items ∙ ap (λ (l : List D). c.pipe-exit.result.1 ∷ l) (others_are c.args.disks.items c.remove-first.new.self.items first others is c.remove-first.ensures.items),
      subst (λ (d : D). CountsStore (c.pipe-exit.result.0 ≡ exits.DiskFault) (g.D.Disk.counts d) (g.D.Disk.counts c.pipe-exit.result.1)) taken c.pipe-exit.ensures.disk_counted,
      subst (λ (d : D). Outcome (IsMoment told may) (seen d) c.pipe-exit.result.0) taken
          (outcome_as (λ moment. moment ≡ c.now-now.result) (IsMoment told may) (λ moment e. subst (IsMoment told may) (sym e) (record { told_one = c.now-now.ensures.answer; allowed = c.now-now.ensures.allowed })) (seen c.remove-first.result) c.pipe-exit.result.0 c.pipe-exit.ensures.outcome),
    )
