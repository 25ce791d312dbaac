use Rattle.std.proofs.Common.{◌≡◌, ℕ, List}
use Rattle.magma_disk.specs.Device.{Device}
use Rattle.kv_tool.specs.Outcomes.{Seen}
use Rattle.kv_tool.specs.Progress.{StopsWith}
use Rattle.kv_tool.proofs.Closing.{unopened, closes_outcome, IsOfClosing, of_closing}
use Rattle.kv_tool.proofs.Piped.{opened_is, refused_is, moments_back, counted_as, stops_opened, counts_all}
use Rattle.kv_tool.proofs.piping.pipe.Goals as goal

pub returns-in-None-clause-outcome : goal.returns-in-None-clause-outcome
returns-in-None-clause-outcome g c =
    let states = g.D.Disk.states in
    let counts = g.D.Disk.counts in
    let seen : List Device → ℕ → Seen = λ before faults. record {
      left_before = g.S.Source.left c.args.source.now;
      left_now = g.S.Source.left c.serve-came_to.new.source;
      written_before = g.K.Sink.written c.args.sink.now;
      written_now = g.K.Sink.written c.serve-came_to.new.sink;
      disk_before = before;
      disk_now = states c.serve-came_to.new.connection.vb.store.disk;
      faults_before = faults;
      faults_now = (counts c.serve-came_to.new.connection.vb.store.disk).faults;
    } in
    let opening = counted_as counts (counts c.args.disk) _ c.opened-opened.result.0 c.in-Ok.vb c.in-Ok.is c.opened-opened.ensures.counts in
    let stops : StopsWith states counts c.args.now (seen (states c.args.disk) (counts c.args.disk).faults) c.serve-came_to.new.connection.vb c.serve-came_to.result =
    stops_opened states counts (states c.args.disk) (counts c.args.disk).faults c.in-Ok.vb c.open-connection.result.vb
    (λ before faults. StopsWith states counts c.args.now (seen before faults) c.serve-came_to.new.connection.vb c.serve-came_to.result)
    c.open-connection.ensures.vb
    (opened_is states (states c.args.disk) c.opened-opened.result.0 c.in-Ok.vb c.in-Ok.is c.opened-opened.ensures.opens)
    opening.faults.no_lower
    c.serve-came_to.ensures.stops in
    closes_outcome states counts c.args.now (seen (states c.args.disk) (counts c.args.disk).faults) c.serve-came_to.new.connection.vb c.close-exit.new.self.vb c.serve-came_to.result c.close-exit.result c.into_disk.result
    c.into_disk.ensures.disk (record { holds = c.into_disk.ensures.leaves; sound = c.into_disk.ensures.sound }) stops c.close-exit.ensures.closes

pub returns-in-None-clause-served : goal.returns-in-None-clause-served
returns-in-None-clause-served g c =
    let states = g.D.Disk.states in
    let counts = g.D.Disk.counts in
    let seen : List Device → ℕ → Seen = λ before faults. record {
      left_before = g.S.Source.left c.args.source.now;
      left_now = g.S.Source.left c.serve-came_to.new.source;
      written_before = g.K.Sink.written c.args.sink.now;
      written_now = g.K.Sink.written c.serve-came_to.new.sink;
      disk_before = before;
      disk_now = states c.serve-came_to.new.connection.vb.store.disk;
      faults_before = faults;
      faults_now = (counts c.serve-came_to.new.connection.vb.store.disk).faults;
    } in
    let opening = counted_as counts (counts c.args.disk) _ c.opened-opened.result.0 c.in-Ok.vb c.in-Ok.is c.opened-opened.ensures.counts in
    let stops : StopsWith states counts c.args.now (seen (states c.args.disk) (counts c.args.disk).faults) c.serve-came_to.new.connection.vb c.serve-came_to.result =
    stops_opened states counts (states c.args.disk) (counts c.args.disk).faults c.in-Ok.vb c.open-connection.result.vb
    (λ before faults. StopsWith states counts c.args.now (seen before faults) c.serve-came_to.new.connection.vb c.serve-came_to.result)
    c.open-connection.ensures.vb
    (opened_is states (states c.args.disk) c.opened-opened.result.0 c.in-Ok.vb c.in-Ok.is c.opened-opened.ensures.opens)
    opening.faults.no_lower
    c.serve-came_to.ensures.stops in
    let of : IsOfClosing c.serve-came_to.result c.close-exit.result =
    of_closing states counts c.args.now (seen (states c.args.disk) (counts c.args.disk).faults) c.serve-came_to.new.connection.vb c.close-exit.new.self.vb c.serve-came_to.result c.close-exit.result stops c.close-exit.ensures.closes in
    of.served

pub returns-in-None-clause-read_cause : goal.returns-in-None-clause-read_cause
returns-in-None-clause-read_cause g c =
    let states = g.D.Disk.states in
    let counts = g.D.Disk.counts in
    let seen : List Device → ℕ → Seen = λ before faults. record {
      left_before = g.S.Source.left c.args.source.now;
      left_now = g.S.Source.left c.serve-came_to.new.source;
      written_before = g.K.Sink.written c.args.sink.now;
      written_now = g.K.Sink.written c.serve-came_to.new.sink;
      disk_before = before;
      disk_now = states c.serve-came_to.new.connection.vb.store.disk;
      faults_before = faults;
      faults_now = (counts c.serve-came_to.new.connection.vb.store.disk).faults;
    } in
    let opening = counted_as counts (counts c.args.disk) _ c.opened-opened.result.0 c.in-Ok.vb c.in-Ok.is c.opened-opened.ensures.counts in
    let stops : StopsWith states counts c.args.now (seen (states c.args.disk) (counts c.args.disk).faults) c.serve-came_to.new.connection.vb c.serve-came_to.result =
    stops_opened states counts (states c.args.disk) (counts c.args.disk).faults c.in-Ok.vb c.open-connection.result.vb
    (λ before faults. StopsWith states counts c.args.now (seen before faults) c.serve-came_to.new.connection.vb c.serve-came_to.result)
    c.open-connection.ensures.vb
    (opened_is states (states c.args.disk) c.opened-opened.result.0 c.in-Ok.vb c.in-Ok.is c.opened-opened.ensures.opens)
    opening.faults.no_lower
    c.serve-came_to.ensures.stops in
    let of : IsOfClosing c.serve-came_to.result c.close-exit.result =
    of_closing states counts c.args.now (seen (states c.args.disk) (counts c.args.disk).faults) c.serve-came_to.new.connection.vb c.close-exit.new.self.vb c.serve-came_to.result c.close-exit.result stops c.close-exit.ensures.closes in
    λ e. c.serve-came_to.ensures.read_cause (of.reads e)

pub returns-in-None-clause-write_cause : goal.returns-in-None-clause-write_cause
returns-in-None-clause-write_cause g c =
    let states = g.D.Disk.states in
    let counts = g.D.Disk.counts in
    let seen : List Device → ℕ → Seen = λ before faults. record {
      left_before = g.S.Source.left c.args.source.now;
      left_now = g.S.Source.left c.serve-came_to.new.source;
      written_before = g.K.Sink.written c.args.sink.now;
      written_now = g.K.Sink.written c.serve-came_to.new.sink;
      disk_before = before;
      disk_now = states c.serve-came_to.new.connection.vb.store.disk;
      faults_before = faults;
      faults_now = (counts c.serve-came_to.new.connection.vb.store.disk).faults;
    } in
    let opening = counted_as counts (counts c.args.disk) _ c.opened-opened.result.0 c.in-Ok.vb c.in-Ok.is c.opened-opened.ensures.counts in
    let stops : StopsWith states counts c.args.now (seen (states c.args.disk) (counts c.args.disk).faults) c.serve-came_to.new.connection.vb c.serve-came_to.result =
    stops_opened states counts (states c.args.disk) (counts c.args.disk).faults c.in-Ok.vb c.open-connection.result.vb
    (λ before faults. StopsWith states counts c.args.now (seen before faults) c.serve-came_to.new.connection.vb c.serve-came_to.result)
    c.open-connection.ensures.vb
    (opened_is states (states c.args.disk) c.opened-opened.result.0 c.in-Ok.vb c.in-Ok.is c.opened-opened.ensures.opens)
    opening.faults.no_lower
    c.serve-came_to.ensures.stops in
    let of : IsOfClosing c.serve-came_to.result c.close-exit.result =
    of_closing states counts c.args.now (seen (states c.args.disk) (counts c.args.disk).faults) c.serve-came_to.new.connection.vb c.close-exit.new.self.vb c.serve-came_to.result c.close-exit.result stops c.close-exit.ensures.closes in
    λ e. c.serve-came_to.ensures.write_cause (of.writes e)

pub returns-in-None-clause-disk_counted : goal.returns-in-None-clause-disk_counted
returns-in-None-clause-disk_counted g c =
    let states = g.D.Disk.states in
    let counts = g.D.Disk.counts in
    let seen : List Device → ℕ → Seen = λ before faults. record {
      left_before = g.S.Source.left c.args.source.now;
      left_now = g.S.Source.left c.serve-came_to.new.source;
      written_before = g.K.Sink.written c.args.sink.now;
      written_now = g.K.Sink.written c.serve-came_to.new.sink;
      disk_before = before;
      disk_now = states c.serve-came_to.new.connection.vb.store.disk;
      faults_before = faults;
      faults_now = (counts c.serve-came_to.new.connection.vb.store.disk).faults;
    } in
    let opening = counted_as counts (counts c.args.disk) _ c.opened-opened.result.0 c.in-Ok.vb c.in-Ok.is c.opened-opened.ensures.counts in
    let stops : StopsWith states counts c.args.now (seen (states c.args.disk) (counts c.args.disk).faults) c.serve-came_to.new.connection.vb c.serve-came_to.result =
    stops_opened states counts (states c.args.disk) (counts c.args.disk).faults c.in-Ok.vb c.open-connection.result.vb
    (λ before faults. StopsWith states counts c.args.now (seen before faults) c.serve-came_to.new.connection.vb c.serve-came_to.result)
    c.open-connection.ensures.vb
    (opened_is states (states c.args.disk) c.opened-opened.result.0 c.in-Ok.vb c.in-Ok.is c.opened-opened.ensures.opens)
    opening.faults.no_lower
    c.serve-came_to.ensures.stops in
    let of : IsOfClosing c.serve-came_to.result c.close-exit.result =
    of_closing states counts c.args.now (seen (states c.args.disk) (counts c.args.disk).faults) c.serve-came_to.new.connection.vb c.close-exit.new.self.vb c.serve-came_to.result c.close-exit.result stops c.close-exit.ensures.closes in
    counts_all counts (counts c.args.disk) _ c.in-Ok.vb c.open-connection.result.vb c.serve-came_to.new.connection.vb c.close-exit.new.self.vb c.into_disk.result c.serve-came_to.result c.close-exit.result
    c.open-connection.ensures.vb c.into_disk.ensures.disk of opening c.serve-came_to.ensures.disk_counted c.close-exit.ensures.counts

pub returns-in-Some-back-clause-outcome : goal.returns-in-Some-back-clause-outcome
returns-in-Some-back-clause-outcome g c =
    let states = g.D.Disk.states in
    let before : List Device = states c.args.disk in
    unopened states (λ moment. moment ≡ c.args.now) (g.S.Source.left c.args.source.now) (g.K.Sink.written c.args.sink.now) before (states c.in-Some-back.disk)
    (g.D.Disk.counts c.args.disk).faults (g.D.Disk.counts c.in-Some-back.disk).faults c.in-Err.fault c.refused.result
    (refused_is states before c.opened-opened.result.0 c.in-Err.fault c.in-Err.is c.opened-opened.ensures.opens)
    (moments_back states before c.opened-opened.result.0 c.opened-opened.result.1 c.in-Err.fault c.in-Some-back.disk c.in-Err.is c.in-Some-back.is c.opened-opened.ensures.any_moment_back)
    c.refused.ensures
