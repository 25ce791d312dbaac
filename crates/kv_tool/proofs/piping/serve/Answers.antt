use Rattle.std.proofs.Common.{◌+◌, ◌≤◌, [], length, Some, refl, ap, arith}
use Rattle.kv_edge.proofs.Known.{then_rose}
use Rattle.kv_session.specs.Session.{Line}
use Rattle.kv_tool.specs.declared.piping.TheConstants.{INPUT_LIMIT}
use Rattle.kv_tool.specs.Course.{Unknown}
use Rattle.kv_tool.specs.Outcomes.{Seen}
use Rattle.kv_tool.proofs.Counting.{counts_on, counts_none}
use Rattle.kv_tool.proofs.Ending.{starts_paused, takes_piece, read_failed, input_ended, stays_left, exceeds}
use Rattle.kv_tool.proofs.piping.serve.Goals as goal

pub loop-buffer-init : goal.loop-buffer-init
loop-buffer-init g c =
    let fresh = c.requires.new in
    record {
      pauses = λ seen begin begins known.
          starts_paused g.D.Disk.states g.D.Disk.counts c.args.now seen (g.S.Source.left c.args.source.now) (g.K.Sink.written c.args.sink.now) begin c.args.connection.now fresh begins known;
      held = omega (arith, ap (λ (l : Line). length l.held) fresh.session);
      fed = omega (arith, fresh.fed);
      size = refl;
      reads_counted = omega arith;
      writes_counted = omega arith;
      disk_counted = counts_none (g.D.Disk.counts c.args.connection.now.vb.store.disk);
    }

pub loop-buffer-preserved : goal.loop-buffer-preserved
loop-buffer-preserved g c =
    let states = g.D.Disk.states in
    let counts = g.D.Disk.counts in
    let left = g.S.Source.left c.read_piece.new.source in
    let small : c.loop-buffer.connection.fed + length c.split_at.result.0.now ≤ INPUT_LIMIT = omega (arith, c.in-Got.ensures.within, c.split_at.ensures.front_len, c.loop-buffer.invariant.fed, c.fed-room.ensures) in
    record {
      pauses = λ seen begin begins known.
          let mid : Seen = record seen { left_before = g.S.Source.left c.args.source.now; left_now = g.S.Source.left c.loop-buffer.source; written_before = g.K.Sink.written c.args.sink.now; written_now = g.K.Sink.written c.loop-buffer.sink } in
          let served = c.in-None.ensures.serves (record mid { left_now = left })
          (takes_piece states counts c.args.now mid c.loop-buffer.connection left c.read_piece.new.buffer c.split_at.result.0.now c.in-Got.count (c.loop-buffer.invariant.pauses seen begin begins known) c.in-Got.ensures.bytes
          c.split_at.ensures.front small) in
          record { progress = served.0; waits = served.1; empty = served.2 };
      held = c.in-None.ensures.held refl;
      fed = omega (arith, c.in-None.ensures.fed refl, small);
      size = omega (arith, c.read_piece.auto.buffer, c.loop-buffer.invariant.size);
      reads_counted = omega (arith, c.in-Got.ensures.counted, c.loop-buffer.invariant.reads_counted);
      writes_counted = omega (arith, c.in-None.ensures.counted, c.loop-buffer.invariant.writes_counted);
      disk_counted =
          counts_on (counts c.args.connection.now.vb.store.disk) (counts c.loop-buffer.connection.vb.store.disk) (counts c.take_piece.new.self.vb.store.disk)
          c.loop-buffer.invariant.disk_counted
          c.in-None.ensures.disk_counted;
    }

pub returns-in-Some-clause-stops : goal.returns-in-Some-clause-stops
returns-in-Some-clause-stops g c = λ before faults begin begins known.
    let states = g.D.Disk.states in
    let counts = g.D.Disk.counts in
    let left = g.S.Source.left c.read_piece.new.source in
    let small : c.loop-buffer.connection.fed + length c.split_at.result.0.now ≤ INPUT_LIMIT = omega (arith, c.in-Got.ensures.within, c.split_at.ensures.front_len, c.loop-buffer.invariant.fed, c.fed-room.ensures) in
    let seen : Seen = record {
      left_before = g.S.Source.left c.args.source.now;
      left_now = g.S.Source.left c.loop-buffer.source;
      written_before = g.K.Sink.written c.args.sink.now;
      written_now = g.K.Sink.written c.loop-buffer.sink;
      disk_before = before;
      disk_now = states c.take_piece.new.self.vb.store.disk;
      faults_before = faults;
      faults_now = (counts c.take_piece.new.self.vb.store.disk).faults;
    } in
    (c.in-Some.ensures.serves (record seen { left_now = left })
    (takes_piece states counts c.args.now seen c.loop-buffer.connection left c.read_piece.new.buffer c.split_at.result.0.now c.in-Got.count (c.loop-buffer.invariant.pauses seen begin begins known) c.in-Got.ensures.bytes
    c.split_at.ensures.front small)).0

pub returns-in-Some-clause-reads_counted : goal.returns-in-Some-clause-reads_counted
returns-in-Some-clause-reads_counted g c = omega (arith, c.in-Got.ensures.counted, c.loop-buffer.invariant.reads_counted)

pub returns-in-Some-clause-writes_counted : goal.returns-in-Some-clause-writes_counted
returns-in-Some-clause-writes_counted g c = omega (arith, c.in-Some.ensures.counted, c.loop-buffer.invariant.writes_counted)

-- a piece that is served never ends so, whatever is known of the vbucket
pub returns-in-Some-clause-read_cause : goal.returns-in-Some-clause-read_cause
returns-in-Some-clause-read_cause g c = λ e.
    let states = g.D.Disk.states in
    let counts = g.D.Disk.counts in
    let left = g.S.Source.left c.read_piece.new.source in
    let small : c.loop-buffer.connection.fed + length c.split_at.result.0.now ≤ INPUT_LIMIT = omega (arith, c.in-Got.ensures.within, c.split_at.ensures.front_len, c.loop-buffer.invariant.fed, c.fed-room.ensures) in
    let seen : Seen = record {
      left_before = g.S.Source.left c.args.source.now;
      left_now = g.S.Source.left c.loop-buffer.source;
      written_before = g.K.Sink.written c.args.sink.now;
      written_now = g.K.Sink.written c.loop-buffer.sink;
      disk_before = [];
      disk_now = [];
      faults_before = 0;
      faults_now = 0;
    } in
    absurd ((c.in-Some.ensures.serves (record seen { left_now = left })
    (takes_piece states counts c.args.now seen c.loop-buffer.connection left c.read_piece.new.buffer c.split_at.result.0.now c.in-Got.count (c.loop-buffer.invariant.pauses seen Unknown refl tt) c.in-Got.ensures.bytes
    c.split_at.ensures.front small)).1 e)

pub returns-in-Some-clause-write_cause : goal.returns-in-Some-clause-write_cause
returns-in-Some-clause-write_cause g c = λ e.
    then_rose (g.K.Sink.faults c.args.sink.now) (g.K.Sink.faults c.loop-buffer.sink) (g.K.Sink.faults c.take_piece.new.sink) c.loop-buffer.invariant.writes_counted (c.in-Some.ensures.cause (ap Some e))

pub returns-in-Some-clause-disk_counted : goal.returns-in-Some-clause-disk_counted
returns-in-Some-clause-disk_counted g c =
    let counts = g.D.Disk.counts in
    counts_on (counts c.args.connection.now.vb.store.disk) (counts c.loop-buffer.connection.vb.store.disk) (counts c.take_piece.new.self.vb.store.disk) c.loop-buffer.invariant.disk_counted c.in-Some.ensures.disk_counted

pub returns-in-End-clause-stops : goal.returns-in-End-clause-stops
returns-in-End-clause-stops g c = λ before faults begin begins known.
    let states = g.D.Disk.states in
    let counts = g.D.Disk.counts in
    let left = g.S.Source.left c.read_piece.new.source in
    let bytes = c.in-End.ensures.bytes in
    let seen : Seen = record {
      left_before = g.S.Source.left c.args.source.now;
      left_now = g.S.Source.left c.loop-buffer.source;
      written_before = g.K.Sink.written c.args.sink.now;
      written_now = g.K.Sink.written c.loop-buffer.sink;
      disk_before = before;
      disk_now = states c.loop-buffer.connection.vb.store.disk;
      faults_before = faults;
      faults_now = (counts c.loop-buffer.connection.vb.store.disk).faults;
    } in
    input_ended states counts c.args.now (record seen { left_now = left }) c.loop-buffer.connection c.at_end.result
    (stays_left states counts c.args.now seen c.loop-buffer.connection left (c.loop-buffer.invariant.pauses seen begin begins known) bytes.0) bytes.1 c.at_end.ensures

pub returns-in-Failed-clause-stops : goal.returns-in-Failed-clause-stops
returns-in-Failed-clause-stops g c = λ before faults begin begins known.
    let states = g.D.Disk.states in
    let counts = g.D.Disk.counts in
    let left = g.S.Source.left c.read_piece.new.source in
    let seen : Seen = record {
      left_before = g.S.Source.left c.args.source.now;
      left_now = g.S.Source.left c.loop-buffer.source;
      written_before = g.K.Sink.written c.args.sink.now;
      written_now = g.K.Sink.written c.loop-buffer.sink;
      disk_before = before;
      disk_now = states c.loop-buffer.connection.vb.store.disk;
      faults_before = faults;
      faults_now = (counts c.loop-buffer.connection.vb.store.disk).faults;
    } in
    read_failed states counts c.args.now (record seen { left_now = left }) c.loop-buffer.connection
    (stays_left states counts c.args.now seen c.loop-buffer.connection left (c.loop-buffer.invariant.pauses seen begin begins known) c.in-Failed.ensures.bytes)

pub returns-clause-stops : goal.returns-clause-stops
returns-clause-stops g c = λ before faults begin begins known.
    let states = g.D.Disk.states in
    let counts = g.D.Disk.counts in
    let seen : Seen = record {
      left_before = g.S.Source.left c.args.source.now;
      left_now = g.S.Source.left c.loop-buffer.source;
      written_before = g.K.Sink.written c.args.sink.now;
      written_now = g.K.Sink.written c.loop-buffer.sink;
      disk_before = before;
      disk_now = states c.loop-buffer.connection.vb.store.disk;
      faults_before = faults;
      faults_now = (counts c.loop-buffer.connection.vb.store.disk).faults;
    } in
    exceeds states counts c.args.now seen c.loop-buffer.connection (g.S.Source.left c.exceed.new.source) c.exceed.result (c.loop-buffer.invariant.pauses seen begin begins known)
    (omega (arith, c.loop-buffer.invariant.fed, c.fed.ensures, c.loop-buffer-test.false)) c.exceed.ensures.bytes
