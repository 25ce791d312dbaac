use Rattle.std.proofs.Common.{ℕ, List, length, drop, ap, subst, arith, length-drop}
use Rattle.std.proofs.lemmas.List.{drop-drop}
use Rattle.kv_tool.specs.declared.connection.Turn.TheVariants as turns
use Rattle.kv_tool.specs.Outcomes.{Seen}
use Rattle.kv_tool.specs.Progress.{Progress, FeedsOn, FeedsOne, Turns}
use Rattle.kv_tool.proofs.Counting.{shrinks, written_held, written_fed, written_vb, failed_vb, finishes_vb, finishes_held, finishes_fed, feeds_count, counts_on, counts_none, counts_kept}
use Rattle.kv_tool.proofs.Running.{feeds, feeds_all, feeds_one, writes}
use Rattle.kv_tool.proofs.Ending.{fails, falls_short, pauses, ends}
use Rattle.kv_tool.proofs.connection.Connection.take_piece.Goals as goal

pub loop-count-smaller : goal.loop-count-smaller
loop-count-smaller g c =
    let n = shrinks g.D.Disk.states g.D.Disk.counts c.args.now c.loop-count.self c.answer_next.new.self c.split_at.result.1.now c.in-Answered.count c.in-Answered.ensures.turns in
    let held = written_held c.answer_next.new.self c.write_piece.new.self c.in-Done.ensures.bytes.0 in
    let rest = ap (λ (l : List ℕ). length l) c.split_at.ensures.back in
    omega (arith, n.held, n.within, held, rest, length-drop c.loop-count.at c.args.piece.now, c.loop-count.invariant.within)

pub loop-count-init : goal.loop-count-init
loop-count-init g c = record {
  progress = λ seen p. p;
  within = omega arith;
  held = c.requires.held;
  fed = omega arith;
  counted = omega arith;
  disk_counted = counts_none (g.D.Disk.counts c.args.self.now.vb.store.disk);
}

pub loop-count-preserved : goal.loop-count-preserved
loop-count-preserved g c =
    let states = g.D.Disk.states in
    let counts = g.D.Disk.counts in
    let wrote = c.in-Done.ensures.bytes in
    let piece = c.args.piece.now in
    let at = c.loop-count.at in
    let count = c.in-Answered.count in
    let old = c.loop-count.self in
    let new = c.answer_next.new.self in
    let n = shrinks states counts c.args.now old new c.split_at.result.1.now count c.in-Answered.ensures.turns in
    let held = written_held new c.write_piece.new.self wrote.0 in
    let fed = written_fed new c.write_piece.new.self wrote.0 in
    let rest = ap (λ (l : List ℕ). length l) c.split_at.ensures.back in
    record {
      progress = λ seen p.
          let before : Seen = record seen { written_now = g.K.Sink.written c.loop-count.sink } in
          let one : FeedsOne states counts c.args.now old (drop at piece) new count = subst (λ (l : List ℕ). FeedsOne states counts c.args.now old l new count) c.split_at.ensures.back c.in-Answered.ensures.turns in
          let answered : Progress states counts c.args.now before (drop count (drop at piece)) new = feeds_one states counts c.args.now before (drop at piece) old new count (c.loop-count.invariant.progress seen p) one in
          subst (λ (l : List ℕ). Progress states counts c.args.now (record seen { written_now = g.K.Sink.written c.write_piece.new.sink }) l c.write_piece.new.self) (drop-drop count at piece)
          (writes states counts c.args.now seen (drop count (drop at piece)) new c.write_piece.new.self (g.K.Sink.written c.loop-count.sink) (g.K.Sink.written c.write_piece.new.sink) wrote.1 answered wrote.0 wrote.2 wrote.3);
      within = omega (arith, n.within, rest, length-drop at piece, c.loop-count.invariant.within);
      held = omega (arith, n.held, n.fed, held, fed, c.loop-count.invariant.held);
      fed = omega (arith, n.fed, fed, c.loop-count.invariant.fed);
      counted = omega (arith, c.in-Done.ensures.counted, c.loop-count.invariant.counted);
      disk_counted =
          counts_kept counts (counts c.args.self.now.vb.store.disk) new c.write_piece.new.self
          (counts_on (counts c.args.self.now.vb.store.disk) (counts old.vb.store.disk) (counts new.vb.store.disk) c.loop-count.invariant.disk_counted c.in-Answered.ensures.disk_counted)
          (written_vb new c.write_piece.new.self wrote.0);
    }

pub returns-in-Failed-clause-serves : goal.returns-in-Failed-clause-serves
returns-in-Failed-clause-serves g c = λ seen p.
    let states = g.D.Disk.states in
    let counts = g.D.Disk.counts in
    let before = g.K.Sink.written c.loop-count.sink in
    let rest : List ℕ = drop c.loop-count.at c.args.piece.now in
    let count = c.in-Answered.count in
    let new = c.answer_next.new.self in
    let one : FeedsOne states counts c.args.now c.loop-count.self rest new count = subst (λ (l : List ℕ). FeedsOne states counts c.args.now c.loop-count.self l new count) c.split_at.ensures.back c.in-Answered.ensures.turns in
    fails states counts c.args.now seen (drop count rest) new c.write_piece.new.self before (g.K.Sink.written c.write_piece.new.sink)
    (feeds_one states counts c.args.now (record seen { written_now = before }) rest c.loop-count.self new count (c.loop-count.invariant.progress seen p) one)
    c.in-Failed.ensures.bytes

pub returns-in-Failed-clause-disk_counted : goal.returns-in-Failed-clause-disk_counted
returns-in-Failed-clause-disk_counted g c =
    let counts = g.D.Disk.counts in
    let first = counts c.args.self.now.vb.store.disk in
    let new = c.answer_next.new.self in
    counts_kept counts first new c.write_piece.new.self
    (counts_on first (counts c.loop-count.self.vb.store.disk) (counts new.vb.store.disk) c.loop-count.invariant.disk_counted c.in-Answered.ensures.disk_counted)
    (failed_vb new c.write_piece.new.self c.in-Failed.ensures.bytes.0)

pub returns-in-Waits-clause-serves : goal.returns-in-Waits-clause-serves
returns-in-Waits-clause-serves g c = λ seen p.
    let states = g.D.Disk.states in
    let counts = g.D.Disk.counts in
    let before = g.K.Sink.written c.loop-count.sink in
    let rest : List ℕ = drop c.loop-count.at c.args.piece.now in
    let new = c.answer_next.new.self in
    let fed : FeedsOn c.loop-count.self rest new (length rest) = subst (λ (l : List ℕ). FeedsOn c.loop-count.self l new (length l)) c.split_at.ensures.back c.in-Waits.ensures.turns.0 in
    pauses states counts c.args.now seen new c.finish.new.self before (g.K.Sink.written c.finish.new.sink) c.finish.result
    (feeds_all states counts c.args.now (record seen { written_now = before }) rest c.loop-count.self new (c.loop-count.invariant.progress seen p) fed)
    c.in-Waits.ensures.turns.1
    c.finish.ensures.bytes

pub returns-in-Waits-clause-disk_counted : goal.returns-in-Waits-clause-disk_counted
returns-in-Waits-clause-disk_counted g c =
    let counts = g.D.Disk.counts in
    let first = counts c.args.self.now.vb.store.disk in
    let new = c.answer_next.new.self in
    counts_kept counts first new c.finish.new.self
    (counts_on first (counts c.loop-count.self.vb.store.disk) (counts new.vb.store.disk) c.loop-count.invariant.disk_counted c.in-Waits.ensures.disk_counted)
    (finishes_vb _ _ new c.finish.new.self _ _ c.finish.ensures.bytes)

pub returns-in-Waits-clause-held : goal.returns-in-Waits-clause-held
returns-in-Waits-clause-held g c = λ e.
    let new = c.answer_next.new.self in
    let n = feeds_count c.loop-count.self new c.split_at.result.1.now (length c.split_at.result.1.now) c.in-Waits.ensures.turns.0 in
    omega (arith, n.held, n.fed, finishes_held _ _ new c.finish.new.self _ _ c.finish.ensures.bytes, finishes_fed _ _ new c.finish.new.self _ _ c.finish.ensures.bytes, c.loop-count.invariant.held)

pub returns-in-Waits-clause-fed : goal.returns-in-Waits-clause-fed
returns-in-Waits-clause-fed g c = λ e.
    let new = c.answer_next.new.self in
    let n = feeds_count c.loop-count.self new c.split_at.result.1.now (length c.split_at.result.1.now) c.in-Waits.ensures.turns.0 in
    let rest = ap (λ (l : List ℕ). length l) c.split_at.ensures.back in
    omega (arith, n.fed, finishes_fed _ _ new c.finish.new.self _ _ c.finish.ensures.bytes, rest, length-drop c.loop-count.at c.args.piece.now, c.loop-count.invariant.within, c.loop-count.invariant.fed)

pub returns-in-Over-clause-serves : goal.returns-in-Over-clause-serves
returns-in-Over-clause-serves g c = λ seen p.
    let states = g.D.Disk.states in
    let counts = g.D.Disk.counts in
    let before = g.K.Sink.written c.loop-count.sink in
    let rest : List ℕ = drop c.loop-count.at c.args.piece.now in
    let new = c.answer_next.new.self in
    let over = c.in-Over.ensures.turns in
    let fed : FeedsOn c.loop-count.self rest new over.0 = subst (λ (l : List ℕ). FeedsOn c.loop-count.self l new over.0) c.split_at.ensures.back over.1 in
    ends states counts c.args.now seen (drop over.0 rest) new c.finish-in-Over.new.self before (g.K.Sink.written c.finish-in-Over.new.sink) c.in-Over.exit c.finish-in-Over.result
    (feeds states counts c.args.now (record seen { written_now = before }) rest c.loop-count.self new over.0 (c.loop-count.invariant.progress seen p) fed)
    over.2
    c.finish-in-Over.ensures.bytes

pub returns-in-Over-clause-disk_counted : goal.returns-in-Over-clause-disk_counted
returns-in-Over-clause-disk_counted g c =
    let counts = g.D.Disk.counts in
    let first = counts c.args.self.now.vb.store.disk in
    let new = c.answer_next.new.self in
    counts_kept counts first new c.finish-in-Over.new.self
    (counts_on first (counts c.loop-count.self.vb.store.disk) (counts new.vb.store.disk) c.loop-count.invariant.disk_counted c.in-Over.ensures.disk_counted)
    (finishes_vb _ _ new c.finish-in-Over.new.self _ _ c.finish-in-Over.ensures.bytes)

pub returns-in-NoMemory-clause-serves : goal.returns-in-NoMemory-clause-serves
returns-in-NoMemory-clause-serves g c = λ seen p.
    let states = g.D.Disk.states in
    let counts = g.D.Disk.counts in
    let before = g.K.Sink.written c.loop-count.sink in
    let rest : List ℕ = drop c.loop-count.at c.args.piece.now in
    let new = c.answer_next.new.self in
    let fell : Turns states counts c.args.now c.loop-count.self rest new turns.NoMemory =
    subst (λ (l : List ℕ). Turns states counts c.args.now c.loop-count.self l new turns.NoMemory) c.split_at.ensures.back c.in-NoMemory.ensures.turns in
    falls_short states counts c.args.now seen rest c.loop-count.self new c.finish-in-NoMemory.new.self before (g.K.Sink.written c.finish-in-NoMemory.new.sink) c.finish-in-NoMemory.result
    (c.loop-count.invariant.progress seen p) fell c.finish-in-NoMemory.ensures.bytes

pub returns-in-NoMemory-clause-disk_counted : goal.returns-in-NoMemory-clause-disk_counted
returns-in-NoMemory-clause-disk_counted g c =
    let counts = g.D.Disk.counts in
    let first = counts c.args.self.now.vb.store.disk in
    let new = c.answer_next.new.self in
    counts_kept counts first new c.finish-in-NoMemory.new.self
    (counts_on first (counts c.loop-count.self.vb.store.disk) (counts new.vb.store.disk) c.loop-count.invariant.disk_counted c.in-NoMemory.ensures.disk_counted)
    (finishes_vb _ _ new c.finish-in-NoMemory.new.self _ _ c.finish-in-NoMemory.ensures.bytes)
