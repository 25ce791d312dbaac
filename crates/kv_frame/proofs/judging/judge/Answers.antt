use Rattle.kv_frame.proofs.Unique.{judges_only}
use Rattle.kv_frame.proofs.judging.judge.Goals as goal

pub returns-clause-only : goal.returns-clause-only
returns-clause-only c f rest is e = judges_only c.args.side c.args.bytes.now c.judge_bytes.result f rest is e c.judge_bytes.ensures
