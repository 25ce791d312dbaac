use Rattle.std.proofs.lemmas.Result.{IfOk-weaker}
use Rattle.kv_frame.specs.Viewing.{step_seen, Views, Finds}
use Rattle.kv_frame.proofs.Unique.{decodes_only}
use Rattle.kv_frame.proofs.viewing.view.Goals as goal

pub returns-clause-only : goal.returns-clause-only
returns-clause-only c =
    IfOk-weaker c.read_step.result (Views c.args.side c.args.bytes.now) (Finds c.args.side c.args.bytes.now)
    (λ step told f rest is e. decodes_only c.args.side c.args.bytes.now (step_seen step) f rest is e told)
    c.read_step.ensures
