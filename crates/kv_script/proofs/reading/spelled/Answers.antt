use Rattle.std.proofs.Common.{ap, ◌∙◌}
use Rattle.kv_script.specs.Reading.{texts}
use Rattle.kv_script.proofs.Reread.{reread}
use Rattle.kv_script.proofs.reading.spelled.Goals as goal

pub returns-in-Ok : goal.returns-in-Ok
returns-in-Ok c = reread c.worded.result _ c.args.line.now (ap texts c.as_slice.ensures.value ∙ c.in-Ok.ensures) c.worded.ensures
