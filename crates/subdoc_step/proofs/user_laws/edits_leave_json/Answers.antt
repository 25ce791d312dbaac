use Rattle.subdoc_step.proofs.Left.{leaves_json}
use Rattle.subdoc_step.proofs.user_laws.edits_leave_json.Goals as goal

pub returns : goal.returns
returns c = leaves_json
