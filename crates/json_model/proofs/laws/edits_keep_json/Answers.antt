use Rattle.json_model.proofs.Kept.{edit_fits}
use Rattle.json_model.proofs.laws.edits_keep_json.Goals as goal

pub returns : goal.returns
returns c = edit_fits
