use Rattle.doc_ops.proofs.Answered.{json_is}
use Rattle.doc_ops.proofs.documents.json_of.Goals as goal

pub returns : goal.returns
returns c = json_is c.is_json.result c.args.value.now c.is_json.ensures.found c.is_json.ensures.only
