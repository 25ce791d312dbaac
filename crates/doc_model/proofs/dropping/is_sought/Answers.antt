use Rattle.std.proofs.Common.{◌∙◌}
use Rattle.doc_model.proofs.Searched.{found_sorted}
use Rattle.doc_model.proofs.dropping.is_sought.Goals as goal

pub returns : goal.returns
returns c = λ up. c.is_ok.ensures.value ∙ found_sorted c.args.collections.now c.args.key.now.collection c.binary_search.result c.binary_search.ensures.position up
