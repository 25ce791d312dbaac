use Rattle.std.proofs.Common.{◌∙◌}
use Rattle.doc_model.proofs.Searched.{found_sorted}
use Rattle.manifest_rules.proofs.ids.is_among_sorted.Goals as goal

pub returns : goal.returns
returns c = c.is_ok.ensures.value ∙ found_sorted c.args.ids.now c.args.id c.binary_search.result c.binary_search.ensures.position c.requires
