use Rattle.std.proofs.Common.{rules, not}
use Rattle.std.proofs.lemmas.Map.Made.{filter_same_pairs}
use Rattle.doc_model.specs.Keys.{is_in}
use Rattle.doc_model.proofs.dropping.remove_others.Goals as goal

pub returns : goal.returns
returns g c = filter_same_pairs _ (λ e. not (is_in c.args.collections.now e.0)) _ (λ k v b w f' t. search rules) c.args.others.now.entries c.retain.new.self.entries c.retain.ensures.filtered
