use Rattle.std.specs.Prelude.{is_some, count_by}
use Rattle.std.proofs.Common.{◌≡◌, ◌∙◌, rules}
use Rattle.durability_core.proofs.Counts.{named_length}
use Rattle.durability_core.proofs.chain.Chain.named_count.Goals as goal

pub returns : goal.returns
returns c =
    let counted : c.count.result ≡ count_by is_some c.args.self.now.names = search rules in
    counted ∙ named_length 0 c.args.self.now.names
