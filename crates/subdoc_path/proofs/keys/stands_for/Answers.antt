use Rattle.std.proofs.Common.{◌∙◌, ap, List, ℕ}
use Rattle.subdoc_path.specs.Matching.{matches}
use Rattle.subdoc_path.proofs.Steps.{string_says, tail_length}
use Rattle.std.proofs.Common.{None}
use Rattle.subdoc_path.proofs.keys.stands_for.Goals as goal

pub returns-in-len1-up : goal.returns-in-len1-up
returns-in-len1-up c = string_says c.args.key.now c.args.name.now c.spells.result c.requires (c.spells.ensures ∙ ap (λ (l : List ℕ). matches None l c.args.name.now) (tail_length c.args.key.now))
