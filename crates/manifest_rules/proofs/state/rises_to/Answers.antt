use Rattle.std.proofs.Common.{sym, ap, ◌∙◌}
use Rattle.std.specs.Option.{option_copied}
use Rattle.manifest_rules.proofs.Sorted.{rises_last}
use Rattle.manifest_rules.proofs.state.rises_to.Goals as goal

pub returns-in-Some : goal.returns-in-Some
returns-in-Some c = rises_last c.args.ids.now c.in-Some.last.now c.args.id c.requires (sym c.last.ensures.value ∙ ap option_copied c.in-Some.is)
