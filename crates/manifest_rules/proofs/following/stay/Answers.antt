use Rattle.std.proofs.Common.{sym, ◌∙◌}
use Rattle.manifest_rules.proofs.Placed.{stay-nested}
use Rattle.manifest_rules.proofs.following.stay.Goals as goal

pub returns : goal.returns
returns c = c.all_stay.ensures ∙ sym (stay-nested c.args.old.now c.args.new.now)
