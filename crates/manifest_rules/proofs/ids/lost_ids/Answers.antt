use Rattle.std.proofs.Common.{ap, ◌∙◌}
use Rattle.manifest_rules.specs.Rules.{lost}
use Rattle.manifest_rules.proofs.Sorted.{lost_sorted}
use Rattle.manifest_rules.proofs.ids.lost_ids.Goals as goal

pub returns : goal.returns
returns c =
    c.in_ok-lost_to.ensures ∙ ap (lost c.args.ids.now) c.as_slice.ensures.value
    ∙ lost_sorted c.args.ids.now c.args.others.now c.in_ok-others.others.items c.in_ok-others.ensures.same
