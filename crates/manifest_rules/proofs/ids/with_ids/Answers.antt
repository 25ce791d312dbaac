use Rattle.std.proofs.Common.{◌≡◌, ap, ◌∙◌}
use Rattle.manifest_rules.specs.Rules.{with_ids}
use Rattle.manifest_rules.specs.State.{are_rising}
use Rattle.manifest_rules.proofs.Gone.{with_ids-rising}
use Rattle.manifest_rules.proofs.Rising.{added_same}
use Rattle.manifest_rules.proofs.ids.with_ids.Goals as goal

pub returns-clause-value : goal.returns-clause-value
returns-clause-value c =
    c.in_ok-merged.ensures ∙ ap (λ l. with_ids l c.args.ids.now) c.as_slice.ensures.value
    ∙ added_same c.args.ids.now c.args.others.now c.in_ok-others.others.items c.requires c.in_ok-others.ensures.same

pub returns-clause-rising : goal.returns-clause-rising
returns-clause-rising c =
    ap are_rising (c.in_ok-merged.ensures ∙ ap (λ l. with_ids l c.args.ids.now) c.as_slice.ensures.value)
    ∙ with_ids-rising c.in_ok-others.others.items c.args.ids.now c.requires
