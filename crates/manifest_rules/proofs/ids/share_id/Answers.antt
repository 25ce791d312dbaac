use Rattle.manifest_rules.proofs.Rising.{rising_sorted}
use Rattle.manifest_rules.proofs.ids.share_id.Goals as goal

pub is_among_sorted-requires : goal.is_among_sorted-requires
is_among_sorted-requires c = rising_sorted c.args.others.now c.requires
