use Rattle.manifest_rules.proofs.Rising.{Merging}
use Rattle.manifest_rules.proofs.ids.merged.Given as goal

abbrev pub invariant-loop-id : goal.invariant-loop-id
invariant-loop-id l = Merging l.ids l.others l.left l.all.items l.id-index
