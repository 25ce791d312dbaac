use Rattle.std.proofs.Common.{◌∙◌, ap, subst, sym}
use Rattle.vb_log.specs.Held.{items_size, StandAtKeys}
use Rattle.vb_log.proofs.Weighing.{size_none, stand_none}
use Rattle.vb_log.proofs.items.Items.new.Goals as goal

pub invariant_of-result : goal.invariant_of-result
invariant_of-result c = (
  sym (ap items_size c.new.ensures ∙ size_none),
  subst StandAtKeys (sym c.new.ensures) stand_none,
)
