use Rattle.std.proofs.Common.{sym, ◌∙◌, arith}
use Rattle.manifest_rules.proofs.Fits.{id_at-lt}
use Rattle.manifest_rules.proofs.reading.short_id_member.Goals as goal

pub overflow_cast-result : goal.overflow_cast-result
overflow_cast-result c = omega (arith, id_at-lt 8 c.args.name.now _ c.in_ok-id.id (sym c.id_member.ensures ∙ c.in_ok-id.was))
