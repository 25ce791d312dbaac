use Rattle.std.proofs.Common.{arith}
use Rattle.json_spell.proofs.Turned.{half_less}
use Rattle.json_spell.proofs.brackets.Brackets.innermost.Goals as goal

pub invariant_of-outer : goal.invariant_of-outer
invariant_of-outer c = record { few = omega (arith, c.args.self.few); no_others = half_less c.args.self.count c.args.self.objects c.if-self-eq0.false c.args.self.no_others }
