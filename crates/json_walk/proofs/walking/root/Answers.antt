use Rattle.std.proofs.Common.{length, ap, ℕ, List, arith}
use Rattle.json_spell.proofs.Placed.{behind_short}
use Rattle.json_walk.proofs.Heads.{root_is}
use Rattle.json_walk.proofs.walking.root.Goals as goal

pub overflow_sub-result : goal.overflow_sub-result
overflow_sub-result c = omega (arith, ap (λ (l : List ℕ). length l) c.skip_blanks.ensures, behind_short c.args.text.now)

pub returns-clause-found : goal.returns-clause-found
returns-clause-found c = root_is c.args.text.now c.skip_blanks.result.now c.skip_blanks.ensures
