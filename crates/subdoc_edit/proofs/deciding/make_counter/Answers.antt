use Rattle.std.proofs.Common.{length, true, false, Some, rules, subst, ℤ, w64}
use Rattle.std.proofs.lemmas.Int.{to_z-of_z}
use Rattle.std.specs.Int.RustNames.{FitsSigned}
use Rattle.subdoc_edit.specs.Planning.{MakesMember}
use Rattle.subdoc_edit.proofs.Gaps.{counter_decides}
use Rattle.subdoc_edit.proofs.deciding.make_counter.Goals as goal

pub returns : goal.returns
returns c d m asked gives describes =
    let fits : FitsSigned w64 c.args.given.delta = search rules in
    counter_decides c.args.several c.args.text.now c.args.value.now c.args.parts.now d c.args.followed c.args.given c.make.result asked
    (subst (λ (z : ℤ). MakesMember true c.args.several c.args.text.now c.args.value.now c.args.parts.now c.args.followed (record { from = 0; to = length c.args.value.now; listed = false; depth = 0; number = Some z }) c.make.result) (to_z-of_z w64 c.args.given.delta fits) c.make.ensures)
    m gives describes
