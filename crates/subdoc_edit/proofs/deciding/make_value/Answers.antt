use Rattle.std.proofs.Common.{refl}
use Rattle.json_model.specs.Edit.{dict_add, dict_upsert}
use Rattle.subdoc_edit.proofs.Gaps.{value_decides}
use Rattle.subdoc_edit.proofs.deciding.make_value.Goals as goal

pub returns-clause-adds : goal.returns-clause-adds
returns-clause-adds c d m asked gives describes =
    value_decides dict_add c.args.several c.args.text.now c.args.value.now c.args.parts.now d c.args.followed c.args.given c.make.result asked (λ v trail t absent. refl) (λ v h. h) c.make.ensures m gives describes

pub returns-clause-upserts : goal.returns-clause-upserts
returns-clause-upserts c d m asked gives describes =
    value_decides dict_upsert c.args.several c.args.text.now c.args.value.now c.args.parts.now d c.args.followed c.args.given c.make.result asked (λ v trail t absent. refl) (λ v h. h) c.make.ensures m gives describes
