use Rattle.std.proofs.Common.{refl}
use Rattle.json_model.specs.Edit.{dict_upsert, replace}
use Rattle.subdoc_edit.proofs.Decisions.{found_stands, put_decides}
use Rattle.subdoc_edit.proofs.deciding.replace.Goals as goal

pub put_at-requires-clause-stands : goal.put_at-requires-clause-stands
put_at-requires-clause-stands c = found_stands c.args.text.now c.args.parts.now c.requires.found.0 c.args.at c.requires.found.1

pub returns-clause-upserts : goal.returns-clause-upserts
returns-clause-upserts c d several l asked gives describes =
    put_decides dict_upsert several c.args.text.now c.args.value.now c.args.parts.now d c.args.at c.args.given c.put_at.result asked (λ v trail t. refl) (λ v h. h) c.put_at.ensures.plan c.put_at.ensures.number l gives describes

pub returns-clause-replaces : goal.returns-clause-replaces
returns-clause-replaces c d several l asked gives describes =
    put_decides replace several c.args.text.now c.args.value.now c.args.parts.now d c.args.at c.args.given c.put_at.result asked (λ v trail t. refl) (λ v h. h) c.put_at.ensures.plan c.put_at.ensures.number l gives describes
