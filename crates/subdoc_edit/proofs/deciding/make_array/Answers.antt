use Rattle.std.proofs.Common.{refl}
use Rattle.json_model.specs.Edit.{push_last, push_first}
use Rattle.subdoc_edit.proofs.Gaps.{parts_decides, unique_decides}
use Rattle.subdoc_edit.proofs.deciding.make_array.Goals as goal

pub returns-clause-last : goal.returns-clause-last
returns-clause-last c d m asked gives describes =
    parts_decides push_last c.args.several c.args.text.now c.args.value.now c.args.parts.now d c.args.followed c.args.given c.make.result asked (λ vs trail t absent. refl) (λ vs h. h) c.make.ensures m gives describes

pub returns-clause-first : goal.returns-clause-first
returns-clause-first c d m asked gives describes =
    parts_decides push_first c.args.several c.args.text.now c.args.value.now c.args.parts.now d c.args.followed c.args.given c.make.result asked (λ vs trail t absent. refl) (λ vs h. h) c.make.ensures m gives describes

pub returns-clause-unique : goal.returns-clause-unique
returns-clause-unique c d m asked gives describes =
    unique_decides c.args.several c.args.text.now c.args.value.now c.args.parts.now d c.args.followed c.args.given c.make.result asked c.make.ensures m gives describes
