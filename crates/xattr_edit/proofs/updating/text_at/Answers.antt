use Rattle.std.proofs.Common.{ℕ, ◌-◌, List, [], ◌∷◌, take, subst, ap, ◌∙◌}
use Rattle.json_model.specs.declared.asked.Part.{Part}
use Rattle.json_model.specs.declared.asked.Part.TheVariants.{Member}
use Rattle.subdoc_path.specs.declared.led.Led.TheVariants as led
use Rattle.subdoc_path.specs.Led.{LeadsAt}
use Rattle.subdoc_edit.proofs.Trails.{leads_at}
use Rattle.xattr_edit.proofs.Found.{first_alone, found_there, missing_there, mismatch_there, text_found}
use Rattle.xattr_edit.proofs.updating.text_at.Goals as goal

pub returns-in-At : goal.returns-in-At
returns-in-At c name begins =
    let (d, is) = c.requires.json in
    let first = first_alone name c.args.parts.now c.split_at.result.0.now begins c.split_at.ensures.front in
    let f =
    leads_at c.args.object.now (Member name ∷ []) d c.in-At.at
    (subst (λ (ps : List Part). LeadsAt ps c.args.object.now d (led.At c.in-At.at)) first (c.in-At.ensures d is)) in
    ap text_found (c.split_at-in-At-2.ensures.front ∙ ap (λ (l : List ℕ). take (c.value_end.result - c.in-At.at) l) c.split_at-in-At.ensures.back)
    ∙ found_there name c.args.object.now d c.in-At.at c.value_end.result is f (c.value_end.ensures.found f.tree f.stands.place)

pub returns-in-Missing : goal.returns-in-Missing
returns-in-Missing c name begins =
    let (d, is) = c.requires.json in
    missing_there name c.args.object.now d c.in-Missing.field-0 is
    (subst (λ (ps : List Part). LeadsAt ps c.args.object.now d (led.Missing c.in-Missing.field-0)) (first_alone name c.args.parts.now c.split_at.result.0.now begins c.split_at.ensures.front) (c.in-Missing.ensures d is))

pub returns-in-Mismatch : goal.returns-in-Mismatch
returns-in-Mismatch c name begins =
    let (d, is) = c.requires.json in
    mismatch_there name c.args.object.now d c.in-Mismatch.field-0 is
    (subst (λ (ps : List Part). LeadsAt ps c.args.object.now d (led.Mismatch c.in-Mismatch.field-0)) (first_alone name c.args.parts.now c.split_at.result.0.now begins c.split_at.ensures.front) (c.in-Mismatch.ensures d is))
