use Rattle.std.proofs.Common.{[], ◌∷◌, sym, ap, ◌∙◌, arith}
use Rattle.json_model.specs.declared.asked.Part.{Part}
use Rattle.json_model.specs.Order.{ends_in_index}
use Rattle.subdoc_edit.proofs.Edits.{last_index}
use Rattle.subdoc_edit.proofs.editing.ends_in_index.Goals as goal

pub returns-in-Member : goal.returns-in-Member
returns-in-Member c = ap (λ (p : Part). ends_in_index (p ∷ [])) (sym c.in-Member.is) ∙ last_index c.args.parts.now c.in-Some.part.now c.in-Some.ensures.item.1 (omega (arith, c.in-Some.ensures.item.3))

pub returns-in-At : goal.returns-in-At
returns-in-At c = ap (λ (p : Part). ends_in_index (p ∷ [])) (sym c.in-At.is) ∙ last_index c.args.parts.now c.in-Some.part.now c.in-Some.ensures.item.1 (omega (arith, c.in-Some.ensures.item.3))

pub returns-in-Last : goal.returns-in-Last
returns-in-Last c = ap (λ (p : Part). ends_in_index (p ∷ [])) (sym c.in-Last.is) ∙ last_index c.args.parts.now c.in-Some.part.now c.in-Some.ensures.item.1 (omega (arith, c.in-Some.ensures.item.3))
