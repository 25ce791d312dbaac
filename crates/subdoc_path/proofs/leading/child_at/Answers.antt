use Rattle.std.proofs.Common.{ℕ, List, ap, subst, sym, ◌∙◌}
use Rattle.json_model.specs.declared.asked.Part.{Part}
use Rattle.json_model.specs.declared.asked.Part.TheVariants.{Member}
use Rattle.subdoc_path.specs.Naming.{FindsAt}
use Rattle.subdoc_path.proofs.leading.child_at.Goals as goal

pub returns-in-Member : goal.returns-in-Member
returns-in-Member c = subst (λ (p : Part). FindsAt c.args.text.now c.args.at p c.member_at.result) (ap (λ (name : List ℕ). Member name) c.as_slice.ensures ∙ sym c.in-Member.is) c.member_at.ensures

pub returns-in-At : goal.returns-in-At
returns-in-At c = subst (λ (p : Part). FindsAt c.args.text.now c.args.at p c.element_at.result) (sym c.in-At.is) c.element_at.ensures

pub returns-in-Last : goal.returns-in-Last
returns-in-Last c = subst (λ (p : Part). FindsAt c.args.text.now c.args.at p c.last_at.result) (sym c.in-Last.is) c.last_at.ensures
