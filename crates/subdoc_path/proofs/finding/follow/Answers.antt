use Rattle.std.proofs.Common.{ℕ, List, ap, subst, sym, ◌∙◌}
use Rattle.json_model.specs.declared.asked.Part.{Part}
use Rattle.json_model.specs.declared.asked.Part.TheVariants.{Member}
use Rattle.subdoc_path.specs.Stepping.{Steps}
use Rattle.subdoc_path.proofs.finding.follow.Goals as goal

pub returns-in-Member : goal.returns-in-Member
returns-in-Member c place key t s f = subst (λ (p : Part). Steps p t c.args.at c.to_member.result) (ap (λ (name : List ℕ). Member name) c.as_slice.ensures ∙ sym c.in-Member.is) (c.to_member.ensures place key t s f)

pub returns-in-At : goal.returns-in-At
returns-in-At c place key t s f = subst (λ (p : Part). Steps p t c.args.at c.to_element.result) (sym c.in-At.is) (c.to_element.ensures place key t s f)

pub returns-in-Last : goal.returns-in-Last
returns-in-Last c place key t s f = subst (λ (p : Part). Steps p t c.args.at c.to_last.result) (sym c.in-Last.is) (c.to_last.ensures place key t s f)
