use Rattle.std.proofs.Common.{rules, sym, ap, ◌∙◌, option_map}
use Rattle.serde_json.specs.View.{view, items_view}
use Rattle.manifest_rules.proofs.Fits.{scopes_from-fit}
use Rattle.manifest_rules.proofs.reading.parts_from.Goals as goal

pub returns-in-Some-2 : goal.returns-in-Some-2
returns-in-Some-2 c = (
  search rules,
  scopes_from-fit (view c.args.value.now) (c.in-Some.parts.0, items_view c.in-Some.parts.1.now) c.in-Some-2.scopes
      (sym c.manifest_parts.ensures ∙ ap (option_map (λ x. (x.0, items_view x.1.now))) c.in-Some.is)
      (sym c.in_ok-scopes.ensures ∙ c.in-Some-2.is),
)
