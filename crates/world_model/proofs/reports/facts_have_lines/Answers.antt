use Rattle.std.specs.Prelude.{◌≡◌, ℕ, List, [], ◌∷◌, Option, Some, refl, codes}
use Rattle.std.proofs.Common.{sym, subst}
use Rattle.durability_core.specs.declared.chain.Chain.{Chain}
use Rattle.replica_core.specs.declared.fences.PromoteFault.TheVariants as refusals
use Rattle.world_model.specs.Facts as facts
use Rattle.world_model.specs.Facts.{fact_line}
use Rattle.world_model.proofs.reports.facts_have_lines.Goals as goal

-- the chain of two places
abbrev two : List (Option (List ℕ))
two = Some (codes "a") ∷ Some (codes "b") ∷ []

-- a line of a chain with these names is that of this chain
line_of : (fact : facts.Fact) (text : List ℕ) → fact_line (record { names = two }) fact ≡ text
    → (chain : Chain) → chain.names ≡ two → fact_line chain fact ≡ text
line_of fact text line chain names =
    subst (λ (n : List (Option (List ℕ))). fact_line (record { names = n }) fact ≡ text) (sym names) line

pub returns : goal.returns
returns c = record {
  down = line_of (facts.IsDown 1) _ refl;
  fault = line_of (facts.Fault (codes "flush") 0) _ refl;
  refused = line_of (facts.Refused 1 refusals.NotLongest) _ refl;
  crashed = line_of (facts.Crashed 0) _ refl;
}
