-- Ids that are compared in rising order.
use Rattle.std.specs.Prelude.{◌≡◌, ℕ, nat_eq, IsTrue, List, ◌∷◌, ◌++◌}
use Rattle.std.specs.List.{list_any}
use Rattle.manifest_rules.specs.Rules.{with_ids}
use Rattle.manifest_rules.specs.State.{are_rising}

-- two lists have the same ids
abbrev pub SameIds : List ℕ → List ℕ → Type 0
SameIds xs ys = (id : ℕ) → list_any (nat_eq id) xs ≡ list_any (nat_eq id) ys

-- Of ids in rising order that are to be added to others, which begin with this one, those below it were put in front of
-- them, and these are left.
pub record IsPassed (id : ℕ) (ids left before after : List ℕ) : Type 0 where
  pub moved : (others : List ℕ) → before ++ with_ids ids (id ∷ others) ≡ after ++ id ∷ with_ids left others
  pub rising : IsTrue (are_rising left)
