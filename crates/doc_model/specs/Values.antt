-- The values of a map, as a list.
use Rattle.std.specs.Prelude.{◌≡◌, ℕ, nat_eq, sum, map as list_map, List, [], ◌∷◌, None}
use Rattle.std.specs.Map.{values_of}
use Rattle.std.specs.FinMap as map
use Rattle.doc_model.specs.declared.key.DocKey.{DocKey}
use Rattle.doc_model.specs.Keys.{key_cmp}

-- each key stands once
abbrev pub StandOnce : {X : Type 0} → List (DocKey × X) → Type 0
StandOnce [] = Unit {0}
StandOnce (e ∷ es) = (map.find key_cmp e.0 es ≡ None) × StandOnce es

-- the values of a map, that of each key once, in some order
pub record AreValues {X : Type 0} (m : map.FinMap key_cmp X) (values : List X) : Type 0 where
  pub entries : List (DocKey × X)
  pub once : StandOnce entries
  pub made : map.from_entries entries ≡ m
  pub read : values_of entries ≡ values

-- what the values of a map count together
abbrev pub weight_of : {X : Type 0} → (X → ℕ) → map.FinMap key_cmp X → ℕ
weight_of weight m = sum (list_map weight (map.values m))

-- what a map has of a collection
abbrev pub of_collection : {X : Type 0} → ℕ → map.FinMap key_cmp X → map.FinMap key_cmp X
of_collection collection m = map.retain_keys m (λ key. nat_eq key.collection collection)
