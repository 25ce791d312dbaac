-- What a manifest means: its uid, its scopes and their collections in order, and the ids that were ever dropped.
use Rattle.std.specs.Prelude.{ℕ, ◌^◌, nat_eq, nat_lt, Bool, ◌&&◌, map, find, List, Option}
use Rattle.std.specs.List.{list_all, flat_map}
use Rattle.std.specs.Option.{option_map_or}
use Rattle.manifest_rules.specs.declared.types.Scope.{Scope}
use Rattle.manifest_rules.specs.declared.types.Collection.{Collection}

pub record Catalog : Type 0 where
  pub uid : ℕ
  pub scopes : List Scope
  -- both in rising order
  pub dropped_scopes : List ℕ
  pub dropped_collections : List ℕ

-- the ids of scopes, in order
abbrev pub scope_ids : List Scope → List ℕ
scope_ids scopes = map (λ s. s.id) scopes

-- the collections of all scopes, in order
abbrev pub collections_in : List Scope → List Collection
collections_in scopes = flat_map (λ s. s.collections) scopes

-- the ids of collections, in order
abbrev pub collection_ids : List Scope → List ℕ
collection_ids scopes = map (λ c. c.id) (collections_in scopes)

-- the collection of an id, the first where there are several
abbrev pub collection_at : List Scope → ℕ → Option Collection
collection_at scopes id = find (λ c. nat_eq c.id id) (collections_in scopes)

-- the greatest lifetime of a collection's documents in seconds, 0 for any
abbrev pub max_ttl_of : List Scope → ℕ → ℕ
max_ttl_of scopes id = option_map_or (λ c. c.max_ttl) (collection_at scopes id) 0

-- the uid is below 2^64, and ids and lifetimes are below 2^32
abbrev pub numbers_fit : ℕ → List Scope → Bool
numbers_fit uid scopes =
    nat_lt uid (2 ^ 64) && list_all (λ s. nat_lt s.id (2 ^ 32)) scopes
    && list_all (λ c. nat_lt c.id (2 ^ 32) && nat_lt c.max_ttl (2 ^ 32)) (collections_in scopes)
