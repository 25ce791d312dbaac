-- What the map beside the scopes has: the greatest lifetime of each collection.
use Rattle.std.specs.Prelude.{◌≡◌, ℕ, nat_eq, find, List, Option, option_map}
use Rattle.std.specs.BTreeMap.{BTreeMap, get}
use Rattle.std.specs.Ordering.{nat_cmp}
use Rattle.manifest_rules.specs.declared.types.Collection.{Collection}

-- the greatest lifetime of the first collection with an id
abbrev pub ttl_in : List Collection → ℕ → Option ℕ
ttl_in collections id = option_map (λ c. c.max_ttl) (find (λ c. nat_eq c.id id) collections)

-- a map has each collection's greatest lifetime, and nothing else
abbrev pub HasLifetimes : BTreeMap ℕ ℕ → List Collection → Type 0
HasLifetimes m collections = (id : ℕ) → get nat_cmp m id ≡ ttl_in collections id
