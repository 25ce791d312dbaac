-- A manifest as a JSON value whose members stand in the order of its text.
use Rattle.std.proofs.Common.{ℕ, nat_eq, List, [], ◌∷◌, codes, cond}
use Rattle.serde_json.specs.Data.{Data, unsigned, number, string, array, object, Items, no_items, item, Members, no_members, member}
use Rattle.manifest_rules.specs.declared.types.Scope.{Scope}
use Rattle.manifest_rules.specs.declared.types.Collection.{Collection}
use Rattle.manifest_rules.specs.Text.{hex}

abbrev pub each : {A : Type 0} → (A → Data) → List A → Items
each f [] = no_items
each f (x ∷ xs) = item (f x) (each f xs)

abbrev pub lifetime_members : ℕ → Members
lifetime_members n = cond (nat_eq n 0) no_members (member (codes "maxTTL") (number (unsigned n)) no_members)

abbrev pub collection_data : Collection → Data
collection_data c = object (member (codes "name") (string c.name) (member (codes "uid") (string (hex c.id)) (lifetime_members c.max_ttl)))

abbrev pub scope_data : Scope → Data
scope_data s = object (member (codes "name") (string s.name) (member (codes "uid") (string (hex s.id)) (member (codes "collections") (array (each collection_data s.collections)) no_members)))

abbrev pub manifest_data : ℕ → List Scope → Data
manifest_data uid scopes = object (member (codes "uid") (string (hex uid)) (member (codes "scopes") (array (each scope_data scopes)) no_members))
