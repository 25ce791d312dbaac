-- Parts of a manifest's form, as its reader takes them.
use Rattle.std.specs.Prelude.{ℕ, List, codes, Option, Some}
use Rattle.serde_json.specs.Data.{Data, Items}
use Rattle.serde_json.specs.Find.{get}
use Rattle.kv_edge.specs.Fields.{◌>>=◌}
use Rattle.manifest_rules.specs.declared.types.Collection.{Collection}
use Rattle.manifest_rules.specs.Form.{text_at, id_at, items_at, lifetime_in}

abbrev pub member_lifetime : Data → Option ℕ
member_lifetime d = lifetime_in (get (codes "maxTTL") d)

abbrev pub collection_with : List ℕ → ℕ → ℕ → Collection
collection_with name id max_ttl = record { name = name; id = id; max_ttl = max_ttl }

abbrev pub scope_parts : Data → Option (List ℕ × ℕ × Items)
scope_parts d = do
  name ← text_at (codes "name") d
  id ← id_at 8 (codes "uid") d
  items ← items_at (codes "collections") d
  Some (name, id, items)

abbrev pub catalog_parts : Data → Option (ℕ × Items)
catalog_parts d = do
  uid ← id_at 16 (codes "uid") d
  items ← items_at (codes "scopes") d
  Some (uid, items)
