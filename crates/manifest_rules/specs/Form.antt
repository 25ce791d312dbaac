-- The form of a manifest as JSON (RFC 8259): which texts are manifests, whatever their rules say.
use Rattle.std.specs.Prelude.{◌≡◌, ℕ, ◌^◌, nat_le, nat_lt, ◌&&◌, List, [], ◌∷◌, length, codes, Option, Some, None, option_and_then, if◌then◌else◌}
use Rattle.std.specs.List.{list_all}
use Rattle.std.specs.Char.{is_digit}
use Rattle.std.specs.Str.{IsUtf8, is_utf8}
use Rattle.std.specs.Str.Parse.{digits_value}
use Rattle.serde_json.specs.Data.{Data, Items, no_items, item}
use Rattle.serde_json.specs.Find.{get, as_str, as_array, as_number, as_u64}
use Rattle.serde_json.specs.Read.{read}
use Rattle.doc_model.specs.declared.status.Refused.{Refused}
use Rattle.doc_model.specs.declared.status.Refused.TheVariants as refused
use Rattle.doc_model.specs.declared.status.TheConstants.Status as status
use Rattle.kv_edge.specs.Fields.{◌>>=◌}
use Rattle.manifest_rules.specs.declared.types.Scope.{Scope}
use Rattle.manifest_rules.specs.declared.types.Collection.{Collection}
use Rattle.manifest_rules.specs.Catalog.{Catalog}

-- the number that at least one and at most so many hexadecimal digits are, in either case
abbrev pub hex_number : ℕ → List ℕ → Option ℕ
hex_number most text =
    if nat_le 1 (length text) && nat_le (length text) most && list_all (λ c. is_digit c 16) text then Some (digits_value 16 text) else None

-- a member that is a text
abbrev pub text_at : List ℕ → Data → Option (List ℕ)
text_at name d = option_and_then as_str (get name d)

-- a member that is a text of hexadecimal digits
abbrev pub id_at : ℕ → List ℕ → Data → Option ℕ
id_at most name d = option_and_then (hex_number most) (text_at name d)

-- a member that is a list
abbrev pub items_at : List ℕ → Data → Option Items
items_at name d = option_and_then as_array (get name d)

-- a number below 2^32 that is spelt in digits alone
abbrev pub lifetime : Data → Option ℕ
lifetime d = do
  number ← as_number d
  n ← as_u64 number
  if nat_lt n (2 ^ 32) then Some n else None

-- the greatest lifetime, which may be left out
abbrev pub lifetime_in : Option Data → Option ℕ
lifetime_in None = Some 0
lifetime_in (Some d) = lifetime d

-- the collection that a JSON value is
abbrev pub collection_from : Data → Option Collection
collection_from d = do
  name ← text_at (codes "name") d
  id ← id_at 8 (codes "uid") d
  max_ttl ← lifetime_in (get (codes "maxTTL") d)
  Some (record { name = name; id = id; max_ttl = max_ttl })

-- what each item of a list is, where all of them are something
abbrev pub each_from : {A : Type 0} → (Data → Option A) → Items → Option (List A)
each_from f no_items = Some []
each_from f (item d ds) = do
  x ← f d
  xs ← each_from f ds
  Some (x ∷ xs)

-- the scope that a JSON value is
abbrev pub scope_from : Data → Option Scope
scope_from d = do
  name ← text_at (codes "name") d
  id ← id_at 8 (codes "uid") d
  items ← items_at (codes "collections") d
  collections ← each_from collection_from items
  Some (record { name = name; id = id; collections = collections })

-- the manifest that a JSON value is; nothing was dropped before it
abbrev pub catalog_from : Data → Option Catalog
catalog_from d = do
  uid ← id_at 16 (codes "uid") d
  items ← items_at (codes "scopes") d
  scopes ← each_from scope_from items
  Some (record { uid = uid; scopes = scopes; dropped_scopes = []; dropped_collections = [] })

-- the manifest that a text of UTF-8 is
abbrev pub catalog_in : List ℕ → Option Catalog
catalog_in text = option_and_then catalog_from (read text)

-- the manifest that bytes are, which are none unless they are a text of UTF-8
abbrev pub manifest_in : List ℕ → Option Catalog
manifest_in bytes = if is_utf8 bytes then catalog_in bytes else None

-- no manifest is read from bytes for want of form
abbrev pub IsNoManifest : List ℕ → Refused → Type 0
IsNoManifest bytes (refused.Status s) = (s ≡ status.EINVAL) × (IsUtf8 bytes → catalog_in bytes ≡ None)
IsNoManifest bytes refused.NoMemory = Unit {0}
