-- Keys and their spelling.
use Rattle.std.specs.Prelude.{ℕ, ◌≤◌, ◌<◌, ◌^◌, nat_eq, List, ◌∷◌, ◌++◌, length, if◌then◌else◌}
use Rattle.doc_model.specs.declared.key.DocKey.{DocKey}
use Rattle.doc_model.specs.declared.limits.TheConstants.{KEY_LIMIT, OTHER_KEY_LIMIT}
use Rattle.leb_collections.specs.Functions.{id_bytes}

-- how many bytes a name has at most in a collection
abbrev pub name_limit : ℕ → ℕ
name_limit collection = if nat_eq collection 0 then KEY_LIMIT else OTHER_KEY_LIMIT

-- a key that a document may have
pub record IsAllowedKey (key : DocKey) : Type 0 where
  pub below : key.collection < 2 ^ 32
  pub some : 1 ≤ length key.key
  pub short : length key.key ≤ name_limit key.collection

-- a collection's id in shortest LEB128, and the name
abbrev pub spelt_key : DocKey → List ℕ
spelt_key key = id_bytes key.collection ++ key.key

-- both behind their length of one byte
abbrev pub key_bytes : DocKey → List ℕ
key_bytes key = length (spelt_key key) ∷ spelt_key key
