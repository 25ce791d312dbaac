-- The one text that is written for a manifest.
use Rattle.std.specs.Prelude.{ℕ, nat_eq, false, List, [], ◌∷◌, ◌++◌, map, codes, if◌then◌else◌}
use Rattle.std.specs.Fmt.{decimal, digits}
use Rattle.manifest_rules.specs.declared.types.Scope.{Scope}
use Rattle.manifest_rules.specs.declared.types.Collection.{Collection}
use Rattle.manifest_rules.specs.Catalog.{Catalog}

-- hexadecimal digits in lower case, without leading zeros
abbrev pub hex : ℕ → List ℕ
hex n = digits 16 false n

-- texts with a comma between them
abbrev pub with_commas : List (List ℕ) → List ℕ
with_commas [] = []
with_commas (text ∷ []) = text
with_commas (text ∷ more ∷ others) = text ++ codes "," ++ with_commas (more ∷ others)

-- the comma that stands before the element at a place
abbrev pub comma_before : ℕ → List ℕ
comma_before at = if nat_eq at 0 then [] else codes ","

-- the member for a greatest lifetime, which is left out where any is granted
abbrev pub lifetime_text : ℕ → List ℕ
lifetime_text n = if nat_eq n 0 then [] else codes ",\"maxTTL\":" ++ decimal n

abbrev pub collection_text : Collection → List ℕ
collection_text c = codes "{\"name\":\"" ++ c.name ++ codes "\",\"uid\":\"" ++ hex c.id ++ codes "\"" ++ lifetime_text c.max_ttl ++ codes "}"

abbrev pub scope_text : Scope → List ℕ
scope_text s = codes "{\"name\":\"" ++ s.name ++ codes "\",\"uid\":\"" ++ hex s.id ++ codes "\",\"collections\":[" ++ with_commas (map collection_text s.collections) ++ codes "]}"

-- the text of a manifest of this uid and these scopes
abbrev pub manifest_text : ℕ → List Scope → List ℕ
manifest_text uid scopes = codes "{\"uid\":\"" ++ hex uid ++ codes "\",\"scopes\":[" ++ with_commas (map scope_text scopes) ++ codes "]}"

abbrev pub text_of : Catalog → List ℕ
text_of m = manifest_text m.uid m.scopes
