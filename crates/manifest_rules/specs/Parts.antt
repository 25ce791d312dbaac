-- The uid and the scopes of a manifest that is read.
use Rattle.std.specs.Prelude.{◌≡◌, ℕ, List, Option, Some, None, IsTrue}
use Rattle.std.specs.Str.{IsUtf8}
use Rattle.serde_json.specs.Data.{Data}
use Rattle.manifest_rules.specs.declared.reading.Parts.{Parts}
use Rattle.manifest_rules.specs.Catalog.{Catalog, numbers_fit}
use Rattle.manifest_rules.specs.Form.{catalog_from, catalog_in}
use Rattle.manifest_rules.specs.Applying.{bare}

-- the manifest of these parts
abbrev pub made_of : Parts → Catalog
made_of parts = bare parts.uid parts.scopes

-- the parts of the manifest that a JSON value is, where it is one
abbrev pub AreParts : Data → Option Parts → Type 0
AreParts d None = None ≡ catalog_from d
AreParts d (Some parts) = (Some (made_of parts) ≡ catalog_from d) × IsTrue (numbers_fit parts.uid parts.scopes)

-- the parts of the manifest that a text of UTF-8 is
pub record AreReadFrom (text : List ℕ) (parts : Parts) : Type 0 where
  pub utf8 : IsUtf8 text
  pub whole : catalog_in text ≡ Some (made_of parts)
  pub fits : IsTrue (numbers_fit parts.uid parts.scopes)
