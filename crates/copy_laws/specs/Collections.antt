-- Where documents stand.
use Rattle.std.specs.Prelude.{◌≡◌, IsSome, true}
use Rattle.std.specs.FinMap as map
use Rattle.doc_model.specs.declared.key.DocKey.{DocKey}
use Rattle.vb_log.specs.Content.{Content, has_collection}

-- What a key has, a document or the mark of one that was deleted, stands in a collection that is
-- there.
abbrev pub StandsInCollection : DocKey → Content → Type 0
StandsInCollection key log =
    IsSome (map.get log.items key) → has_collection log.manifest key.collection ≡ true
