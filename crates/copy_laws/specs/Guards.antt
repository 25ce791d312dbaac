-- What the CAS of requests and of documents are compared by.
use Rattle.std.specs.Prelude.{◌≡◌, ◌≤◌, Some}
use Rattle.std.specs.FinMap as map
use Rattle.doc_model.specs.declared.key.DocKey.{DocKey}
use Rattle.doc_model.specs.declared.document.Item.{Item}
use Rattle.kv_request.specs.declared.request.Request.{Request}
use Rattle.vb_log.specs.Content.{Content, cas_of}

-- the CAS of what a key has isn't above the greatest of the log
abbrev pub IsWithinCas : DocKey → Content → Type 0
IsWithinCas key log =
    (item : Item) → map.get log.items key ≡ Some item → cas_of item.what ≤ log.greatest_cas

-- the same request, that takes any document
abbrev pub without_cas : Request → Request
without_cas request = record request { cas = 0 }
