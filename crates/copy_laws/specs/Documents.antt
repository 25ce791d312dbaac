-- Documents at a moment, and how long they last.
use Rattle.std.specs.Prelude.{◌≡◌, ◌⊎◌, ◌≤◌, ℕ, true, List, Option, Some}
use Rattle.std.specs.FinMap as map
use Rattle.doc_model.specs.declared.key.DocKey.{DocKey}
use Rattle.doc_model.specs.declared.document.Doc.{Doc}
use Rattle.kv_request.specs.declared.request.Request.{Request}
use Rattle.kv_request.specs.declared.request.Body.TheVariants as bodies
use Rattle.kv_request.specs.declared.request.Mode.TheVariants as modes
use Rattle.manifest_rules.specs.Catalog.{max_ttl_of}
use Rattle.doc_step.specs.Expiry.{seconds, is_expired, there, later, asked}
use Rattle.vb_log.specs.Content.{Content, doc_in}
use Rattle.copy_model.specs.Requests.{moment_of}

-- the document that a key has, whether its expiry has passed or not
abbrev pub kept_document : Content → DocKey → Option Doc
kept_document log key = doc_in (map.get log.items key)

-- the document that is there at a moment
abbrev pub document_at : Content → DocKey → ℕ → Option Doc
document_at log key now = there (moment_of now) (kept_document log key)

-- the key has a document whose expiry has passed at this moment
pub record HasExpired (log : Content) (key : DocKey) (now : ℕ) : Type 0 where
  pub doc : Doc
  pub kept : kept_document log key ≡ Some doc
  pub passed : is_expired doc.expiry (moment_of now) ≡ true

-- a Replace of the key by a value with flags and an expiry
pub record IsReplaceOf (key : DocKey) (flags expiry : ℕ) (value : List ℕ) (request : Request)
    : Type 0 where
  pub body : request.body ≡ bodies.Store key modes.Replace flags expiry value

-- the key has a document with this value, these flags and these extended attributes
pub record Keeps (log : Content) (key : DocKey) (flags : ℕ) (value xattrs : List ℕ) : Type 0 where
  pub doc : Doc
  pub kept : kept_document log key ≡ Some doc
  pub value_kept : doc.value ≡ value
  pub flags_kept : doc.flags ≡ flags
  pub xattrs_kept : doc.xattrs ≡ xattrs

-- The second at which a document ends that was stored at a moment with this expiry of a request: so
-- many seconds behind that moment, or the second that the expiry names.
abbrev pub end_of : ℕ → ℕ → ℕ
end_of stored expiry = asked (seconds (moment_of stored)) expiry

-- The collection of a key grants a document that is stored at a moment all of the lifetime that
-- this expiry asks for.
abbrev pub IsGranted : Content → DocKey → ℕ → ℕ → Type 0
IsGranted log key stored expiry =
    let lifetime = max_ttl_of log.manifest.scopes key.collection in
    (lifetime ≡ 0) ⊎ (end_of stored expiry ≤ later (seconds (moment_of stored)) lifetime)
