-- What leaves a key's document alone, and what a reply tells of one.
use Rattle.std.specs.Prelude.{◌≡◌, ◌≢◌, ℕ, is_some, true, List, Some}
use Rattle.doc_model.specs.declared.key.DocKey.{DocKey}
use Rattle.doc_model.specs.declared.status.TheConstants.Status as status
use Rattle.kv_request.specs.declared.request.Body.{Body}
use Rattle.kv_request.specs.declared.request.Body.TheVariants as bodies
use Rattle.kv_request.specs.declared.reply.Reply.{Reply}
use Rattle.manifest_rules.specs.Catalog.{Catalog, collection_at}
use Rattle.manifest_rules.specs.Form.{manifest_in}

-- a manifest that has the key's collection, if it is one
abbrev pub KeepsCollection : DocKey → List ℕ → Type 0
KeepsCollection key text =
    (new : Catalog) → manifest_in text ≡ Some new
    → is_some (collection_at new.scopes key.collection) ≡ true

-- A request that changes the document of another key, or none, and doesn't drop the key's
-- collection.
abbrev pub LeavesBody : DocKey → Body → Type 0
LeavesBody key (bodies.Hello wanted) = Unit {0}
LeavesBody key bodies.Noop = Unit {0}
LeavesBody key bodies.Version = Unit {0}
LeavesBody key bodies.Quit = Unit {0}
LeavesBody key (bodies.SetManifest text) = KeepsCollection key text
LeavesBody key bodies.GetManifest = Unit {0}
LeavesBody key (bodies.CollectionId path) = Unit {0}
LeavesBody key (bodies.ScopeId path) = Unit {0}
LeavesBody key (bodies.Get other) = Unit {0}
LeavesBody key (bodies.Store other mode flags expiry value) = other ≢ key
LeavesBody key (bodies.Delete other) = other ≢ key
LeavesBody key (bodies.Count other up delta initial expiry) = other ≢ key
LeavesBody key (bodies.Join other front value) = other ≢ key
LeavesBody key (bodies.Touch other expiry fetch) = other ≢ key
LeavesBody key (bodies.Look other spec) = Unit {0}
LeavesBody key (bodies.Edit other spec expiry flags) = other ≢ key
LeavesBody key (bodies.MultiLook other specs) = Unit {0}
LeavesBody key (bodies.MultiEdit other specs expiry flags) = other ≢ key

-- a reply that carries this value with these flags
pub record Carries (reply : Reply) (flags : ℕ) (value : List ℕ) : Type 0 where
  pub success : reply.status ≡ status.SUCCESS
  pub flags_told : reply.flags ≡ Some flags
  pub value_told : reply.value ≡ value
