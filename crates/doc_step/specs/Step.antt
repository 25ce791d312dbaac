-- What a request does to the document of its key and what it answers, operation by operation.
use Rattle.std.specs.Prelude.{◌≡◌, ℕ, ◌+◌, nat_eq, nat_lt, Bool, true, false, List, [], ◌++◌, length, Option, None, Some, Result, Ok, Err, if◌then◌else◌}
use Rattle.std.specs.Option.{option_map_or}
use Rattle.std.specs.Int.{w64, to_be_bytes}
use Rattle.std.specs.Fmt.{decimal}
use Rattle.doc_model.specs.declared.key.DocKey.{DocKey}
use Rattle.doc_model.specs.declared.document.Doc.{Doc}
use Rattle.doc_model.specs.declared.status.Status.{Status}
use Rattle.doc_model.specs.declared.status.Refused.{Refused}
use Rattle.doc_model.specs.declared.status.Refused.TheVariants as refusals
use Rattle.doc_model.specs.declared.status.TheConstants.Status as status
use Rattle.kv_request.specs.declared.reading.TheConstants.{VALUE_LIMIT}
use Rattle.kv_request.specs.declared.request.Request.{Request}
use Rattle.kv_request.specs.declared.request.Body.{Body}
use Rattle.kv_request.specs.declared.request.Body.TheVariants as bodies
use Rattle.kv_request.specs.declared.request.Mode.{Mode}
use Rattle.kv_request.specs.declared.request.Mode.TheVariants as modes
use Rattle.kv_request.specs.declared.reply.Reply.{Reply}
use Rattle.doc_step.specs.declared.TheConstants.{NO_INITIAL}
use Rattle.doc_step.specs.declared.Effect.TheVariants as effects
use Rattle.doc_step.specs.declared.Change.{Change}
use Rattle.doc_step.specs.Expiry.{Setting, there, expiry_of}
use Rattle.doc_step.specs.Counter.{number_of, moved}
use Rattle.doc_step.specs.Replies.{json_of, changed, with_value, changing, carrying, storing}
use Rattle.doc_step.specs.Parts.{look_step, edit_step, multi_look_step, multi_edit_step}

-- why a request with this CAS is refused where this document is there: its CAS isn't 0, and none is there or it has
-- another
abbrev pub cas_refusal : ℕ → Option Doc → Option Status
cas_refusal cas None = if nat_eq cas 0 then None else Some status.KEY_ENOENT
cas_refusal cas (Some doc) = if nat_eq cas 0 then None else (if nat_eq doc.cas cas then None else Some status.KEY_EEXISTS)

-- the extended attributes of the document that is there
abbrev pub kept_xattrs : Option Doc → List ℕ
kept_xattrs doc = option_map_or (λ d. d.xattrs) doc []

-- Get
abbrev pub get_step : Request → DocKey → Option Doc → Result Change Status
get_step request key None = Err status.KEY_ENOENT
get_step request key (Some doc) = Ok (record { effect = effects.Nothing; reply = carrying request key doc })

-- the document that a Set stores
abbrev pub stored_doc : Setting → ℕ → ℕ → List ℕ → Option Doc → Doc
stored_doc s flags expiry value doc = record { value = value; xattrs = kept_xattrs doc; flags = flags; expiry = expiry_of s expiry; cas = s.draw; seqno = 0; json = json_of value }

-- Set, Add and Replace
abbrev pub store_step : Setting → Request → Mode → Option Doc → Doc → Result Change Status
store_step s request modes.Set doc stored = storing request stored []
store_step s request modes.Add None stored = storing request stored []
store_step s request modes.Add (Some doc) stored = Err status.KEY_EEXISTS
store_step s request modes.Replace None stored = Err status.KEY_ENOENT
store_step s request modes.Replace (Some doc) stored = storing request stored []

-- Delete
abbrev pub delete_step : Setting → Request → Option Doc → Result Change Status
delete_step s request None = Err status.KEY_ENOENT
delete_step s request (Some doc) = Ok (record { effect = effects.Remove; reply = changing request s.draw [] })

-- the document that a counter begins with
abbrev pub new_counter : Setting → ℕ → ℕ → Doc
new_counter s initial expiry = record { value = decimal initial; xattrs = []; flags = 0; expiry = expiry_of s expiry; cas = s.draw; seqno = 0; json = json_of (decimal initial) }

-- Increment and Decrement; the reply has the number in eight bytes
abbrev pub count_step : Setting → Request → Bool → ℕ → ℕ → ℕ → Option Doc → Result Change Status
count_step s request up delta initial expiry None =
    if nat_eq expiry NO_INITIAL then Err status.KEY_ENOENT else storing request (new_counter s initial expiry) (to_be_bytes w64 initial)
count_step s request up delta initial expiry (Some doc) =
    option_map_or (λ n. storing request (with_value s doc (decimal (moved up n delta))) (to_be_bytes w64 (moved up n delta))) (number_of doc.value) (Err status.DELTA_BADVAL)

-- a value with bytes added before it or behind it
abbrev pub joined_value : Bool → List ℕ → List ℕ → List ℕ
joined_value true old value = value ++ old
joined_value false old value = old ++ value

-- Append and Prepend
abbrev pub join_step : Setting → Request → Bool → List ℕ → Option Doc → Result Change Status
join_step s request front value None = Err status.NOT_STORED
join_step s request front value (Some doc) =
    if nat_lt VALUE_LIMIT (length doc.value + length value) then Err status.E2BIG
    else storing request (with_value s doc (joined_value front doc.value value)) []

-- a document that is there with another expiry
abbrev pub touched_doc : Setting → Doc → ℕ → Doc
touched_doc s doc expiry = changed s (record doc { expiry = expiry_of s expiry })

-- the reply to a Touch, which carries the document where it is asked for
abbrev pub touched_reply : Bool → Request → DocKey → Doc → Reply
touched_reply true request key doc = carrying request key doc
touched_reply false request key doc = changing request doc.cas []

-- Touch and get and touch
abbrev pub touch_step : Setting → Request → DocKey → ℕ → Bool → Option Doc → Result Change Status
touch_step s request key expiry fetch None = Err status.KEY_ENOENT
touch_step s request key expiry fetch (Some doc) =
    Ok (record { effect = effects.Put (touched_doc s doc expiry); reply = touched_reply fetch request key (touched_doc s doc expiry) })

-- ---- all of them

-- What an operation does where this document is there. What asks nothing of documents is none of these.
abbrev pub operation : Setting → Request → Body → Option Doc → Result Change Status
operation s request (bodies.Hello wanted) doc = Err status.UNKNOWN_COMMAND
operation s request bodies.Noop doc = Err status.UNKNOWN_COMMAND
operation s request bodies.Version doc = Err status.UNKNOWN_COMMAND
operation s request bodies.Quit doc = Err status.UNKNOWN_COMMAND
operation s request (bodies.SetManifest text) doc = Err status.UNKNOWN_COMMAND
operation s request bodies.GetManifest doc = Err status.UNKNOWN_COMMAND
operation s request (bodies.CollectionId path) doc = Err status.UNKNOWN_COMMAND
operation s request (bodies.ScopeId path) doc = Err status.UNKNOWN_COMMAND
operation s request (bodies.Get key) doc = get_step request key doc
operation s request (bodies.Store key mode flags expiry value) doc = store_step s request mode doc (stored_doc s flags expiry value doc)
operation s request (bodies.Delete key) doc = delete_step s request doc
operation s request (bodies.Count key up delta initial expiry) doc = count_step s request up delta initial expiry doc
operation s request (bodies.Join key front value) doc = join_step s request front value doc
operation s request (bodies.Touch key expiry fetch) doc = touch_step s request key expiry fetch doc
operation s request (bodies.Look key spec) doc = look_step request spec doc
operation s request (bodies.Edit key spec expiry flags) doc = edit_step s request spec expiry flags doc
operation s request (bodies.MultiLook key specs) doc = multi_look_step request specs doc
operation s request (bodies.MultiEdit key specs expiry flags) doc = multi_edit_step s request specs expiry flags doc

-- what a request does where this document is there: refused by the comparison of the CAS, or else the operation
abbrev pub compared : Setting → Request → Option Doc → Result Change Status
compared s request doc = option_map_or (λ refusing. Err refusing) (cas_refusal request.cas doc) (operation s request request.body doc)

-- What a request does to the document of its key, and what it answers, or the status that refuses it.
abbrev pub document_step : Setting → Request → Option Doc → Result Change Status
document_step s request doc = compared s request (there s.now doc)

-- whether the reply to a change tells term and position: each but that to a Touch
abbrev pub tells_token : Body → Bool
tells_token (bodies.Touch key expiry fetch) = false
tells_token body = true

-- what planning a request came to: the document step, unless memory was refused
abbrev pub Plans : Result Change Status → Result Change Refused → Type 0
Plans step (Ok change) = step ≡ Ok change
Plans step (Err (refusals.Status refusing)) = step ≡ Err refusing
Plans step (Err refusals.NoMemory) = Unit {0}
