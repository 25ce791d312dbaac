-- The request that a frame is, or the status of the first check that it fails, and the frame that a reply is.
use Rattle.std.specs.Prelude.{◌≡◌, ℕ, ◌+◌, ◌*◌, ◌%◌, ◌^◌, ◌<◌, ◌≤◌, nat_eq, nat_le, Bool, true, false, ◌&&◌, ◌||◌, not, is_some, unwrap_or, option_and_then, find, count_by, slice_index, List, [], ◌∷◌, ◌++◌, length, take, drop, Option, Some, None, Result, Ok, Err, if◌then◌else◌}
use Rattle.std.specs.List.{list_any}
use Rattle.std.specs.Option.{option_map_or, IfSome}
use Rattle.std.specs.Int.{w16, w32, w64, from_be_bytes, to_be_bytes}
use Rattle.kv_frame.specs.declared.frame.Frame.{Frame}
use Rattle.kv_frame.specs.declared.frame.FrameExtra.{FrameExtra}
use Rattle.kv_frame.specs.declared.frame.Magic.TheVariants as magics
use Rattle.kv_frame.specs.Grammar.{Fits}
use Rattle.leb_collections.specs.Functions.{id_at, id_bytes}
use Rattle.doc_model.specs.declared.key.DocKey.{DocKey}
use Rattle.doc_model.specs.declared.status.Status.{Status}
use Rattle.doc_model.specs.declared.status.TheConstants.Status as status
use Rattle.kv_request.specs.declared.reading.TheConstants.{KEY_LIMIT, OTHER_KEY_LIMIT, VALUE_LIMIT, MANIFEST_LIMIT, DURABILITY, USUAL_TIMEOUT}
use Rattle.kv_request.specs.declared.multi.TheConstants.{MOST_SPECS}
use Rattle.kv_request.specs.declared.opcode.Command.{Command}
use Rattle.kv_request.specs.declared.opcode.Command.TheVariants as commands
use Rattle.kv_request.specs.declared.request.Features.{Features}
use Rattle.kv_request.specs.declared.request.Durability.{Durability}
use Rattle.kv_request.specs.declared.request.Request.{Request}
use Rattle.kv_request.specs.declared.request.Spec.{Spec}
use Rattle.kv_request.specs.declared.request.Body.{Body}
use Rattle.kv_request.specs.declared.request.Body.TheVariants as bodies
use Rattle.kv_request.specs.declared.request.Mode.{Mode}
use Rattle.kv_request.specs.declared.request.Mode.TheVariants as modes
use Rattle.kv_request.specs.declared.reply.Reply.{Reply}
use Rattle.kv_request.specs.Opcodes.{command_of, is_of_streams, is_unsent, Presence, Must, MustNot, May, form_of, names_document, takes_level}
use Rattle.kv_request.specs.Parts.{spec_of, given_expiry, doc_flags, part_checks}
use Rattle.kv_request.specs.Multi.{multi_expiry, multi_flags, specs_bytes, specs_of, multi_checks}

-- whether a part of this many bytes is there as it has to be
abbrev pub is_present : Presence → ℕ → Bool
is_present Must size = nat_le 1 size
is_present MustNot size = nat_eq size 0
is_present May size = true

-- whether extras, key and value are there as the command asks
abbrev pub has_form : Frame → Command → Bool
has_form frame command =
    list_any (nat_eq (length frame.extras)) (form_of command).extras
    && is_present (form_of command).key (length frame.key)
    && is_present (form_of command).value (length frame.value)

-- the number that four bytes of the extras are
abbrev pub word_at : ℕ → List ℕ → ℕ
word_at offset extras = from_be_bytes w32 (take 4 (drop offset extras))

-- the number that eight bytes of the extras are
abbrev pub long_at : ℕ → List ℕ → ℕ
long_at offset extras = from_be_bytes w64 (take 8 (drop offset extras))

-- whether a framing extra asks for a level of durability
abbrev pub asks_level : FrameExtra → Bool
asks_level e = nat_eq e.id DURABILITY

-- the framing extra that asks for a level of durability, the first where there are several
abbrev pub level_extra : Frame → Option FrameExtra
level_extra frame = find asks_level frame.framing

-- how many framing extras ask for a level
abbrev pub level_count : Frame → ℕ
level_count frame = count_by asks_level frame.framing

-- whether no level is asked for, or the command takes one and it stands alone or with a timeout
abbrev pub is_level_form : Command → Option FrameExtra → Bool
is_level_form command None = true
is_level_form command (Some e) = takes_level command && (nat_eq (length e.body) 1 || nat_eq (length e.body) 3)

-- the timeout in milliseconds, which where it is left out is the usual one
abbrev pub timeout_of : List ℕ → ℕ
timeout_of body = if nat_eq (length body) 3 then from_be_bytes w16 (take 2 (drop 1 body)) else USUAL_TIMEOUT

-- whether the timeout isn't 0, where a level is asked for
abbrev pub has_timeout : Option FrameExtra → Bool
has_timeout None = true
has_timeout (Some e) = nat_le 1 (timeout_of e.body)

-- whether the level is one from 1 to 3, where one is asked for
abbrev pub has_level : Option FrameExtra → Bool
has_level None = true
has_level (Some e) = nat_le 1 (slice_index e.body 0) && nat_le (slice_index e.body 0) 3

-- the durability that is asked for
abbrev pub durability_of : Option FrameExtra → Option Durability
durability_of None = None
durability_of (Some e) = Some (record { level = slice_index e.body 0; timeout = timeout_of e.body })

-- whether a value is a list of numbers of two bytes each, where it has to be one
abbrev pub is_even : Command → ℕ → Bool
is_even commands.Hello size = nat_eq (size % 2) 0
is_even command size = true

-- whether just one of two tests holds
abbrev pub is_one : Bool → Bool → Bool
is_one true b = not b
is_one false b = b

-- whether the path of a collection or a scope is there just once, as key or as value
abbrev pub has_one_path : Command → ℕ → ℕ → Bool
has_one_path commands.CollectionId key value = is_one (nat_eq key 0) (nat_eq value 0)
has_one_path commands.ScopeId key value = is_one (nat_eq key 0) (nat_eq value 0)
has_one_path command key value = true

-- how many bytes the name of a document has at most, behind its collection
abbrev pub name_limit : ℕ → ℕ
name_limit collection = if nat_eq collection 0 then KEY_LIMIT else OTHER_KEY_LIMIT

-- a key that a document may have, or nothing
abbrev pub key_within : ℕ → List ℕ → Option DocKey
key_within collection name =
    if nat_le 1 (length name) && nat_le (length name) (name_limit collection) then Some (record { collection = collection; key = name }) else None

-- the document's key that bytes spell: where collections are granted it begins with the id of one, else it is in the
-- collection that is there from the start
abbrev pub key_from : Bool → List ℕ → Option DocKey
key_from true bytes = option_and_then (λ x. key_within x.0 x.1) (id_at bytes)
key_from false bytes = key_within 0 bytes

-- whether the key is one that a document may have, where it is a document's
abbrev pub is_key : Features → Command → List ℕ → Bool
is_key features command key = if names_document command then is_some (key_from features.collections key) else true

-- how many bytes a value has at most
abbrev pub value_limit : Command → ℕ
value_limit commands.SetManifest = MANIFEST_LIMIT
value_limit command = VALUE_LIMIT

-- whether the command takes this CAS: an Add, which finds no document, takes none but 0
abbrev pub is_cas_taken : Command → ℕ → Bool
is_cas_taken commands.Add cas = nat_eq cas 0
is_cas_taken command cas = true

-- the checks of what a command brings beside key and CAS: those on parts of documents have some
abbrev pub body_checks : Frame → Command → List (Bool × Status)
body_checks frame (commands.Look lookup) = part_checks frame (commands.Look lookup)
body_checks frame (commands.Edit edit) = part_checks frame (commands.Edit edit)
body_checks frame commands.MultiLook = multi_checks frame commands.MultiLook
body_checks frame commands.MultiEdit = multi_checks frame commands.MultiEdit
body_checks frame command = []

-- the checks of a request's frame in their order, each with the status of a frame that fails it
abbrev pub checks : Features → Frame → Command → List (Bool × Status)
checks features frame command =
    (nat_le frame.datatype 1, status.EINVAL)
    ∷ (nat_le (level_count frame) 1, status.EINVAL)
    ∷ (is_level_form command (level_extra frame), status.EINVAL)
    ∷ (has_timeout (level_extra frame), status.EINVAL)
    ∷ (has_level (level_extra frame), status.DURABILITY_INVALID_LEVEL)
    ∷ (has_form frame command, status.EINVAL)
    ∷ (is_even command (length frame.value), status.EINVAL)
    ∷ (has_one_path command (length frame.key) (length frame.value), status.EINVAL)
    ∷ (is_key features command frame.key, status.EINVAL)
    ∷ (nat_le (length frame.value) (value_limit command), status.E2BIG)
    ∷ (is_cas_taken command frame.cas, status.EINVAL)
    ∷ body_checks frame command

-- the status of the first check that fails
abbrev pub first_failing : List (Bool × Status) → Option Status
first_failing [] = None
first_failing (check ∷ others) = if check.0 then first_failing others else Some check.1

-- no document's key
abbrev pub no_key : DocKey
no_key = record { collection = 0; key = [] }

-- the document's key that a frame names
abbrev pub key_of : Features → Frame → DocKey
key_of features frame = unwrap_or (key_from features.collections frame.key) no_key

-- the numbers of two bytes each that bytes are
abbrev pub pairs_of : List ℕ → List ℕ
pairs_of [] = []
pairs_of (last ∷ []) = []
pairs_of (high ∷ low ∷ others) = (256 * high + low) ∷ pairs_of others

-- a document to store: extras are flags and expiry
abbrev pub stored : DocKey → Frame → Mode → Body
stored key frame mode = bodies.Store key mode (word_at 0 frame.extras) (word_at 4 frame.extras) frame.value

-- a number to count: extras are delta, initial value and expiry
abbrev pub counted : DocKey → Frame → Bool → Body
counted key frame up = bodies.Count key up (long_at 0 frame.extras) (long_at 8 frame.extras) (word_at 16 frame.extras)

-- bytes to add to a value
abbrev pub joined : DocKey → Frame → Bool → Body
joined key frame front = bodies.Join key front frame.value

-- a document to give an expiry: extras are the expiry
abbrev pub touched : DocKey → Frame → Bool → Body
touched key frame fetch = bodies.Touch key (word_at 0 frame.extras) fetch

-- the path of a collection or a scope, which is the key or the value
abbrev pub path_of : Frame → List ℕ
path_of frame = if nat_eq (length frame.key) 0 then frame.value else frame.key

-- what the request of a frame asks for, where this is the document's key that it names
abbrev pub body_with : DocKey → Frame → Command → Body
body_with key frame commands.Get = bodies.Get key
body_with key frame commands.GetKey = bodies.Get key
body_with key frame commands.Set = stored key frame modes.Set
body_with key frame commands.Add = stored key frame modes.Add
body_with key frame commands.Replace = stored key frame modes.Replace
body_with key frame commands.Delete = bodies.Delete key
body_with key frame commands.Increment = counted key frame true
body_with key frame commands.Decrement = counted key frame false
body_with key frame commands.Append = joined key frame false
body_with key frame commands.Prepend = joined key frame true
body_with key frame commands.Touch = touched key frame false
body_with key frame commands.GetAndTouch = touched key frame true
body_with key frame commands.Quit = bodies.Quit
body_with key frame commands.Noop = bodies.Noop
body_with key frame commands.Version = bodies.Version
body_with key frame commands.Hello = bodies.Hello (pairs_of frame.value)
body_with key frame commands.SetManifest = bodies.SetManifest frame.value
body_with key frame commands.GetManifest = bodies.GetManifest
body_with key frame commands.CollectionId = bodies.CollectionId (path_of frame)
body_with key frame commands.ScopeId = bodies.ScopeId (path_of frame)
body_with key frame (commands.Look lookup) = bodies.Look key (spec_of frame)
body_with key frame (commands.Edit edit) = bodies.Edit key (spec_of frame) (given_expiry frame.extras) (doc_flags frame.extras)
body_with key frame commands.MultiLook = bodies.MultiLook key (specs_of commands.MultiLook frame)
body_with key frame commands.MultiEdit = bodies.MultiEdit key (specs_of commands.MultiEdit frame) (multi_expiry frame.extras) (multi_flags frame.extras)

-- what the request of a frame asks for
abbrev pub body_of : Features → Frame → Command → Body
body_of features frame command = body_with (key_of features frame) frame command

-- the request of a frame that passes every check
abbrev pub request_of : Features → Frame → Command → Request
request_of features frame command = record {
  opcode = frame.opcode;
  opaque = frame.opaque;
  cas = frame.cas;
  vbucket = frame.word;
  durability = durability_of (level_extra frame);
  body = body_of features frame command;
}

-- the request that a frame with a known opcode is, or why it is none
abbrev pub checked : Features → Frame → Command → Result Request Status
checked features frame command = option_map_or (λ failing. Err failing) (first_failing (checks features frame command)) (Ok (request_of features frame command))

-- the request that a frame is, or the status of the first check that it fails
abbrev pub request : Features → Frame → Result Request Status
request features frame =
    if is_of_streams frame.opcode then Err status.NOT_SUPPORTED
    else option_map_or (checked features frame) (command_of frame.opcode) (Err status.UNKNOWN_COMMAND)

-- four bytes of flags, where there are flags
abbrev pub flags_bytes : Option ℕ → List ℕ
flags_bytes None = []
flags_bytes (Some flags) = to_be_bytes w32 flags

-- eight bytes of term and eight of sequence number, where the client asked for them
abbrev pub token_bytes : Bool → Option (ℕ × ℕ) → List ℕ
token_bytes false token = []
token_bytes true None = []
token_bytes true (Some token) = to_be_bytes w64 token.0 ++ to_be_bytes w64 token.1

-- the bytes of a key as the client spells it: where collections are granted its collection's id comes first
abbrev pub key_spelling : Bool → DocKey → List ℕ
key_spelling true key = id_bytes key.collection ++ key.key
key_spelling false key = key.key

-- a key that a request can name: it is neither empty nor too long, and where no collections are granted it is in the one that
-- is there from the start
pub record IsNamed (granted : Bool) (key : DocKey) : Type 0 where
  pub some : 1 ≤ length key.key
  pub fits : length key.key ≤ name_limit key.collection
  pub below : key.collection < 2 ^ 32
  pub plain : granted ≡ false → key.collection ≡ 0

-- the bytes of a key, where there is one
abbrev pub key_bytes : Bool → Option DocKey → List ℕ
key_bytes granted None = []
key_bytes granted (Some key) = key_spelling granted key

-- how many bytes the name of a document has, where there is one
abbrev pub name_length : Option DocKey → ℕ
name_length None = 0
name_length (Some key) = length key.key

-- the frame of a reply
abbrev pub frame : Features → Reply → Frame
frame features reply = record {
  magic = magics.Reply;
  opcode = reply.opcode;
  datatype = if reply.json && features.json then 1 else 0;
  word = reply.status.code;
  opaque = reply.opaque;
  cas = reply.cas;
  framing = [];
  extras = flags_bytes reply.flags ++ (token_bytes features.token reply.token ++ reply.extras);
  key = key_bytes features.collections reply.key;
  value = reply.value;
}

-- the frame of a reply, unless its opcode leaves this status unsent
abbrev pub sent : Features → Reply → Option Frame
sent features reply = if is_unsent reply.opcode reply.status then None else Some (frame features reply)

-- a reply whose frame has a spelling, whatever was granted
abbrev pub IsReply : Reply → Type 0
IsReply reply = (features : Features) → Fits (frame features reply)

-- a reply whose numbers fit their fields, and whose parts are no longer than any that is ever sent
pub record IsSmallReply (reply : Reply) : Type 0 where
  pub opcode : reply.opcode < 2 ^ 8
  pub status : reply.status.code < 2 ^ 16
  pub opaque : reply.opaque < 2 ^ 32
  pub cas : reply.cas < 2 ^ 64
  pub extras : length reply.extras ≤ 12
  pub key : name_length reply.key ≤ KEY_LIMIT
  pub value : length reply.value ≤ VALUE_LIMIT + 100

-- an empty reply with this status
abbrev pub refused : ℕ → ℕ → Status → Reply
refused opcode opaque code = record { opcode = opcode; opaque = opaque; status = code; cas = 0; json = false; flags = None; token = None; extras = []; key = None; value = [] }

-- a request that some frame is
abbrev pub IsRequest : Request → Type 0
IsRequest made = (features : Features) × (f : Frame) × Fits f × (request features f ≡ Ok made)

-- the key that a request names, where it is a document's
abbrev pub key_named : Body → Option DocKey
key_named (bodies.Hello wanted) = None
key_named bodies.Noop = None
key_named bodies.Version = None
key_named bodies.Quit = None
key_named (bodies.SetManifest text) = None
key_named bodies.GetManifest = None
key_named (bodies.CollectionId path) = None
key_named (bodies.ScopeId path) = None
key_named (bodies.Get key) = Some key
key_named (bodies.Store key mode flags expiry value) = Some key
key_named (bodies.Delete key) = Some key
key_named (bodies.Count key up delta initial expiry) = Some key
key_named (bodies.Join key front value) = Some key
key_named (bodies.Touch key expiry fetch) = Some key
key_named (bodies.Look key spec) = Some key
key_named (bodies.Edit key spec expiry flags) = Some key
key_named (bodies.MultiLook key specs) = Some key
key_named (bodies.MultiEdit key specs expiry flags) = Some key

-- the document's key that a request names, and an empty one where it names none
abbrev pub document_key : Body → DocKey
document_key body = unwrap_or (key_named body) no_key

-- the value that a request brings
abbrev pub value_brought : Body → List ℕ
value_brought (bodies.Hello wanted) = []
value_brought bodies.Noop = []
value_brought bodies.Version = []
value_brought bodies.Quit = []
value_brought (bodies.SetManifest text) = text
value_brought bodies.GetManifest = []
value_brought (bodies.CollectionId path) = path
value_brought (bodies.ScopeId path) = path
value_brought (bodies.Get key) = []
value_brought (bodies.Store key mode flags expiry value) = value
value_brought (bodies.Delete key) = []
value_brought (bodies.Count key up delta initial expiry) = []
value_brought (bodies.Join key front value) = value
value_brought (bodies.Touch key expiry fetch) = []
value_brought (bodies.Look key spec) = spec.path ++ spec.value
value_brought (bodies.Edit key spec expiry flags) = spec.path ++ spec.value
value_brought (bodies.MultiLook key specs) = specs_bytes false specs
value_brought (bodies.MultiEdit key specs expiry flags) = specs_bytes true specs

-- the specs of a request on several parts, none of any other
abbrev pub specs_brought : Body → List Spec
specs_brought (bodies.MultiLook key specs) = specs
specs_brought (bodies.MultiEdit key specs expiry flags) = specs
specs_brought body = []

-- whether a session answers a request by itself, since it asks nothing of a vbucket
abbrev pub is_for_session : Body → Bool
is_for_session (bodies.Hello wanted) = true
is_for_session bodies.Noop = true
is_for_session bodies.Version = true
is_for_session bodies.Quit = true
is_for_session body = false

-- a key that a document may have
pub record IsSmallKey (key : DocKey) : Type 0 where
  pub not_empty : 1 ≤ length key.key
  pub within : length key.key ≤ name_limit key.collection
  pub collection : key.collection < 2 ^ 32

-- a request whose numbers fit their fields, and whose key, value and specs are within their limits
pub record IsSmallRequest (made : Request) : Type 0 where
  pub opcode : made.opcode < 2 ^ 8
  pub opaque : made.opaque < 2 ^ 32
  pub cas : made.cas < 2 ^ 64
  pub vbucket : made.vbucket < 2 ^ 16
  pub key : IfSome (key_named made.body) IsSmallKey
  pub value : length (value_brought made.body) ≤ VALUE_LIMIT
  pub specs : length (specs_brought made.body) ≤ MOST_SPECS
