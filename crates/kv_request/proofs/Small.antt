-- Replies whose parts are short have frames, and requests are small.
use Rattle.std.specs.Prelude.{◌≡◌, ℕ, ◌^◌, ◌<◌, ◌≤◌, ◌+◌, nat_eq, nat_le, is_some, unwrap_or, option_and_then, Bool, true, false, ◌&&◌, List, [], ◌∷◌, ◌++◌, length, take, drop, Option, Some, None, Result, Ok, Err, if◌then◌else◌, refl}
use Rattle.std.specs.List.{AllByRecursion}
use Rattle.std.specs.Option.{option_map_or, IfSome}
use Rattle.std.proofs.Common.{subst, arith}
use Rattle.std.proofs.lemmas.List.{length-append, take-append-drop}
use Rattle.std.proofs.lemmas.Bool.{and_parts, leb-true}
use Rattle.kv_frame.specs.declared.frame.Frame.{Frame}
use Rattle.kv_frame.specs.declared.frame.Magic.{Magic}
use Rattle.kv_frame.specs.declared.frame.Magic.TheVariants as magics
use Rattle.kv_frame.specs.Grammar.{key_bound, Fits}
use Rattle.leb_collections.specs.Functions.{id_at}
use Rattle.leb_collections.proofs.Laws.{id_bytes_short}
use Rattle.leb_collections.proofs.Functions.{id_at_below}
use Rattle.doc_model.specs.declared.key.DocKey.{DocKey}
use Rattle.doc_model.specs.declared.status.Status.{Status}
use Rattle.doc_model.specs.declared.status.TheConstants.Status as status
use Rattle.kv_request.specs.declared.multi.TheConstants.{MOST_SPECS}
use Rattle.kv_request.specs.declared.reading.TheConstants.{VALUE_LIMIT}
use Rattle.kv_request.specs.declared.opcode.Command.{Command}
use Rattle.kv_request.specs.declared.opcode.Command.TheVariants as commands
use Rattle.kv_request.specs.declared.request.Features.{Features}
use Rattle.kv_request.specs.declared.request.Request.{Request}
use Rattle.kv_request.specs.declared.request.Spec.{Spec}
use Rattle.kv_request.specs.declared.reply.Reply.{Reply}
use Rattle.kv_request.specs.Opcodes.{command_of, is_of_streams}
use Rattle.kv_request.specs.Parts.{path_length}
use Rattle.kv_request.specs.Multi.{specs_bytes, specs_in, specs_of, are_few}
use Rattle.kv_request.specs.Tables.{key_within, name_limit, key_from, is_key, value_limit, no_key, key_bytes, name_length, body_checks, checks, first_failing, request_of, checked, flags_bytes, token_bytes, IsReply, IsSmallReply, IsRequest, IsSmallRequest, IsSmallKey, key_named, value_brought, specs_brought, body_of}
use Rattle.kv_request.proofs.Walking.{specs_long}

flags_short : (flags : Option ℕ) → length (flags_bytes flags) ≤ 4
flags_short None = omega arith
flags_short (Some flags) = omega arith

token_short : (wanted : Bool) (token : Option (ℕ × ℕ)) → length (token_bytes wanted token) ≤ 16
token_short false token = omega arith
token_short true None = omega arith
token_short true (Some token) = omega arith

-- a collection's id takes five bytes at most
key_short : (granted : Bool) (key : Option DocKey) → length (key_bytes granted key) ≤ name_length key + 5
key_short granted None = omega arith
key_short true (Some key) = simp length-append (omega (arith, id_bytes_short key.collection))
key_short false (Some key) = omega arith

datatype_short : (b : Bool) → (if b then 1 else 0) < 2 ^ 8
datatype_short true = omega arith
datatype_short false = omega arith

-- a reply whose parts are short has a frame with a spelling
pub small_fits : (reply : Reply) → IsSmallReply reply → IsReply reply
small_fits reply h features =
    let flags = flags_short reply.flags in
    let token = token_short features.token reply.token in
    let key = key_short features.collections reply.key in
    let extras : length (flags_bytes reply.flags ++ (token_bytes features.token reply.token ++ reply.extras)) ≤ 32 = simp length-append (omega (arith, flags, token, h.extras)) in
    record {
      opcode = h.opcode;
      datatype = datatype_short (reply.json && features.json);
      word = h.status;
      opaque = h.opaque;
      cas = h.cas;
      framing = refl;
      extras = omega (arith, extras);
      key = omega (arith, key, h.key);
      body = omega (arith, extras, key, h.key, h.value);
    }

-- a check of which none is the first that fails passes
passes : (b : Bool) (status : Status) (others : Option Status) → (if b then others else Some status) ≡ None → (b ≡ true) × (others ≡ None)
passes true status others e = (refl, e)
passes false status others e = absurd (cc)

all_pass : (cs : List (Bool × Status)) → first_failing cs ≡ None → AllByRecursion (λ c. c.0 ≡ true) cs
all_pass [] e = tt
all_pass (c ∷ cs) e = let h = passes c.0 c.1 (first_failing cs) e in (h.0, all_pass cs h.1)

-- a request that is read behind the checks: none of them fails, and it is that one
pub none_fails : (failing : Option Status) (x y : Request) → option_map_or {T = Status} {U = Result Request Status} (λ s. Err s) failing (Ok x) ≡ Ok y → (failing ≡ None) × (x ≡ y)
none_fails None x y e = (refl, cc)
none_fails (Some s) x y e = absurd (cc)

-- what the checks say of a frame that passes them, and the request that it is
record Passed (features : Features) (f : Frame) (command : Command) (made : Request) : Type 0 where
  key : is_key features command f.key ≡ true
  value : nat_le (length f.value) (value_limit command) ≡ true
  body : AllByRecursion (λ c. c.0 ≡ true) (body_checks f command)
  is : request_of features f command ≡ made

passed : (features : Features) (f : Frame) (command : Command) (made : Request) → checked features f command ≡ Ok made → Passed features f command made
passed features f command made e =
    let h = none_fails (first_failing (checks features f command)) (request_of features f command) made e in
    let all : AllByRecursion (λ c. c.0 ≡ true) (checks features f command) = all_pass (checks features f command) h.0 in
    record { key = all.1.1.1.1.1.1.1.1.0; value = all.1.1.1.1.1.1.1.1.1.0; body = all.1.1.1.1.1.1.1.1.1.1.1; is = h.1 }

-- a name that is neither empty nor too long
named_small : (b : Bool) (collection : ℕ) (name : List ℕ) → collection < 2 ^ 32 →
    (b ≡ true → (1 ≤ length name) × (length name ≤ name_limit collection)) →
    let key : Option DocKey = if b then Some (record { collection = collection; key = name }) else None in
    is_some key ≡ true → IsSmallKey (unwrap_or key no_key)
named_small true collection name fits within e = let h = within refl in record { not_empty = h.0; within = h.1; collection = fits }
named_small false collection name fits within e = absurd (cc)

within_small : (collection : ℕ) (name : List ℕ) → collection < 2 ^ 32 → is_some (key_within collection name) ≡ true → IsSmallKey (unwrap_or (key_within collection name) no_key)
within_small collection name fits =
    named_small (nat_le 1 (length name) && nat_le (length name) (name_limit collection)) collection name fits
    (λ e. let h = and_parts _ _ e in (leb-true 1 (length name) h.0, leb-true (length name) (name_limit collection) h.1))

-- a key behind the id that is read
behind_small : (found : Option (ℕ × List ℕ)) → ((n : ℕ) (rest : List ℕ) → found ≡ Some (n, rest) → n < 2 ^ 32) →
    let key : Option DocKey = option_and_then (λ x. key_within x.0 x.1) found in
    is_some key ≡ true → IsSmallKey (unwrap_or key no_key)
behind_small None below e = absurd (cc)
behind_small (Some x) below e = within_small x.0 x.1 (below x.0 x.1 refl) e

from_small : (granted : Bool) (bytes : List ℕ) → is_some (key_from granted bytes) ≡ true → IsSmallKey (unwrap_or (key_from granted bytes) no_key)
from_small true bytes e = behind_small (id_at bytes) (id_at_below bytes) e
from_small false bytes e = within_small 0 bytes (omega arith) e

small_key : (features : Features) (f : Frame) (command : Command) → is_key features command f.key ≡ true → IfSome (key_named (body_of features f command)) IsSmallKey
small_key features f commands.Quit e = tt
small_key features f commands.Noop e = tt
small_key features f commands.Version e = tt
small_key features f commands.Hello e = tt
small_key features f commands.SetManifest e = tt
small_key features f commands.GetManifest e = tt
small_key features f commands.CollectionId e = tt
small_key features f commands.ScopeId e = tt
small_key features f command e = from_small features.collections f.key e

limit_within : (command : Command) → value_limit command ≤ VALUE_LIMIT
limit_within commands.SetManifest = omega arith
limit_within command = omega arith

key_within_bound : (magic : Magic) (size : ℕ) → size < key_bound magic → size ≤ VALUE_LIMIT
key_within_bound magics.Request size fits = omega arith
key_within_bound magics.FlexRequest size fits = omega arith
key_within_bound magics.Reply size fits = omega arith
key_within_bound magics.FlexReply size fits = omega arith

either_short : (b : Bool) (x y : List ℕ) → length x ≤ VALUE_LIMIT → length y ≤ VALUE_LIMIT → length (if b then x else y) ≤ VALUE_LIMIT
either_short true x y h k = h
either_short false x y h k = k

-- a path and what follows it are the value
parted_short : (n : ℕ) (s : List ℕ) → length s ≤ VALUE_LIMIT → length (take n s ++ drop n s) ≤ VALUE_LIMIT
parted_short n s h = rw take-append-drop h

-- specs that are read have as many bytes as they were read from
specs_short : (edits : Bool) (bytes : List ℕ) (specs : Option (List Spec)) → specs_in edits bytes ≡ specs → length bytes ≤ VALUE_LIMIT → length (specs_bytes edits (unwrap_or specs [])) ≤ VALUE_LIMIT
specs_short edits bytes None is h = omega arith
specs_short edits bytes (Some specs) is h = omega (arith, specs_long edits bytes specs is)

small_value : (features : Features) (f : Frame) (command : Command) → length f.key ≤ VALUE_LIMIT → length f.value ≤ VALUE_LIMIT → length (value_brought (body_of features f command)) ≤ VALUE_LIMIT
small_value features f commands.Set k v = v
small_value features f commands.Add k v = v
small_value features f commands.Replace k v = v
small_value features f commands.Append k v = v
small_value features f commands.Prepend k v = v
small_value features f commands.SetManifest k v = v
small_value features f commands.CollectionId k v = either_short (nat_eq (length f.key) 0) f.value f.key v k
small_value features f commands.ScopeId k v = either_short (nat_eq (length f.key) 0) f.value f.key v k
small_value features f (commands.Look lookup) k v = parted_short (path_length f) f.value v
small_value features f (commands.Edit edit) k v = parted_short (path_length f) f.value v
small_value features f commands.MultiLook k v = specs_short false f.value (specs_in false f.value) refl v
small_value features f commands.MultiEdit k v = specs_short true f.value (specs_in true f.value) refl v
small_value features f command k v = omega arith

few : (specs : List Spec) → are_few specs ≡ true → length specs ≤ MOST_SPECS
few specs e = leb-true (length specs) MOST_SPECS (and_parts (nat_le 1 (length specs)) (nat_le (length specs) MOST_SPECS) e).1

small_specs : (features : Features) (f : Frame) (command : Command) → AllByRecursion (λ c. c.0 ≡ true) (body_checks f command) → length (specs_brought (body_of features f command)) ≤ MOST_SPECS
small_specs features f commands.MultiLook all = few (specs_of commands.MultiLook f) all.1.1.0
small_specs features f commands.MultiEdit all = few (specs_of commands.MultiEdit f) all.1.1.0
small_specs features f command all = omega arith

small_made : (features : Features) (f : Frame) (command : Command) (made : Request) → Fits f → Passed features f command made → IsSmallRequest made
small_made features f command made fits h =
    let key : length f.key ≤ VALUE_LIMIT = key_within_bound f.magic (length f.key) fits.key in
    let value : length f.value ≤ VALUE_LIMIT = omega (arith, leb-true (length f.value) (value_limit command) h.value, limit_within command) in
    subst IsSmallRequest h.is (record {
      opcode = fits.opcode;
      opaque = fits.opaque;
      cas = fits.cas;
      vbucket = fits.word;
      key = small_key features f command h.key;
      value = small_value features f command key value;
      specs = small_specs features f command h.body;
    })

of_command : (features : Features) (f : Frame) (command : Option Command) (made : Request) → Fits f → option_map_or (checked features f) command (Err status.UNKNOWN_COMMAND) ≡ Ok made → IsSmallRequest made
of_command features f None made fits e = absurd (cc)
of_command features f (Some command) made fits e = small_made features f command made fits (passed features f command made e)

-- a frame of an opcode that isn't refused at once
pub not_of_streams : (b : Bool) (r : Result Request Status) (made : Request) → (if b then Err status.NOT_SUPPORTED else r) ≡ Ok made → r ≡ Ok made
not_of_streams true r made e = absurd (cc)
not_of_streams false r made e = e

-- a request of any frame is small
pub request_is_small : (made : Request) → IsRequest made → IsSmallRequest made
request_is_small made h =
    of_command h.0 h.1 (command_of h.1.opcode) made h.2
    (not_of_streams (is_of_streams h.1.opcode) (option_map_or (checked h.0 h.1) (command_of h.1.opcode) (Err status.UNKNOWN_COMMAND)) made h.3)
