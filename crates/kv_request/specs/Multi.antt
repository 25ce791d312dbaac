-- Requests on several parts of a document at once. Their extras are perhaps an expiry in four bytes, and then perhaps flags
-- for the document in one; their value is one spec behind the other.
use Rattle.std.specs.Prelude.{◌≡◌, ◌<◌, ◌^◌, ℕ, zero, suc, nat_eq, nat_le, Bool, true, false, ◌&&◌, ◌||◌, not, List, [], ◌∷◌, ◌++◌, length, map, filter, Option, Some, None, is_some, unwrap_or, slice_index, take, ◌-◌, if◌then◌else◌}
use Rattle.std.specs.List.{flat_map, list_all, list_any}
use Rattle.std.specs.Option.{option_map, option_map_or}
use Rattle.std.specs.Int.{w16, w32, from_be_bytes, to_be_bytes}
use Rattle.std.specs.Str.{bytes_eq}
use Rattle.kv_edge.specs.Fields.{◌>>=◌, byte_at, number_at, bytes_at}
use Rattle.kv_frame.specs.declared.frame.Frame.{Frame}
use Rattle.doc_model.specs.declared.status.Status.{Status}
use Rattle.doc_model.specs.declared.status.TheConstants.Status as status
use Rattle.json_model.specs.Edit.{lookup_of, edit_of}
use Rattle.kv_request.specs.declared.multi.TheConstants.{MOST_SPECS}
use Rattle.kv_request.specs.declared.opcode.Command.{Command}
use Rattle.kv_request.specs.declared.opcode.Command.TheVariants as commands
use Rattle.kv_request.specs.declared.request.Spec.{Spec}
use Rattle.kv_request.specs.Opcodes.{part_command}
use Rattle.kv_request.specs.Parts.{is_attribute, are_doc_flags, spec_checks}

-- ---- extras

-- the expiry, which extras of 4 and of 5 bytes have
abbrev pub multi_expiry : List ℕ → Option ℕ
multi_expiry extras = if nat_le 4 (length extras) then Some (from_be_bytes w32 (take 4 extras)) else None

-- the document's flags, which extras of 1 and of 5 bytes end in, and which else are 0
abbrev pub multi_flags : List ℕ → ℕ
multi_flags extras = if nat_eq (length extras) 1 || nat_eq (length extras) 5 then slice_index extras (length extras - 1) else 0

-- ---- the bytes of specs

-- a spec of a look-up: its opcode, its flags, the path's length in two bytes, the path
abbrev pub look_bytes : Spec → List ℕ
look_bytes spec = spec.opcode ∷ spec.flags ∷ (to_be_bytes w16 (length spec.path) ++ spec.path)

-- a spec of an edit: its opcode, its flags, the path's length in two bytes and the value's in four, the path, the value
abbrev pub edit_bytes : Spec → List ℕ
edit_bytes spec = spec.opcode ∷ spec.flags ∷ (to_be_bytes w16 (length spec.path) ++ (to_be_bytes w32 (length spec.value) ++ (spec.path ++ spec.value)))

-- a spec of an edit or of a look-up
abbrev pub spec_bytes : Bool → Spec → List ℕ
spec_bytes true spec = edit_bytes spec
spec_bytes false spec = look_bytes spec

-- specs in their order
abbrev pub specs_bytes : Bool → List Spec → List ℕ
specs_bytes edits specs = flat_map (spec_bytes edits) specs

-- ---- reading them

-- the spec of a look-up at the front, and what follows it
unfoldable pub look_spec_at : List ℕ → Option (Spec × List ℕ)
look_spec_at bytes = do
  opcode ← byte_at bytes
  flags ← byte_at opcode.1
  size ← number_at w16 flags.1
  path ← bytes_at size.0 size.1
  Some (record { opcode = opcode.0; flags = flags.0; path = path.0; value = [] }, path.1)

-- the spec of an edit at the front, and what follows it
unfoldable pub edit_spec_at : List ℕ → Option (Spec × List ℕ)
edit_spec_at bytes = do
  opcode ← byte_at bytes
  flags ← byte_at opcode.1
  size ← number_at w16 flags.1
  more ← number_at w32 size.1
  path ← bytes_at size.0 more.1
  value ← bytes_at more.0 path.1
  Some (record { opcode = opcode.0; flags = flags.0; path = path.0; value = value.0 }, value.1)

-- the spec at the front, and what follows it
abbrev pub spec_at : Bool → List ℕ → Option (Spec × List ℕ)
spec_at true bytes = edit_spec_at bytes
spec_at false bytes = look_spec_at bytes

-- a spec that was read, and the specs of what follows it
abbrev pub and_more : Option (Spec × List ℕ) → (List ℕ → Option (List Spec)) → Option (List Spec)
and_more None rest = None
and_more (Some read) rest = option_map (λ specs. read.0 ∷ specs) (rest read.1)

-- the specs that bytes are, at most so many
unfoldable pub specs_from : ℕ → Bool → List ℕ → Option (List Spec)
specs_from most edits [] = Some []
specs_from zero edits (x ∷ xs) = None
specs_from (suc most) edits (x ∷ xs) = and_more (spec_at edits (x ∷ xs)) (λ rest. specs_from most edits rest)

-- the specs that bytes are, where they are just those: each has a byte at least
abbrev pub specs_in : Bool → List ℕ → Option (List Spec)
specs_in edits bytes = specs_from (length bytes) edits bytes

-- a spec whose lengths fit their fields, and of which a look-up has no value
pub record FitsSpec (edits : Bool) (spec : Spec) : Type 0 where
  pub path : length spec.path < 2 ^ 16
  pub value : length spec.value < 2 ^ 32
  pub none : edits ≡ false → spec.value ≡ []

-- ---- their checks

-- whether a command on several parts edits them
abbrev pub edits_parts : Command → Bool
edits_parts commands.MultiEdit = true
edits_parts command = false

-- the specs of a frame, none where its value isn't just specs
abbrev pub specs_of : Command → Frame → List Spec
specs_of command frame = unwrap_or (specs_in (edits_parts command) frame.value) []

-- whether a spec is of the request's kind: an edit among edits, else a look-up
abbrev pub is_of_kind : Bool → Spec → Bool
is_of_kind true spec = is_some (edit_of spec.opcode)
is_of_kind false spec = is_some (lookup_of spec.opcode)

-- whether there are 1 to 16 of them
abbrev pub are_few : List Spec → Bool
are_few specs = nat_le 1 (length specs) && nat_le (length specs) MOST_SPECS

-- the checks of one spec, those of its path and its flags
abbrev pub own_checks : Spec → List (Bool × Status)
own_checks spec = option_map_or (λ command. spec_checks command spec) (part_command spec.opcode) []

-- whether no spec on an attribute stands behind one on the value
abbrev pub attributes_first : List Spec → Bool
attributes_first [] = true
attributes_first (spec ∷ specs) = if is_attribute spec then attributes_first specs else not (list_any is_attribute specs)

-- The name at the front of a path as it is spelt: up to the first point or bracket outside backticks. `quoted` says whether
-- an odd number of backticks stands before.
abbrev pub name_spelt : Bool → List ℕ → List ℕ
name_spelt quoted [] = []
name_spelt quoted (x ∷ xs) =
    if nat_eq x 0x60 then x ∷ name_spelt (not quoted) xs else
    if not quoted && (nat_eq x 0x2e || nat_eq x 0x5b) then [] else x ∷ name_spelt quoted xs

-- the names that specs on attributes spell
abbrev pub names_spelt : List Spec → List (List ℕ)
names_spelt specs = map (λ spec. name_spelt false spec.path) (filter is_attribute specs)

-- whether all of these are the same
abbrev pub are_same : List (List ℕ) → Bool
are_same [] = true
are_same (name ∷ names) = list_all (bytes_eq name) names

-- the checks of a request on several parts in their order
abbrev pub multi_checks : Frame → Command → List (Bool × Status)
multi_checks frame command =
    (are_doc_flags command (multi_flags frame.extras), status.EINVAL)
    ∷ (is_some (specs_in (edits_parts command) frame.value), status.EINVAL)
    ∷ (are_few (specs_of command frame), status.INVALID_COMBO)
    ∷ (list_all (is_of_kind (edits_parts command)) (specs_of command frame), status.INVALID_COMBO)
    ∷ (flat_map own_checks (specs_of command frame)
    ++ ((attributes_first (specs_of command frame), status.INVALID_XATTR_ORDER)
    ∷ (not (edits_parts command) || are_same (names_spelt (specs_of command frame)), status.XATTR_INVALID_KEY_COMBO)
    ∷ []))
