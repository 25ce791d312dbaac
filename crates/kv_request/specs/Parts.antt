-- Requests on a part of a document. Their extras are the path's length in two bytes and its flags in one, then perhaps an
-- expiry, then perhaps flags for the document; their value is the path, and behind it what comes with an edit.
use Rattle.std.specs.Prelude.{ℕ, nat_eq, nat_le, Bool, ◌&&◌, ◌||◌, not, slice_index, bit_and, List, [], ◌∷◌, length, take, drop, Option, Some, None, if◌then◌else◌, ◌-◌}
use Rattle.std.specs.Int.{w16, w32, from_be_bytes}
use Rattle.kv_frame.specs.declared.frame.Frame.{Frame}
use Rattle.doc_model.specs.declared.status.Status.{Status}
use Rattle.doc_model.specs.declared.status.TheConstants.Status as status
use Rattle.kv_request.specs.declared.parts.TheConstants.{MAKES_PARENTS, IS_XATTR, EXPANDS_MACROS, MAKES_DOCUMENT, ADDS_DOCUMENT}
use Rattle.kv_request.specs.declared.opcode.Command.{Command}
use Rattle.kv_request.specs.declared.opcode.Command.TheVariants as commands
use Rattle.kv_request.specs.declared.request.Spec.{Spec}
use Rattle.kv_request.specs.Opcodes.{takes_value, may_make_parents, takes_whole}

-- how many bytes the path has
abbrev pub path_length : Frame → ℕ
path_length frame = from_be_bytes w16 (take 2 frame.extras)

-- the path's flags
abbrev pub path_flags : Frame → ℕ
path_flags frame = slice_index frame.extras 2

-- the expiry, which extras of 7 and of 8 bytes have
abbrev pub given_expiry : List ℕ → Option ℕ
given_expiry extras = if nat_le 7 (length extras) then Some (from_be_bytes w32 (take 4 (drop 3 extras))) else None

-- the document's flags, which extras of 4 and of 8 bytes end in, and which else are 0
abbrev pub doc_flags : List ℕ → ℕ
doc_flags extras = if nat_eq (length extras) 4 || nat_eq (length extras) 8 then slice_index extras (length extras - 1) else 0

-- what a frame asks for at which path, with what comes with it
abbrev pub spec_of : Frame → Spec
spec_of frame = record { opcode = frame.opcode; flags = path_flags frame; path = take (path_length frame) frame.value; value = drop (path_length frame) frame.value }

-- whether a bit is set in flags
abbrev pub has_bit : ℕ → ℕ → Bool
has_bit flags bit = not (nat_eq (bit_and flags bit) 0)

-- whether a path leads into the document's attributes, and not into its value
abbrev pub is_attribute : Spec → Bool
is_attribute spec = has_bit spec.flags IS_XATTR

-- whether the document's flags are ones that a command takes: look-ups none, edits one of two or none
abbrev pub are_doc_flags : Command → ℕ → Bool
are_doc_flags (commands.Look lookup) flags = nat_eq flags 0
are_doc_flags commands.MultiLook flags = nat_eq flags 0
are_doc_flags command flags = nat_eq flags 0 || nat_eq flags MAKES_DOCUMENT || nat_eq flags ADDS_DOCUMENT

-- whether each bit of a path's flags is known
abbrev pub are_known : ℕ → Bool
are_known flags = nat_eq (bit_and flags 0xea) 0

-- whether a path of no bytes may stand, where the path is one of the value
abbrev pub may_be_empty : Command → Spec → Bool
may_be_empty command spec = takes_whole command && not (is_attribute spec)

-- the checks of a path and its flags in their order, each with the status of a request that fails it
abbrev pub spec_checks : Command → Spec → List (Bool × Status)
spec_checks command spec =
    (are_known spec.flags, status.EINVAL)
    ∷ (is_attribute spec || not (has_bit spec.flags EXPANDS_MACROS), status.XATTR_INVALID_FLAG_COMBO)
    ∷ (not (has_bit spec.flags EXPANDS_MACROS), status.XATTR_UNKNOWN_MACRO)
    ∷ (may_make_parents command || not (has_bit spec.flags MAKES_PARENTS), status.EINVAL)
    ∷ (nat_le 1 (length spec.path) || may_be_empty command spec, status.EINVAL)
    ∷ []

-- the checks of a request on a part of a document in their order
abbrev pub part_checks : Frame → Command → List (Bool × Status)
part_checks frame command =
    (are_doc_flags command (doc_flags frame.extras), status.EINVAL)
    ∷ (nat_le (path_length frame) (length frame.value), status.EINVAL)
    ∷ (takes_value command || nat_eq (length (spec_of frame).value) 0, status.EINVAL)
    ∷ spec_checks command (spec_of frame)
