-- What reading a frame where it lies relies on.
use Rattle.std.specs.Prelude.{◌≡◌, true, Bool, not, ◌||◌, List, [], ◌∷◌, ◌++◌, ℕ, Option, Some, None, Result, Ok, Err, is_some, unwrap_or}
use Rattle.std.specs.List.{flat_map}
use Rattle.kv_frame.specs.declared.frame.Frame.{Frame}
use Rattle.doc_model.specs.declared.key.DocKey.{DocKey}
use Rattle.doc_model.specs.declared.status.Status.{Status}
use Rattle.doc_model.specs.declared.status.TheConstants.Status as status
use Rattle.kv_request.specs.declared.opcode.Command.{Command}
use Rattle.kv_request.specs.declared.request.Features.{Features}
use Rattle.kv_request.specs.declared.reading.KeyView.{KeyView}
use Rattle.kv_request.specs.declared.parts.SpecView.{SpecView}
use Rattle.kv_request.specs.declared.request.Spec.{Spec}
use Rattle.kv_request.specs.Opcodes.{names_document}
use Rattle.kv_request.specs.Multi.{specs_in, own_checks, attributes_first, names_spelt, are_same}
use Rattle.kv_request.specs.Tables.{has_form, key_from, is_key, body_checks, checks, first_failing}

-- the key that is seen
abbrev pub key_seen : KeyView → DocKey
key_seen k = record { collection = k.collection; key = k.name.now }

-- the path that is seen, with what comes with it
abbrev pub spec_seen : SpecView → Spec
spec_seen s = record { opcode = s.opcode; flags = s.flags; path = s.path.now; value = s.value.now }

-- bytes that are just specs
abbrev pub AreSpecs : Bool → List ℕ → Type 0
AreSpecs edits bytes = is_some (specs_in edits bytes) ≡ true

-- the specs that bytes are, none where they aren't just specs
abbrev pub specs_at : Bool → List ℕ → List Spec
specs_at edits bytes = unwrap_or (specs_in edits bytes) []

-- the checks of specs behind those of their number and their kind
abbrev pub specs_checks : Bool → List Spec → List (Bool × Status)
specs_checks edits specs =
    flat_map own_checks specs
    ++ ((attributes_first specs, status.INVALID_XATTR_ORDER)
    ∷ (not edits || are_same (names_spelt specs), status.XATTR_INVALID_KEY_COMBO)
    ∷ [])

-- where the bytes are a document's key, it is the one that they spell
abbrev pub IsKeyOf : Features → Command → List ℕ → KeyView → Type 0
IsKeyOf features command bytes k =
    names_document command ≡ true → key_from features.collections bytes ≡ Some (key_seen k)

-- What is found of a key: the key, where the command names one, or that the bytes are none.
abbrev pub FindsKey : Features → Command → List ℕ → Option KeyView → Type 0
FindsKey features command bytes found =
    (is_some found ≡ is_key features command bytes)
    × ((k : KeyView) → found ≡ Some k → IsKeyOf features command bytes k)

-- What the checks tell of a frame: that it passes them all, and its key, or the status of the first that it fails.
abbrev pub Checks : Features → Frame → Command → Result KeyView Status → Type 0
Checks features frame command (Ok k) =
    (first_failing (checks features frame command) ≡ None)
    × (has_form frame command ≡ true)
    × (first_failing (body_checks frame command) ≡ None)
    × IsKeyOf features command frame.key k
Checks features frame command (Err status) = first_failing (checks features frame command) ≡ Some status
