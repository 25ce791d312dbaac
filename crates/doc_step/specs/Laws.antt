-- Words for laws of the document step.
use Rattle.std.specs.Prelude.{◌≡◌, ℕ, ◌^◌, ◌<◌, ◌≤◌, true, false, List, [], ◌∷◌, length, take, drop, Option, None, Result, Ok, Err}
use Rattle.std.specs.List.{list_all, list_any}
use Rattle.doc_model.specs.declared.document.Doc.{Doc}
use Rattle.doc_model.specs.declared.status.Status.{Status}
use Rattle.doc_model.specs.declared.status.TheConstants.Status as status
use Rattle.xattr_body.specs.declared.TheConstants.{SECTION_LIMIT}
use Rattle.kv_request.specs.declared.reading.TheConstants.{VALUE_LIMIT}
use Rattle.kv_request.specs.declared.request.Spec.{Spec}
use Rattle.kv_request.specs.declared.request.Body.{Body}
use Rattle.kv_request.specs.declared.request.Body.TheVariants as bodies
use Rattle.kv_request.specs.Parts.{is_attribute}
use Rattle.kv_request.specs.Tables.{IsSmallReply}
use Rattle.doc_step.specs.declared.Effect.{Effect}
use Rattle.doc_step.specs.declared.Effect.TheVariants as effects
use Rattle.doc_step.specs.declared.Change.{Change}
use Rattle.doc_step.specs.Parts.{edited_doc, all_made, edits_from}

-- the effect that a step has
abbrev pub effect_of : Result Change Status → Effect
effect_of (Ok change) = change.effect
effect_of (Err refusing) = effects.Nothing

-- the status that a step answers
abbrev pub status_of : Result Change Status → Status
status_of (Ok change) = change.reply.status
status_of (Err refusing) = refusing

-- a change has this CAS: the document that is stored, and the reply
abbrev pub CarriesDraw : ℕ → Change → Effect → Type 0
CarriesDraw draw change effects.Nothing = Unit {0}
CarriesDraw draw change (effects.Put doc) = (doc.cas ≡ draw) × (change.reply.cas ≡ draw)
CarriesDraw draw change effects.Remove = change.reply.cas ≡ draw

-- a document that a reply can carry, whole or in parts
pub record IsSmallDoc (doc : Doc) : Type 0 where
  pub value : length doc.value ≤ VALUE_LIMIT
  pub xattrs : length doc.xattrs ≤ SECTION_LIMIT
  pub cas : doc.cas < 2 ^ 64

-- what is asked for brings no initial value, or one below 2^64
abbrev pub HasSmallInitial : Body → Type 0
HasSmallInitial (bodies.Count key up delta initial expiry) = initial < 2 ^ 64
HasSmallInitial body = Unit {0}

-- an effect that leaves a document that a reply can carry
abbrev pub IsSmallEffect : Effect → Type 0
IsSmallEffect effects.Nothing = Unit {0}
IsSmallEffect (effects.Put doc) = IsSmallDoc doc
IsSmallEffect effects.Remove = Unit {0}

-- a change whose reply has a frame, and that leaves a document that a reply can carry
pub record IsSmallChange (change : Change) : Type 0 where
  pub reply : IsSmallReply change.reply
  pub effect : IsSmallEffect change.effect

-- ---- parts of documents

-- An edited document has what the one that was there had, but for what was asked: specs on the value leave the attributes,
-- and specs on attributes the value.
pub record Spares (found made : Doc) (given : Option ℕ) (specs : List Spec) : Type 0 where
  pub flags : made.flags ≡ found.flags
  pub expiry : given ≡ None → made.expiry ≡ found.expiry
  pub attributes : list_any is_attribute specs ≡ false → made.xattrs ≡ found.xattrs
  pub value : list_all is_attribute specs ≡ true → made.value ≡ found.value

-- the edit at a place is refused so, where all before it were made
pub record FailsAt (specs : List Spec) (flags : ℕ) (begun : Doc) (place : ℕ) (refusing : Status) : Type 0 where
  pub left : Doc
  pub told : List ℕ
  pub spec : Spec
  pub others : List Spec
  pub before : edits_from flags 0 begun [] (take place specs) ≡ all_made left told
  pub at : drop place specs ≡ spec ∷ others
  pub refused : edited_doc spec flags left ≡ Err refusing

-- a change that does nothing and whose reply tells of a part that failed, with this value
pub record TellsFailure (change : Change) (told : List ℕ) : Type 0 where
  pub effect : change.effect ≡ effects.Nothing
  pub status : change.reply.status ≡ status.MULTI_PATH_FAILURE
  pub value : change.reply.value ≡ told
