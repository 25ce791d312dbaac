-- What a request does to a vbucket that is a copy.
use Rattle.std.specs.Prelude.{◌≡◌, ◌⊎◌, ◌≤◌, ◌+◌, ◌*◌, ◌^◌, ℕ, max, is_none, nat_eq, Bool, List, [], ◌∷◌, Option, Some, None, Result, Ok, Err}
use Rattle.kv_edge.specs.Edge.{Rose}
use Rattle.doc_model.specs.declared.key.DocKey.{DocKey}
use Rattle.doc_model.specs.declared.status.Refused.{Refused}
use Rattle.doc_model.specs.declared.status.Refused.TheVariants as refusals
use Rattle.doc_model.specs.declared.status.Status.{Status}
use Rattle.doc_model.specs.declared.status.TheConstants.Status as status
use Rattle.kv_request.specs.declared.request.Request.{Request}
use Rattle.kv_request.specs.Tables.{first_failing, IsSmallReply}
use Rattle.doc_step.specs.declared.Change.{Change}
use Rattle.doc_step.specs.declared.Effect.{Effect}
use Rattle.doc_step.specs.declared.Effect.TheVariants as effects
use Rattle.magma_disk.specs.Counting.{Counts}
use Rattle.magma_disk.specs.Device.{Device}
use Rattle.manifest_rules.specs.Applying.{text_step}
use Rattle.manifest_rules.specs.Catalog.{Catalog}
use Rattle.manifest_rules.specs.Ids.{SameIds}
use Rattle.manifest_rules.specs.Rules.{Step}
use Rattle.vb_log.specs.declared.entry.Entry.{Entry}
use Rattle.vb_log.specs.declared.entry.Entry.TheVariants as entries
use Rattle.vb_log.specs.Content.{Content, has_collection, prepare_of}
use Rattle.vb_log.specs.Logs.{folds}
use Rattle.vb_log.specs.declared.limits.TheConstants.{GREATEST_CAS}
use Rattle.vb_log.specs.Spelling.{IsAllowedDoc}
use Rattle.copy_model.specs.declared.outcome.Outcome.{Outcome}
use Rattle.copy_model.specs.Copies.{Copy}
use Rattle.copy_model.specs.Entries.{added, log_length}
use Rattle.copy_model.specs.Requests.{changing, refusal}
use Rattle.replica_core.specs.Terms.{is_active}
use Rattle.vb_core.specs.declared.making.Made.{Made}
use Rattle.vb_core.specs.declared.making.Made.TheVariants as made
use Rattle.vb_core.specs.Coming.{ComesWell}
use Rattle.vb_core.specs.Flat.{flat}
use Rattle.vb_core.specs.Shown.{ShownVb}

-- ---- before a document is looked at

-- The checks of a request on a document that don't need it, each with the status of one that fails it.
abbrev pub early_checks : {D : Type 0} → ShownVb D → Request → DocKey → List (Bool × Status)
early_checks vb request key =
    (is_active vb.core.role, status.NOT_MY_VBUCKET)
    ∷ (nat_eq request.vbucket vb.number, status.NOT_MY_VBUCKET)
    ∷ (has_collection vb.recent.manifest key.collection, status.UNKNOWN_COLLECTION)
    ∷ (is_none (prepare_of vb.recent.prepares key), status.SYNC_WRITE_RE_COMMIT_IN_PROGRESS)
    ∷ []

abbrev pub early_refusal : {D : Type 0} → ShownVb D → Request → DocKey → Option Status
early_refusal vb request key = first_failing (early_checks vb request key)

-- ---- the document's step

-- the CAS that a change draws from what a vbucket has
abbrev pub drawn_by : {D : Type 0} → ShownVb D → ℕ
drawn_by vb = max (vb.recent.greatest_cas + 1) (vb.seen * 2 ^ 20)

-- Planning a request came to the document's step; or it was refused since the document couldn't be read, and the disk's count
-- of faults rose; or since memory was.
abbrev pub PlansOn : Result Change Status → ℕ → ℕ → Result Change Refused → Type 0
PlansOn step before after (Ok change) = step ≡ Ok change
PlansOn step before after (Err (refusals.Status why)) =
    (step ≡ Err why) ⊎ ((why ≡ status.ETMPFAIL) × Rose before after)
PlansOn step before after (Err refusals.NoMemory) = Unit {0}

-- an effect whose change an entry can have, if the CAS that was drawn for it is small enough
abbrev pub CanBeMade : ℕ → Effect → Type 0
CanBeMade cas effects.Nothing = Unit {0}
CanBeMade cas (effects.Put doc) =
    (doc.cas ≡ cas) × (cas ≤ GREATEST_CAS → IsAllowedDoc doc) × (doc.seqno ≡ 0)
CanBeMade cas effects.Remove = Unit {0}

-- a change whose reply has a frame, and whose effect can be made
pub record IsPlanned (cas : ℕ) (change : Change) : Type 0 where
  pub reply : IsSmallReply change.reply
  pub effect : CanBeMade cas change.effect

-- ---- an entry is added

-- an entry takes the place of the item of this key, or of those of these collections
abbrev pub Covers : Catalog → Entry → Option DocKey → List ℕ → Type 0
Covers manifest (entries.Mutation key doc) covered dropped = (covered ≡ Some key) × (dropped ≡ [])
Covers manifest (entries.Deletion key cas) covered dropped = (covered ≡ Some key) × (dropped ≡ [])
Covers manifest (entries.Prepare key what level) covered dropped = ⊥
Covers manifest (entries.Commit of) covered dropped = ⊥
Covers manifest (entries.Abort of) covered dropped = ⊥
Covers manifest (entries.Manifest text) covered dropped =
    (covered ≡ None) × (step : Step) × (text_step manifest text ≡ Ok step) × SameIds dropped step.dropped

-- An entry was added to a copy, which may have put its log on disk before: whatever reply tells of the change, it is told of
-- the copy before the entry.
pub record AddsOne {D : Type 0} (states : D → List Device) (counts : D → Counts) (copy : Copy Content ℕ) (cas : ℕ) (e : Entry) (old new : ShownVb D) : Type 0 where
  pub before : Copy Content ℕ
  pub position : new.core.length ≡ log_length folds before + 1
  pub term : new.core.accepted ≡ before.accepted
  pub comes : (request : Request) (reply : Copy Content ℕ → Outcome) →
      ComesWell states counts copy
      (λ luck. changing folds (flat copy.chain) luck request cas e (λ c. (added folds e c, reply c)) copy)
      old new (reply before)

-- an entry was added, or the request was refused
abbrev pub Makes : {D : Type 0} → (D → List Device) → (D → Counts) → Copy Content ℕ → ℕ → Entry → ShownVb D → ShownVb D → Made → Type 0
Makes states counts copy cas e old new made.Done = AddsOne states counts copy cas e old new
Makes states counts copy cas e old new (made.Refused why) =
    (request : Request) (change : Copy Content ℕ → Copy Content ℕ × Outcome) →
    ComesWell states counts copy (λ luck. changing folds (flat copy.chain) luck request cas e change copy)
    old new (refusal request why)
