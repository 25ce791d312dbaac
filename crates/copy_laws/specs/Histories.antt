-- What happens to a vbucket's copy, for laws in the words of those who use documents.
use Rattle.std.specs.Prelude.{◌≡◌, ◌≢◌, ℕ, List, [], ◌∷◌, None, Result, false}
use Rattle.doc_model.specs.declared.key.DocKey.{DocKey}
use Rattle.doc_model.specs.declared.status.TheConstants.Status as status
use Rattle.kv_request.specs.declared.request.Request.{Request}
use Rattle.kv_request.specs.declared.request.Body.TheVariants as bodies
use Rattle.kv_request.specs.declared.request.Mode.TheVariants as modes
use Rattle.kv_request.specs.declared.reply.Reply.{Reply}
use Rattle.doc_step.specs.Expiry.{expiry_of, is_expired}
use Rattle.vb_log.specs.Content.{Content}
use Rattle.vb_log.specs.Logs.{folds}
use Rattle.copy_model.specs.declared.outcome.Outcome.TheVariants as outcomes
use Rattle.copy_model.specs.declared.outcome.VbFault.{VbFault}
use Rattle.copy_model.specs.Copies.{Copy, LayoutKind}
use Rattle.copy_model.specs.Events.{Requests, Flushes, Answered, FlushedTo}
use Rattle.copy_model.specs.Laying.{May}
use Rattle.copy_model.specs.Requests.{moment_of, setting_at}
use Rattle.copy_laws.specs.Leaving.{LeavesBody}

-- ---- histories

-- What happens: a request without a level comes at a moment and is answered; or the log is put on
-- disk, or isn't.
pub data Deed : Type 0 where
  Asked : (request : Request) (now : ℕ) (reply : Reply) → Deed
  Flushed : (told : Result ℕ VbFault) → Deed

-- a copy may become another by a deed
abbrev pub Takes : {Y : Type 0} → LayoutKind Y → Copy Content Y → Deed → Copy Content Y → Type 0
Takes y c (Asked request now reply) d =
    (request.durability ≡ None)
    × May folds y (Requests request now) c d (Answered (outcomes.Reply reply))
Takes y c (Flushed told) d = May folds y Flushes c d (FlushedTo told)

-- by deeds, one after the other
abbrev pub TakesAll :
    {Y : Type 0} → LayoutKind Y → Copy Content Y → List Deed → Copy Content Y → Type 0
TakesAll y c [] d = d ≡ c
TakesAll {Y = Y} y c (deed ∷ deeds) d =
    (mid : Copy Content Y) × Takes y c deed mid × TakesAll y mid deeds d

-- ---- replies

-- a reply of a copy that served the request: it was active, memory sufficed, and its disk didn't
-- fail and had room
pub record IsServed (reply : Reply) : Type 0 where
  pub ours : reply.status ≢ status.NOT_MY_VBUCKET
  pub memory : reply.status ≢ status.ENOMEM
  pub disk : reply.status ≢ status.ETMPFAIL
  pub room : reply.status ≢ status.EBUSY

-- ---- requests

-- a Get of the key that takes any document
pub record IsGetOf (key : DocKey) (request : Request) : Type 0 where
  pub body : request.body ≡ bodies.Get key
  pub any : request.cas ≡ 0

-- a Set of the key to a value with flags and an expiry
pub record IsSetOf (key : DocKey) (flags expiry : ℕ) (value : List ℕ) (request : Request)
    : Type 0 where
  pub body : request.body ≡ bodies.Store key modes.Set flags expiry value

-- a Delete of the key
pub record IsDeleteOf (key : DocKey) (request : Request) : Type 0 where
  pub body : request.body ≡ bodies.Delete key

-- A deed that leaves a key's document: a flush; or a request that changes the document of another
-- key, or none, and doesn't drop the key's collection.
abbrev pub LeavesKey : DocKey → Deed → Type 0
LeavesKey key (Asked request now reply) = LeavesBody key request.body
LeavesKey key (Flushed told) = Unit {0}

-- A document of the key, stored at one moment with this expiry of a request, is there at another.
abbrev pub LastsUntil : {Y : Type 0} → Copy Content Y → DocKey → ℕ → ℕ → ℕ → Type 0
LastsUntil c key stored expiry now =
    let s = setting_at c.log 0 (moment_of stored) key.collection in
    is_expired (expiry_of s expiry) (moment_of now) ≡ false
