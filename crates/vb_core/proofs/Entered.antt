-- The entry of a change of a key that isn't refused early may be added.
use Rattle.std.specs.Prelude.{◌≡◌, ◌≤◌, ◌∷◌, ◌&&◌, ℕ, is_none, nat_eq, Bool, true, false, [], None, refl}
use Rattle.std.proofs.Common.{arith}
use Rattle.std.proofs.lemmas.Bool.{and_parts}
use Rattle.doc_model.specs.declared.key.DocKey.{DocKey}
use Rattle.doc_model.specs.declared.document.What.{What}
use Rattle.doc_model.specs.declared.document.What.TheVariants as whats
use Rattle.doc_model.specs.declared.status.Status.{Status}
use Rattle.doc_model.specs.declared.status.TheConstants.Status as status
use Rattle.kv_request.specs.declared.request.Request.{Request}
use Rattle.kv_request.specs.Tables.{first_failing}
use Rattle.vb_log.specs.declared.limits.TheConstants.{GREATEST_CAS}
use Rattle.vb_log.specs.Content.{Content, has_collection, prepare_of, is_free, allowed}
use Rattle.vb_log.specs.Keys.{IsAllowedKey}
use Rattle.vb_log.specs.Spelling.{IsAllowed}
use Rattle.replica_core.specs.Terms.{is_active}
use Rattle.copy_model.specs.Requests.{plain_entry}
use Rattle.vb_core.specs.Making.{early_refusal}
use Rattle.vb_core.specs.Plans.{CanBeEntered}
use Rattle.vb_core.specs.Shown.{ShownVb}

-- such an entry is one that the layout allows
pub entered_allowed : (key : DocKey) (cas : ℕ) (what : What) → IsAllowedKey key → CanBeEntered cas what → cas ≤ GREATEST_CAS
    → IsAllowed (plain_entry key what)
entered_allowed key cas (whats.Put doc) k h low = (k, h.0 low, h.1)
entered_allowed key cas (whats.Remove other) k h low = (k, omega (arith, h, low))

free_of : (a b h p : Bool) (nm uc re : Status) → first_failing ((a, nm) ∷ (b, nm) ∷ (h, uc) ∷ (p, re) ∷ []) ≡ None → (p && h) ≡ true
free_of true true true true nm uc re e = refl
free_of true true true false nm uc re e = absurd (cc)
free_of true true false p nm uc re e = absurd (cc)
free_of true false h p nm uc re e = absurd (cc)
free_of false b h p nm uc re e = absurd (cc)

its_free : {D : Type 0} (vb : ShownVb D) (request : Request) (key : DocKey) → early_refusal vb request key ≡ None
    → is_free vb.recent key ≡ true
its_free vb request key e =
    free_of (is_active vb.core.role) (nat_eq request.vbucket vb.number) (has_collection vb.recent.manifest key.collection)
    (is_none (prepare_of vb.recent.prepares key))
    status.NOT_MY_VBUCKET status.UNKNOWN_COLLECTION status.SYNC_WRITE_RE_COMMIT_IN_PROGRESS e

free_allowed : (content : Content) (key : DocKey) (what : What) → is_free content key ≡ true
    → allowed content (plain_entry key what) ≡ true
free_allowed content key (whats.Put doc) e = e
free_allowed content key (whats.Remove cas) e = e

-- and it may be added
pub entered_added : {D : Type 0} (vb : ShownVb D) (request : Request) (key : DocKey) (what : What) → early_refusal vb request key ≡ None
    → allowed vb.recent (plain_entry key what) ≡ true
entered_added vb request key what e = free_allowed vb.recent key what (its_free vb request key e)

-- and its collection is there
pub entered_there : {D : Type 0} (vb : ShownVb D) (request : Request) (key : DocKey) → early_refusal vb request key ≡ None
    → has_collection vb.recent.manifest key.collection ≡ true
entered_there vb request key e = (and_parts (is_none (prepare_of vb.recent.prepares key)) _ (its_free vb request key e)).1
