-- A request without a level, and a flush, leave a copy in its chain.
use Rattle.std.specs.Prelude.{◌≡◌, ℕ, nat_lt, Bool, List, [], ◌∷◌, Option, Some, None, Result, Ok, Err, refl}
use Rattle.std.proofs.Common.{sym, ap, subst, ◌∙◌}
use Rattle.doc_model.specs.declared.document.What.{What}
use Rattle.doc_model.specs.declared.status.Status.{Status}
use Rattle.kv_request.specs.declared.request.Request.{Request}
use Rattle.kv_request.specs.declared.request.Body.{Body}
use Rattle.kv_request.specs.declared.request.Body.TheVariants as bodies
use Rattle.kv_request.specs.declared.request.Durability.{Durability}
use Rattle.kv_request.specs.declared.reply.Reply.{Reply}
use Rattle.kv_request.specs.Tables.{document_key, first_failing}
use Rattle.manifest_rules.specs.Rules.{Step}
use Rattle.manifest_rules.specs.Applying.{text_step}
use Rattle.doc_step.specs.declared.Change.{Change}
use Rattle.durability_core.specs.declared.chain.Chain.{Chain}
use Rattle.replica_core.specs.Terms.{is_active, is_dead}
use Rattle.vb_log.specs.declared.entry.Entry.{Entry}
use Rattle.vb_log.specs.declared.entry.Entry.TheVariants as entries
use Rattle.vb_log.specs.declared.entry.Pending.{Pending}
use Rattle.vb_log.specs.Content.{Content}
use Rattle.vb_log.specs.Logs.{folds}
use Rattle.copy_model.specs.declared.outcome.Outcome.{Outcome}
use Rattle.copy_model.specs.declared.outcome.Outcome.TheVariants as outcomes
use Rattle.copy_model.specs.declared.outcome.VbFault.{VbFault}
use Rattle.copy_model.specs.Copies.{Copy, LayoutKind, Luck, lacks_memory, fails_disk}
use Rattle.copy_model.specs.Disk.{Put, Done, NoRoom, Failed, put_then, needed, free, write_log, after_flush, tells_flush, flushing, must_flush, flushed_first}
use Rattle.copy_model.specs.Entries.{committed, is_ready_at, committing, settled}
use Rattle.copy_model.specs.Events.{put_told, flushed_to, flushes}
use Rattle.copy_model.specs.Requests.{moment_of, seeing, drawn, is_too_much, after_put, changing, made, what_of, plain_entry, changing_document, effecting, concluded, step_on, request_checks, served, success, installed, set_by, if_active, body_step, requested}
use Rattle.copy_model.proofs.Moves.{by_either, by_option}

-- a copy of a chain
abbrev pub IsOf : Chain → Copy Content ℕ → Type 0
IsOf chain c = c.chain ≡ chain

-- and one that something came to
abbrev IsOfIn : {A : Type 0} → Chain → Copy Content ℕ × A → Type 0
IsOfIn chain r = r.0.chain ≡ chain

-- what a write leaves is of a chain
abbrev PutIsOf : Chain → Put (Copy Content ℕ) → Type 0
PutIsOf chain (Done c) = IsOf chain c
PutIsOf chain (NoRoom needed free) = Unit {0}
PutIsOf chain (Failed c) = IsOf chain c

module _ (chain : Chain) where
  then_of : (f : Copy Content ℕ → Copy Content ℕ) (p : Put (Copy Content ℕ)) → ((c : Copy Content ℕ) → IsOf chain c → IsOf chain (f c))
      → PutIsOf chain p → PutIsOf chain (put_then f p)
  then_of f (Done c) h p = h c p
  then_of f (NoRoom needed free) h p = tt
  then_of f (Failed c) h p = p

  write_of : (y : LayoutKind ℕ) (luck : Luck ℕ) (term : ℕ) (c : Copy Content ℕ) → IsOf chain c → PutIsOf chain (write_log folds y luck term c)
  write_of y luck term c h =
      by_either (PutIsOf chain) (nat_lt (free y c) (needed folds y c)) _ _
      (by_either (PutIsOf chain) (fails_disk luck.chance) _ _ h tt)
      (by_either (PutIsOf chain) (fails_disk luck.chance) _ _ h h)

  committing_of : (ps : List Pending) (c : Copy Content ℕ) → IsOf chain c → IsOf chain (committing folds ps c)
  committing_of [] c h = h
  committing_of (p ∷ ps) c h =
      by_either (IsOf chain) (is_ready_at folds c p) _ _ (committing_of ps (committed folds p.position c) h) h

  after_of : (c : Copy Content ℕ) → IsOf chain c → IsOf chain (after_flush folds c)
  after_of c h = by_either (IsOf chain) (is_active c.role) _ _ (committing_of c.log.prepares c h) (by_either (IsOf chain) (tells_flush c) _ _ h h)

  flushing_of : (y : LayoutKind ℕ) (luck : Luck ℕ) (c : Copy Content ℕ) → IsOf chain c → PutIsOf chain (flushing folds y luck c)
  flushing_of y luck c h = then_of (after_flush folds) (write_log folds y luck c.accepted c) after_of (write_of y luck c.accepted c h)

  first_of : (y : LayoutKind ℕ) (luck : Luck ℕ) (c : Copy Content ℕ) → IsOf chain c → PutIsOf chain (flushed_first folds y luck c)
  first_of y luck c h = by_either (PutIsOf chain) (must_flush c) _ _ (flushing_of y luck c h) h

  -- ---- requests

  put_of : (change : Copy Content ℕ → Copy Content ℕ × Outcome) (request : Request) (c : Copy Content ℕ) (p : Put (Copy Content ℕ))
      → ((d : Copy Content ℕ) → IsOf chain d → IsOfIn chain (change d)) → IsOf chain c → PutIsOf chain p → IsOfIn chain (after_put change request c p)
  put_of change request c (Done d) h k p = h d p
  put_of change request c (NoRoom needed free) h k p = k
  put_of change request c (Failed d) h k p = p

  changing_of : (y : LayoutKind ℕ) (luck : Luck ℕ) (request : Request) (cas : ℕ) (e : Entry) (change : Copy Content ℕ → Copy Content ℕ × Outcome)
      (c : Copy Content ℕ) → ((d : Copy Content ℕ) → IsOf chain d → IsOfIn chain (change d)) → IsOf chain c
      → IsOfIn chain (changing folds y luck request cas e change c)
  changing_of y luck request cas e change c h k =
      by_either (IsOfIn chain) (is_too_much c.log cas e) _ _ k
      (put_of change request c (flushed_first folds y luck c) h k (first_of y luck c k))

  document_of : (y : LayoutKind ℕ) (luck : Luck ℕ) (now : ℕ) (request : Request) (cas : ℕ) (reply : Reply) (what : What) (level : Option Durability)
      (c : Copy Content ℕ) → level ≡ None → IsOf chain c → IsOfIn chain (changing_document folds y luck now request cas reply what level c)
  document_of y luck now request cas reply what None c none h =
      let entry : Entry = plain_entry (document_key request.body) what in
      changing_of y luck request cas entry (made folds request reply entry) c (λ d k. k) h
  document_of y luck now request cas reply what (Some level) c none h = absurd (cc)

  effecting_of : (y : LayoutKind ℕ) (luck : Luck ℕ) (now : ℕ) (request : Request) (cas : ℕ) (reply : Reply) (what : Option What)
      (c : Copy Content ℕ) → request.durability ≡ None → IsOf chain c → IsOfIn chain (effecting folds y luck now request cas reply what c)
  effecting_of y luck now request cas reply None c none h = h
  effecting_of y luck now request cas reply (Some what) c none h = document_of y luck now request cas reply what request.durability c none h

  concluded_of : (y : LayoutKind ℕ) (luck : Luck ℕ) (now : ℕ) (request : Request) (cas : ℕ) (r : Result Change Status)
      (c : Copy Content ℕ) → request.durability ≡ None → IsOf chain c → IsOfIn chain (concluded folds y luck now request cas r c)
  concluded_of y luck now request cas (Ok change) c none h = effecting_of y luck now request cas change.reply (what_of change.effect cas) c none h
  concluded_of y luck now request cas (Err why) c none h = h

  served_of : (y : LayoutKind ℕ) (luck : Luck ℕ) (now : ℕ) (request : Request) (c : Copy Content ℕ) → request.durability ≡ None → IsOf chain c
      → IsOfIn chain (served folds y luck now request c)
  served_of y luck now request c none h =
      by_option (IsOfIn chain) _ (first_failing (request_checks folds luck request (document_key request.body) c)) _ (λ why. h)
      (concluded_of y luck now request (drawn c.log c.seen) (step_on c.log c.seen now request) c none h)

  set_of : (y : LayoutKind ℕ) (luck : Luck ℕ) (request : Request) (text : List ℕ) (r : Result Step Status) (c : Copy Content ℕ) → IsOf chain c
      → IsOfIn chain (set_by folds y luck request text r c)
  set_of y luck request text (Ok step) c h =
      let e : Entry = entries.Manifest text in
      by_either (IsOfIn chain) step.changed (changing folds y luck request 0 e (installed folds request e) c) (c, outcomes.Reply (success request [] []))
      (changing_of y luck request 0 e (installed folds request e) c (λ d k. k) h) h
  set_of y luck request text (Err why) c h = h

  body_of : (y : LayoutKind ℕ) (luck : Luck ℕ) (now : ℕ) (request : Request) (body : Body) (c : Copy Content ℕ) → request.durability ≡ None → IsOf chain c
      → IsOfIn chain (body_step folds y luck now request body c)
  body_of y luck now request (bodies.Hello wanted) c none h = h
  body_of y luck now request bodies.Noop c none h = h
  body_of y luck now request bodies.Version c none h = h
  body_of y luck now request bodies.Quit c none h = h
  body_of y luck now request (bodies.SetManifest text) c none h =
      by_either (IsOfIn chain) (is_active c.role) _ _ (set_of y luck request text (text_step c.log.manifest text) c h) h
  body_of y luck now request bodies.GetManifest c none h = by_either (IsOfIn chain) (is_active c.role) _ _ h h
  body_of y luck now request (bodies.CollectionId path) c none h = by_either (IsOfIn chain) (is_active c.role) _ _ h h
  body_of y luck now request (bodies.ScopeId path) c none h = by_either (IsOfIn chain) (is_active c.role) _ _ h h
  body_of y luck now request (bodies.Get key) c none h = served_of y luck now request c none h
  body_of y luck now request (bodies.Store key mode flags expiry value) c none h = served_of y luck now request c none h
  body_of y luck now request (bodies.Delete key) c none h = served_of y luck now request c none h
  body_of y luck now request (bodies.Count key up delta initial expiry) c none h = served_of y luck now request c none h
  body_of y luck now request (bodies.Join key front value) c none h = served_of y luck now request c none h
  body_of y luck now request (bodies.Touch key expiry fetch) c none h = served_of y luck now request c none h
  body_of y luck now request (bodies.Look key spec) c none h = served_of y luck now request c none h
  body_of y luck now request (bodies.Edit key spec expiry flags) c none h = served_of y luck now request c none h
  body_of y luck now request (bodies.MultiLook key specs) c none h = served_of y luck now request c none h
  body_of y luck now request (bodies.MultiEdit key specs expiry flags) c none h = served_of y luck now request c none h

  pub requested_of : (y : LayoutKind ℕ) (luck : Luck ℕ) (request : Request) (now : ℕ) (c : Copy Content ℕ) → request.durability ≡ None → IsOf chain c
      → IsOfIn chain (requested folds y luck request now c)
  requested_of y luck request now c none h =
      by_either (IsOfIn chain) (lacks_memory luck.chance) _ _ h (body_of y luck (moment_of now) request request.body (seeing now c) none h)
