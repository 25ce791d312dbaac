-- A request comes to the same on what a copy's logs come to.
use Rattle.std.specs.Prelude.{◌≡◌, ℕ, ◌+◌, List, Option, Some, None, Result, Ok, Err, refl}
use Rattle.std.specs.Option.{option_map_or}
use Rattle.std.proofs.Common.{◌∙◌, ap}
use Rattle.doc_model.specs.declared.document.What.{What}
use Rattle.doc_model.specs.declared.status.Status.{Status}
use Rattle.kv_request.specs.declared.request.Request.{Request}
use Rattle.kv_request.specs.declared.request.Durability.{Durability}
use Rattle.kv_request.specs.declared.request.Body.{Body}
use Rattle.kv_request.specs.declared.request.Body.TheVariants as bodies
use Rattle.kv_request.specs.declared.reply.Reply.{Reply}
use Rattle.kv_request.specs.Tables.{document_key, first_failing}
use Rattle.manifest_rules.specs.Rules.{Step}
use Rattle.manifest_rules.specs.Applying.{text_step}
use Rattle.doc_step.specs.declared.Change.{Change}
use Rattle.vb_log.specs.declared.entry.Entry.{Entry}
use Rattle.vb_log.specs.declared.entry.Entry.TheVariants as entries
use Rattle.vb_log.specs.Content.{Content}
use Rattle.vb_log.specs.Logs.{LogKind, IsFaithful, folds}
use Rattle.replica_core.specs.Terms.{is_active}
use Rattle.copy_model.specs.declared.outcome.Ticket.{Ticket}
use Rattle.copy_model.specs.declared.outcome.Outcome.{Outcome}
use Rattle.copy_model.specs.Copies.{Fate, Waiting, Stood, Aborted, Left, Copy, LayoutKind, Luck, lacks_memory}
use Rattle.copy_model.specs.Entries.{content, settled}
use Rattle.copy_model.specs.Disk.{Put, Done, NoRoom, Failed, flushed_first}
use Rattle.copy_model.specs.Requests.{moment_of, seeing, drawn, polled_as, polled, fate_of, outcome_after, is_too_much, after_put, changing, made, ticket_next, preparing, prepared, what_of, plain_entry, changing_document, effecting, concluded, step_on, request_checks, served, installed, set_by, if_active, body_step, requested}
use Rattle.copy_model.specs.Folded.{folded}
use Rattle.copy_model.proofs.Folding.{if_folds, added_folds, settled_folds, folded_put, flushed_first_folds}

-- what an event leaves, with what logs come to, and what it tells
abbrev pub folded_out : {L Y A : Type 0} → LogKind L → Copy L Y × A → Copy Content Y × A
folded_out k r = (folded k r.0, r.1)

-- through a value that may be there
pub option_folds : {A B C : Type 0} (f : A → B) (g : C → A) (g' : C → B) (o : Option C) (x : A) (z : B) → ((c : C) → f (g c) ≡ g' c) → f x ≡ z → f (option_map_or g o x) ≡ option_map_or g' o z
option_folds f g g' None x z p q = q
option_folds f g g' (Some c) x z p q = p c

module _ {L : Type 0} (k : LogKind L) (h : IsFaithful k) where
  after_put_folds : {Y : Type 0} (f : Copy L Y → Copy L Y × Outcome) (g : Copy Content Y → Copy Content Y × Outcome) (request : Request) (c : Copy L Y) → ((d : Copy L Y) → folded_out k (f d) ≡ g (folded k d))
      → (p : Put (Copy L Y)) → folded_out k (after_put f request c p) ≡ after_put g request (folded k c) (folded_put k h p)
  after_put_folds f g request c e (Done d) = e d
  after_put_folds f g request c e (NoRoom needed free) = refl
  after_put_folds f g request c e (Failed d) = refl

  changing_folds : {Y : Type 0} (y : LayoutKind Y) (luck : Luck Y) (request : Request) (cas : ℕ) (e : Entry) (f : Copy L Y → Copy L Y × Outcome) (g : Copy Content Y → Copy Content Y × Outcome) (c : Copy L Y)
      → ((d : Copy L Y) → folded_out k (f d) ≡ g (folded k d)) → folded_out k (changing k y luck request cas e f c) ≡ changing folds y luck request cas e g (folded k c)
  changing_folds y luck request cas e f g c same =
      if_folds (folded_out k) (is_too_much (content k c) cas e) _ _ _ _ refl
      (after_put_folds f g request c same (flushed_first k y luck c) ∙ ap (after_put g request (folded k c)) (flushed_first_folds k h y luck c))

  made_folds : {Y : Type 0} (request : Request) (reply : Reply) (e : Entry) (c : Copy L Y) → folded_out k (made k request reply e c) ≡ made folds request reply e (folded k c)
  made_folds request reply e c = ap (λ (d : Copy Content _). (d, (made k request reply e c).1)) (added_folds k h e c)

  polled_as_folds : {Y : Type 0} (ticket : Ticket) (c : Copy L Y) (fate : Option Fate) → folded_out k (polled_as ticket c fate) ≡ polled_as ticket (folded k c) fate
  polled_as_folds ticket c None = refl
  polled_as_folds ticket c (Some Waiting) = refl
  polled_as_folds ticket c (Some (Stood position)) = refl
  polled_as_folds ticket c (Some Aborted) = refl
  polled_as_folds ticket c (Some Left) = refl

  pub polled_folds : {Y : Type 0} (ticket : Ticket) (c : Copy L Y) → folded_out k (polled ticket c) ≡ polled ticket (folded k c)
  polled_folds ticket c = polled_as_folds ticket c (fate_of ticket c)

  preparing_folds : {Y : Type 0} (until : ℕ) (e : Entry) (c : Copy L Y) → folded k (preparing k until e c) ≡ preparing folds until e (folded k c)
  preparing_folds until e c = ap (λ (d : Copy Content _). record d { tickets = (preparing k until e c).tickets; deadlines = (preparing k until e c).deadlines }) (added_folds k h e c)

  prepared_folds : {Y : Type 0} (request : Request) (until : ℕ) (reply : Reply) (e : Entry) (c : Copy L Y) → folded_out k (prepared k request until reply e c) ≡ prepared folds request until reply e (folded k c)
  prepared_folds request until reply e c =
      let t = ticket_next k request reply c in
      ap outcome_after (polled_folds t (settled k (preparing k until e c))
      ∙ ap (polled t) (settled_folds k h (preparing k until e c) ∙ ap (settled folds) (preparing_folds until e c)))

  changing_document_folds : {Y : Type 0} (y : LayoutKind Y) (luck : Luck Y) (now : ℕ) (request : Request) (cas : ℕ) (reply : Reply) (what : What) (d : Option Durability) (c : Copy L Y)
      → folded_out k (changing_document k y luck now request cas reply what d c) ≡ changing_document folds y luck now request cas reply what d (folded k c)
  changing_document_folds y luck now request cas reply what None c =
      let e = plain_entry (document_key request.body) what in
      changing_folds y luck request cas e (made k request reply e) (made folds request reply e) c (made_folds request reply e)
  changing_document_folds y luck now request cas reply what (Some d) c =
      let e = entries.Prepare (document_key request.body) what d.level in
      changing_folds y luck request cas e (prepared k request (now + d.timeout) reply e) (prepared folds request (now + d.timeout) reply e) c (prepared_folds request (now + d.timeout) reply e)

  effecting_folds : {Y : Type 0} (y : LayoutKind Y) (luck : Luck Y) (now : ℕ) (request : Request) (cas : ℕ) (reply : Reply) (what : Option What) (c : Copy L Y)
      → folded_out k (effecting k y luck now request cas reply what c) ≡ effecting folds y luck now request cas reply what (folded k c)
  effecting_folds y luck now request cas reply None c = refl
  effecting_folds y luck now request cas reply (Some what) c = changing_document_folds y luck now request cas reply what request.durability c

  concluded_folds : {Y : Type 0} (y : LayoutKind Y) (luck : Luck Y) (now : ℕ) (request : Request) (cas : ℕ) (r : Result Change Status) (c : Copy L Y)
      → folded_out k (concluded k y luck now request cas r c) ≡ concluded folds y luck now request cas r (folded k c)
  concluded_folds y luck now request cas (Err why) c = refl
  concluded_folds y luck now request cas (Ok change) c = effecting_folds y luck now request cas change.reply (what_of change.effect cas) c

  served_folds : {Y : Type 0} (y : LayoutKind Y) (luck : Luck Y) (now : ℕ) (request : Request) (c : Copy L Y) → folded_out k (served k y luck now request c) ≡ served folds y luck now request (folded k c)
  served_folds y luck now request c =
      option_folds (folded_out k) _ _ (first_failing (request_checks k luck request (document_key request.body) c)) _ _ (λ why. refl)
      (concluded_folds y luck now request (drawn (content k c) c.seen) (step_on (content k c) c.seen now request) c)

  installed_folds : {Y : Type 0} (request : Request) (e : Entry) (c : Copy L Y) → folded_out k (installed k request e c) ≡ installed folds request e (folded k c)
  installed_folds request e c = ap (λ (d : Copy Content _). (d, (installed k request e c).1)) (added_folds k h e c)

  set_by_folds : {Y : Type 0} (y : LayoutKind Y) (luck : Luck Y) (request : Request) (text : List ℕ) (r : Result Step Status) (c : Copy L Y) → folded_out k (set_by k y luck request text r c) ≡ set_by folds y luck request text r (folded k c)
  set_by_folds y luck request text (Err why) c = refl
  set_by_folds y luck request text (Ok step) c =
      if_folds (folded_out k) step.changed _ _ _ _
      (changing_folds y luck request 0 (entries.Manifest text) (installed k request (entries.Manifest text)) (installed folds request (entries.Manifest text)) c (installed_folds request (entries.Manifest text))) refl

  if_active_folds : {Y : Type 0} (request : Request) (c : Copy L Y) (r : Copy L Y × Outcome) (q : Copy Content Y × Outcome) → folded_out k r ≡ q → folded_out k (if_active request c r) ≡ if_active request (folded k c) q
  if_active_folds request c r q e = if_folds (folded_out k) (is_active c.role) _ _ _ _ e refl

  body_step_folds : {Y : Type 0} (y : LayoutKind Y) (luck : Luck Y) (now : ℕ) (request : Request) (body : Body) (c : Copy L Y) → folded_out k (body_step k y luck now request body c) ≡ body_step folds y luck now request body (folded k c)
  body_step_folds y luck now request (bodies.SetManifest text) c = if_active_folds request c _ _ (set_by_folds y luck request text (text_step (content k c).manifest text) c)
  body_step_folds y luck now request bodies.GetManifest c = if_active_folds request c _ _ refl
  body_step_folds y luck now request (bodies.CollectionId path) c = if_active_folds request c _ _ refl
  body_step_folds y luck now request (bodies.ScopeId path) c = if_active_folds request c _ _ refl
  body_step_folds y luck now request (bodies.Hello wanted) c = refl
  body_step_folds y luck now request bodies.Noop c = refl
  body_step_folds y luck now request bodies.Version c = refl
  body_step_folds y luck now request bodies.Quit c = refl
  body_step_folds y luck now request (bodies.Get key) c = served_folds y luck now request c
  body_step_folds y luck now request (bodies.Store key mode flags expiry value) c = served_folds y luck now request c
  body_step_folds y luck now request (bodies.Delete key) c = served_folds y luck now request c
  body_step_folds y luck now request (bodies.Count key up delta initial expiry) c = served_folds y luck now request c
  body_step_folds y luck now request (bodies.Join key front value) c = served_folds y luck now request c
  body_step_folds y luck now request (bodies.Touch key expiry fetch) c = served_folds y luck now request c
  body_step_folds y luck now request (bodies.Look key spec) c = served_folds y luck now request c
  body_step_folds y luck now request (bodies.Edit key spec expiry flags) c = served_folds y luck now request c
  body_step_folds y luck now request (bodies.MultiLook key specs) c = served_folds y luck now request c
  body_step_folds y luck now request (bodies.MultiEdit key specs expiry flags) c = served_folds y luck now request c

  pub requested_folds : {Y : Type 0} (y : LayoutKind Y) (luck : Luck Y) (request : Request) (now : ℕ) (c : Copy L Y) → folded_out k (requested k y luck request now c) ≡ requested folds y luck request now (folded k c)
  requested_folds y luck request now c = if_folds (folded_out k) (lacks_memory luck.chance) _ _ _ _ refl (body_step_folds y luck (moment_of now) request request.body (seeing now c))
