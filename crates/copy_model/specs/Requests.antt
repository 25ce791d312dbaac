-- What a copy does at a request: the checks in their order, what the document or the manifest comes
-- to, and the change that is made.
use Rattle.std.specs.Prelude.{ℕ, ◌+◌, ◌*◌, ◌^◌, max, min, nat_eq, nat_le, nat_lt, is_none, Bool, true, false, ◌&&◌, ◌||◌, not, find, filter, List, [], ◌∷◌, ◌++◌, Option, Some, None, option_map, Result, Ok, Err, if◌then◌else◌}
use Rattle.std.specs.Option.{option_map_or}
use Rattle.std.specs.Int.{w32, w64, to_be_bytes}
use Rattle.std.specs.FinMap as map
use Rattle.doc_model.specs.declared.key.DocKey.{DocKey}
use Rattle.doc_model.specs.declared.document.What.{What}
use Rattle.doc_model.specs.declared.document.What.TheVariants as whats
use Rattle.doc_model.specs.declared.status.Status.{Status}
use Rattle.doc_model.specs.declared.status.TheConstants.Status as status
use Rattle.kv_request.specs.declared.request.Request.{Request}
use Rattle.kv_request.specs.declared.request.Durability.{Durability}
use Rattle.kv_request.specs.declared.request.Body.{Body}
use Rattle.kv_request.specs.declared.request.Body.TheVariants as bodies
use Rattle.kv_request.specs.declared.reply.Reply.{Reply}
use Rattle.kv_request.specs.Tables.{refused, document_key, first_failing}
use Rattle.manifest_rules.specs.Catalog.{max_ttl_of}
use Rattle.manifest_rules.specs.Rules.{Step}
use Rattle.manifest_rules.specs.Applying.{text_step}
use Rattle.manifest_rules.specs.Text.{text_of}
use Rattle.manifest_rules.specs.Paths.{collection_by, scope_by}
use Rattle.doc_step.specs.declared.Effect.{Effect}
use Rattle.doc_step.specs.declared.Effect.TheVariants as effects
use Rattle.doc_step.specs.declared.Change.{Change}
use Rattle.doc_step.specs.Expiry.{Setting}
use Rattle.doc_step.specs.Step.{document_step, tells_token}
use Rattle.vb_log.specs.declared.entry.Entry.{Entry}
use Rattle.vb_log.specs.declared.entry.Entry.TheVariants as entries
use Rattle.vb_log.specs.declared.entry.Pending.{Pending}
use Rattle.vb_log.specs.declared.limits.TheConstants.{CONTENT_LIMIT}
use Rattle.vb_log.specs.Content.{Content, doc_in, has_collection, prepare_of}
use Rattle.vb_log.specs.Sizes.{size_after}
use Rattle.vb_log.specs.Logs.{LogKind}
use Rattle.durability_core.specs.Ready.{can_commit}
use Rattle.replica_core.specs.Terms.{is_active}
use Rattle.copy_model.specs.declared.limits.TheConstants.{LAST_MOMENT, REQUEST_LIMIT, CAS_LIMIT}
use Rattle.copy_model.specs.declared.outcome.Ticket.{Ticket}
use Rattle.copy_model.specs.declared.outcome.Outcome.{Outcome}
use Rattle.copy_model.specs.declared.outcome.Outcome.TheVariants as outcomes
use Rattle.copy_model.specs.declared.outcome.Polled.{Polled}
use Rattle.copy_model.specs.declared.outcome.Polled.TheVariants as polls
use Rattle.copy_model.specs.Copies.{Fate, Waiting, Stood, Aborted, Left, OpenTicket, Copy, LayoutKind, Luck, lacks_memory, fails_read}
use Rattle.copy_model.specs.Entries.{content, log_length, added, settled}
use Rattle.copy_model.specs.Disk.{Put, Done, NoRoom, Failed, flushed_first}

-- ---- moments and CAS

-- a moment; one behind the last is taken as the last
abbrev pub moment_of : ℕ → ℕ
moment_of now = min now LAST_MOMENT

-- a copy that has seen a moment
abbrev pub seeing : {L Y : Type 0} → ℕ → Copy L Y → Copy L Y
seeing now c = record c { seen = max c.seen (moment_of now) }

-- The CAS that a change draws: above every one before, and at least the greatest moment seen, in
-- milliseconds, times 2^20.
abbrev pub drawn : Content → ℕ → ℕ
drawn content seen = max (content.greatest_cas + 1) (seen * 2 ^ 20)

-- what surrounds a request on a document of a collection, by the greatest moment seen and its own
abbrev pub setting_at : Content → ℕ → ℕ → ℕ → Setting
setting_at content seen now collection = record {
  max_ttl = max_ttl_of content.manifest.scopes collection;
  now = now;
  draw = drawn content seen;
}

-- ---- replies

-- a refusal
abbrev pub refusal : Request → Status → Outcome
refusal request why = outcomes.Reply (refused request.opcode request.opaque why)

-- the reply to a change tells term and position, but for that to a Touch
abbrev pub with_token : Body → ℕ → ℕ → Reply → Reply
with_token body term position reply =
    if tells_token body then record reply { token = Some (term, position) } else reply

-- the reply to a prepared change whose Commit stands at a position
abbrev pub stood_at : ℕ → Reply → Reply
stood_at position reply =
    record reply { token = option_map (λ (token : ℕ × ℕ). (token.0, position)) reply.token }

-- the reply to a prepared change of which it isn't known whether it stands
abbrev pub ambiguous : Reply → Reply
ambiguous reply = refused reply.opcode reply.opaque status.SYNC_WRITE_AMBIGUOUS

-- ---- tickets

-- whether an open ticket is this one
abbrev pub is_ticket : Ticket → OpenTicket → Bool
is_ticket ticket t = nat_eq t.prepare ticket.prepare && nat_eq t.term ticket.term

-- the fate of a ticket, where it is open
abbrev pub fate_of : {L Y : Type 0} → Ticket → Copy L Y → Option Fate
fate_of ticket c = option_map (λ (t : OpenTicket). t.fate) (find (is_ticket ticket) c.tickets)

-- a copy in which a ticket isn't open
abbrev pub forgetting : {L Y : Type 0} → Ticket → Copy L Y → Copy L Y
forgetting ticket c = record c { tickets = filter (λ t. not (is_ticket ticket t)) c.tickets }

-- what a ticket comes to by its fate: one that is answered isn't open any more
abbrev pub polled_as :
    {L Y : Type 0} → Ticket → Copy L Y → Option Fate → Copy L Y × Polled
polled_as ticket c None = (c, polls.Done (ambiguous ticket.reply))
polled_as ticket c (Some Waiting) = (c, polls.Pending ticket)
polled_as ticket c (Some (Stood position)) =
    (forgetting ticket c, polls.Done (stood_at position ticket.reply))
polled_as ticket c (Some Aborted) = (forgetting ticket c, polls.Done (ambiguous ticket.reply))
polled_as ticket c (Some Left) = (forgetting ticket c, polls.Done (ambiguous ticket.reply))

-- a ticket is polled
abbrev pub polled : {L Y : Type 0} → Ticket → Copy L Y → Copy L Y × Polled
polled ticket c = polled_as ticket c (fate_of ticket c)

-- a request's outcome, by what its ticket comes to
abbrev pub outcome_of : Polled → Outcome
outcome_of (polls.Done reply) = outcomes.Reply reply
outcome_of (polls.Pending ticket) = outcomes.Parked ticket

-- ---- a change is made

-- Whether a change is too much: the log is too long, the CAS drawn too large, or the content would
-- be.
abbrev pub is_too_much : Content → ℕ → Entry → Bool
is_too_much content cas e =
    nat_le REQUEST_LIMIT content.length
    || nat_le CAS_LIMIT cas
    || nat_lt CONTENT_LIMIT (size_after content e)

-- what a request comes to, by what the flush before its change comes to
abbrev pub after_put :
    {L Y : Type 0} → (Copy L Y → Copy L Y × Outcome) → Request → Copy L Y → Put (Copy L Y)
    → Copy L Y × Outcome
after_put change request c (Done d) = change d
after_put change request c (NoRoom needed free) = (c, refusal request status.EBUSY)
after_put change request c (Failed d) = (d, refusal request status.ETMPFAIL)

-- a change by an entry that isn't too much, with a flush first where it must be
abbrev pub changing :
    {L Y : Type 0} → LogKind L → LayoutKind Y → Luck Y → Request → ℕ → Entry
    → (Copy L Y → Copy L Y × Outcome) → Copy L Y → Copy L Y × Outcome
changing k y luck request cas e change c =
    if is_too_much (content k c) cas e then (c, refusal request status.E2BIG)
    else after_put change request c (flushed_first k y luck c)

-- the reply that tells the next entry's position
abbrev pub telling_next : {L Y : Type 0} → LogKind L → Request → Reply → Copy L Y → Reply
telling_next k request reply c =
    with_token request.body c.accepted (log_length k c + 1) reply

-- an entry is added that needs no Commit
abbrev pub made :
    {L Y : Type 0} → LogKind L → Request → Reply → Entry → Copy L Y → Copy L Y × Outcome
made k request reply e c = (added k e c, outcomes.Reply (telling_next k request reply c))

-- the ticket of a prepare that is added next
abbrev pub ticket_next : {L Y : Type 0} → LogKind L → Request → Reply → Copy L Y → Ticket
ticket_next k request reply c = record {
  prepare = log_length k c + 1;
  term = c.accepted;
  reply = telling_next k request reply c;
}

-- a prepare is added that waits until a moment
abbrev pub preparing : {L Y : Type 0} → LogKind L → ℕ → Entry → Copy L Y → Copy L Y
preparing k until e c = record (added k e c) {
  tickets =
      c.tickets ++ record { prepare = log_length k c + 1; term = c.accepted; fate = Waiting } ∷ [];
  deadlines = c.deadlines ++ record { prepare = log_length k c + 1; moment = until } ∷ [];
}

-- the outcome of the request for which a ticket was polled
abbrev pub outcome_after : {L Y : Type 0} → Copy L Y × Polled → Copy L Y × Outcome
outcome_after r = (r.0, outcome_of r.1)

-- a prepare is added, what is ready is committed, and its ticket is polled
abbrev pub prepared :
    {L Y : Type 0} → LogKind L → Request → ℕ → Reply → Entry → Copy L Y → Copy L Y × Outcome
prepared k request until reply e c =
    outcome_after
    (polled (ticket_next k request reply c) (settled k (preparing k until e c)))

-- ---- documents

-- the change that an effect makes, where it makes one
abbrev pub what_of : Effect → ℕ → Option What
what_of effects.Nothing cas = None
what_of (effects.Put doc) cas = Some (whats.Put doc)
what_of effects.Remove cas = Some (whats.Remove cas)

-- the entry of a change without a level
abbrev pub plain_entry : DocKey → What → Entry
plain_entry key (whats.Put doc) = entries.Mutation key doc
plain_entry key (whats.Remove cas) = entries.Deletion key cas

-- a change without a level is made at once
abbrev pub changing_at_once :
    {L Y : Type 0} → LogKind L → LayoutKind Y → Luck Y → Request → ℕ → Reply → Entry
    → Copy L Y → Copy L Y × Outcome
changing_at_once k y luck request cas reply e c =
    changing k y luck request cas e (made k request reply e) c

-- a change with a level is prepared, and waits for its timeout
abbrev pub changing_durably :
    {L Y : Type 0} → LogKind L → LayoutKind Y → Luck Y → Request → ℕ → ℕ → Reply → Entry
    → Copy L Y → Copy L Y × Outcome
changing_durably k y luck request cas until reply e c =
    changing k y luck request cas e (prepared k request until reply e) c

-- a change of the request's document, by the level that is asked for
abbrev pub changing_document :
    {L Y : Type 0} → LogKind L → LayoutKind Y → Luck Y → ℕ → Request → ℕ → Reply → What
    → Option Durability → Copy L Y → Copy L Y × Outcome
changing_document k y luck now request cas reply what None c =
    changing_at_once k y luck request cas reply
    (plain_entry (document_key request.body) what) c
changing_document k y luck now request cas reply what (Some d) c =
    changing_durably k y luck request cas (now + d.timeout) reply
    (entries.Prepare (document_key request.body) what d.level) c

-- what a request comes to that makes a change or none
abbrev pub effecting :
    {L Y : Type 0} → LogKind L → LayoutKind Y → Luck Y → ℕ → Request → ℕ → Reply → Option What
    → Copy L Y → Copy L Y × Outcome
effecting k y luck now request cas reply None c = (c, outcomes.Reply reply)
effecting k y luck now request cas reply (Some what) c =
    changing_document k y luck now request cas reply what request.durability c

-- what a request comes to, by what the document's step comes to
abbrev pub concluded :
    {L Y : Type 0} → LogKind L → LayoutKind Y → Luck Y → ℕ → Request → ℕ
    → Result Change Status → Copy L Y → Copy L Y × Outcome
concluded k y luck now request cas (Err why) c = (c, refusal request why)
concluded k y luck now request cas (Ok change) c =
    effecting k y luck now request cas change.reply (what_of change.effect cas) c

-- the step on the document of the request's key
abbrev pub step_on : Content → ℕ → ℕ → Request → Result Change Status
step_on content seen now request =
    let key = document_key request.body in
    document_step (setting_at content seen now key.collection) request
    (doc_in (map.get content.items key))

-- whether a request may change a document
abbrev pub is_write : Body → Bool
is_write (bodies.Hello wanted) = false
is_write bodies.Noop = false
is_write bodies.Version = false
is_write bodies.Quit = false
is_write (bodies.SetManifest text) = false
is_write bodies.GetManifest = false
is_write (bodies.CollectionId path) = false
is_write (bodies.ScopeId path) = false
is_write (bodies.Get key) = false
is_write (bodies.Store key mode flags expiry value) = true
is_write (bodies.Delete key) = true
is_write (bodies.Count key up delta initial expiry) = true
is_write (bodies.Join key front value) = true
is_write (bodies.Touch key expiry fetch) = true
is_write (bodies.Look key spec) = false
is_write (bodies.Edit key spec expiry flags) = true
is_write (bodies.MultiLook key specs) = false
is_write (bodies.MultiEdit key specs expiry flags) = true

-- whether a prepare is inherited from an earlier term
abbrev pub is_inherited : {L Y : Type 0} → Copy L Y → Option Pending → Bool
is_inherited c prepare =
    option_map_or (λ (p : Pending). nat_le p.position c.inherited) prepare false

-- The checks of a request on a document in their order, each with the status of one that fails it:
-- the copy is active and the vbucket is its own; the collection is there; no inherited prepare of
-- the key waits; a durable write can be committed; no prepare waits that a write would meet; and
-- the document can be read.
abbrev pub request_checks :
    {L Y : Type 0} → LogKind L → Luck Y → Request → DocKey → Copy L Y → List (Bool × Status)
request_checks k luck request key c =
    let waiting = prepare_of (content k c).prepares key in
    (is_active c.role && nat_eq request.vbucket c.number, status.NOT_MY_VBUCKET)
    ∷ (has_collection (content k c).manifest key.collection, status.UNKNOWN_COLLECTION)
    ∷ (not (is_inherited c waiting), status.SYNC_WRITE_RE_COMMIT_IN_PROGRESS)
    ∷ (is_none request.durability || can_commit c.chain, status.DURABILITY_IMPOSSIBLE)
    ∷ (not (is_write request.body) || is_none waiting, status.SYNC_WRITE_IN_PROGRESS)
    ∷ (not (fails_read luck.chance), status.ETMPFAIL)
    ∷ []

-- what a request on a document comes to
abbrev pub served :
    {L Y : Type 0} → LogKind L → LayoutKind Y → Luck Y → ℕ → Request → Copy L Y
    → Copy L Y × Outcome
served k y luck now request c =
    option_map_or (λ why. (c, refusal request why))
    (first_failing (request_checks k luck request (document_key request.body) c))
    (concluded k y luck now request (drawn (content k c) c.seen)
    (step_on (content k c) c.seen now request) c)

-- ---- the manifest

-- a reply of success with these extras and this value
abbrev pub success : Request → List ℕ → List ℕ → Reply
success request extras value =
    record (refused request.opcode request.opaque status.SUCCESS)
    { extras = extras; value = value }

-- a manifest is installed by its entry
abbrev pub installed :
    {L Y : Type 0} → LogKind L → Request → Entry → Copy L Y → Copy L Y × Outcome
installed k request e c = (added k e c, outcomes.Reply (success request [] []))

-- what setting a manifest comes to, by its step: one that changes nothing adds nothing
abbrev pub set_by :
    {L Y : Type 0} → LogKind L → LayoutKind Y → Luck Y → Request → List ℕ
    → Result Step Status → Copy L Y → Copy L Y × Outcome
set_by k y luck request text (Err why) c = (c, refusal request why)
set_by k y luck request text (Ok step) c =
    if step.changed
    then changing k y luck request 0 (entries.Manifest text)
    (installed k request (entries.Manifest text)) c
    else (c, outcomes.Reply (success request [] []))

-- the reply to a request for an id: the manifest's uid and the id
abbrev pub id_answer : Content → Request → Result ℕ Status → Reply
id_answer content request (Ok id) =
    success request (to_be_bytes w64 content.manifest.uid ++ to_be_bytes w32 id) []
id_answer content request (Err why) = refused request.opcode request.opaque why

-- what an active copy answers, and no other
abbrev pub if_active :
    {L Y : Type 0} → Request → Copy L Y → Copy L Y × Outcome → Copy L Y × Outcome
if_active request c answer =
    if is_active c.role then answer else (c, refusal request status.NOT_MY_VBUCKET)

-- a request that changes nothing is answered
abbrev pub answering_with :
    {L Y : Type 0} → Request → Reply → Copy L Y → Copy L Y × Outcome
answering_with request reply c = if_active request c (c, outcomes.Reply reply)

-- ---- the request

-- What a request with this body comes to. What a session answers by itself never gets here.
abbrev pub body_step :
    {L Y : Type 0} → LogKind L → LayoutKind Y → Luck Y → ℕ → Request → Body → Copy L Y
    → Copy L Y × Outcome
body_step k y luck now request (bodies.Hello wanted) c =
    (c, refusal request status.NOT_SUPPORTED)
body_step k y luck now request bodies.Noop c = (c, refusal request status.NOT_SUPPORTED)
body_step k y luck now request bodies.Version c = (c, refusal request status.NOT_SUPPORTED)
body_step k y luck now request bodies.Quit c = (c, refusal request status.NOT_SUPPORTED)
body_step k y luck now request (bodies.SetManifest text) c =
    if_active request c
    (set_by k y luck request text (text_step (content k c).manifest text) c)
body_step k y luck now request bodies.GetManifest c =
    answering_with request (success request [] (text_of (content k c).manifest)) c
body_step k y luck now request (bodies.CollectionId path) c =
    answering_with request
    (id_answer (content k c) request (collection_by (content k c).manifest.scopes path)) c
body_step k y luck now request (bodies.ScopeId path) c =
    answering_with request
    (id_answer (content k c) request (scope_by (content k c).manifest.scopes path)) c
body_step k y luck now request (bodies.Get key) c = served k y luck now request c
body_step k y luck now request (bodies.Store key mode flags expiry value) c =
    served k y luck now request c
body_step k y luck now request (bodies.Delete key) c = served k y luck now request c
body_step k y luck now request (bodies.Count key up delta initial expiry) c =
    served k y luck now request c
body_step k y luck now request (bodies.Join key front value) c = served k y luck now request c
body_step k y luck now request (bodies.Touch key expiry fetch) c = served k y luck now request c
body_step k y luck now request (bodies.Look key spec) c = served k y luck now request c
body_step k y luck now request (bodies.Edit key spec expiry flags) c =
    served k y luck now request c
body_step k y luck now request (bodies.MultiLook key specs) c = served k y luck now request c
body_step k y luck now request (bodies.MultiEdit key specs expiry flags) c =
    served k y luck now request c

-- What a request at a moment comes to. Where memory is wanting it is refused, and the copy is as it
-- was.
abbrev pub requested :
    {L Y : Type 0} → LogKind L → LayoutKind Y → Luck Y → Request → ℕ → Copy L Y
    → Copy L Y × Outcome
requested k y luck request now c =
    if lacks_memory luck.chance then (c, refusal request status.ENOMEM)
    else body_step k y luck (moment_of now) request request.body (seeing now c)
