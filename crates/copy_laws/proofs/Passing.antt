-- A request with the CAS of the document that is there is one that takes any document.
use Rattle.std.specs.Prelude.{◌≡◌, ℕ, nat_eq, is_some, IsSome, Bool, true, false, ◌&&◌, not, List, [], Option, Some, None, Result, Ok, Err, refl, if◌then◌else◌}
use Rattle.std.specs.Option.{option_map_or}
use Rattle.std.proofs.Common.{sym, ◌∙◌, ap}
use Rattle.std.proofs.lemmas.Cmp.{nat_eq_equiv}
use Rattle.doc_model.specs.declared.key.DocKey.{DocKey}
use Rattle.doc_model.specs.declared.document.Doc.{Doc}
use Rattle.doc_model.specs.declared.status.Status.{Status}
use Rattle.doc_model.specs.declared.status.TheConstants.Status as status
use Rattle.kv_request.specs.declared.request.Request.{Request}
use Rattle.kv_request.specs.declared.request.Body.{Body}
use Rattle.kv_request.specs.declared.request.Body.TheVariants as bodies
use Rattle.kv_request.specs.declared.reply.Reply.{Reply}
use Rattle.kv_request.specs.Tables.{key_named, document_key, first_failing}
use Rattle.doc_step.specs.declared.Change.{Change}
use Rattle.doc_step.specs.Expiry.{Setting}
use Rattle.doc_step.specs.Parts.{found_in, look_answered, look_step, multi_look_step, doc_to_edit, edit_step, Folded, all_made, refused_at, edits_from, edits_answered, multi_edit_step}
use Rattle.subdoc_step.specs.Answers.{◌>>=◌}
use Rattle.kv_request.specs.declared.request.Spec.{Spec}
use Rattle.kv_request.specs.declared.request.Mode.{Mode}
use Rattle.kv_request.specs.declared.request.Mode.TheVariants as modes
use Rattle.doc_step.specs.Step.{cas_refusal, get_step, stored_doc, store_step, delete_step, count_step, join_step, touch_step, operation}
use Rattle.vb_log.specs.Content.{Content}
use Rattle.vb_log.specs.Logs.{folds}
use Rattle.replica_core.specs.Terms.{is_dead}
use Rattle.copy_model.specs.declared.outcome.Outcome.{Outcome}
use Rattle.copy_model.specs.declared.outcome.Outcome.TheVariants as outcomes
use Rattle.copy_model.specs.Copies.{Copy, LayoutKind, Luck, lacks_memory}
use Rattle.copy_model.specs.Events.{Requests, Answered, Told, step}
use Rattle.copy_model.specs.Laying.{May, failing}
use Rattle.copy_model.specs.Requests.{moment_of, seeing, drawn, setting_at, refusal, concluded, step_on, request_checks, served, body_step, requested}
use Rattle.copy_model.proofs.Moves.{by_test}
use Rattle.copy_laws.specs.Histories.{Asked, Takes}
use Rattle.copy_laws.specs.Documents.{document_at}
use Rattle.copy_laws.specs.Guards.{without_cas}
use Rattle.copy_laws.proofs.Historic.{served_body}
use Rattle.copy_laws.proofs.Remembered.{any_cas}

-- ---- no operation looks at the CAS of its request

get_as : (request : Request) (key : DocKey) (doc : Option Doc) → get_step (without_cas request) key doc ≡ get_step request key doc
get_as request key None = refl
get_as request key (Some doc) = refl

store_as : (s : Setting) (request : Request) (mode : Mode) (doc : Option Doc) (stored : Doc)
    → store_step s (without_cas request) mode doc stored ≡ store_step s request mode doc stored
store_as s request modes.Set doc stored = refl
store_as s request modes.Add None stored = refl
store_as s request modes.Add (Some doc) stored = refl
store_as s request modes.Replace None stored = refl
store_as s request modes.Replace (Some doc) stored = refl

delete_as : (s : Setting) (request : Request) (doc : Option Doc) → delete_step s (without_cas request) doc ≡ delete_step s request doc
delete_as s request None = refl
delete_as s request (Some doc) = refl

count_as : (s : Setting) (request : Request) (up : Bool) (delta initial expiry : ℕ) (doc : Option Doc)
    → count_step s (without_cas request) up delta initial expiry doc ≡ count_step s request up delta initial expiry doc
count_as s request up delta initial expiry None = refl
count_as s request up delta initial expiry (Some doc) = refl

join_as : (s : Setting) (request : Request) (front : Bool) (value : List ℕ) (doc : Option Doc)
    → join_step s (without_cas request) front value doc ≡ join_step s request front value doc
join_as s request front value None = refl
join_as s request front value (Some doc) = refl

touched_as : (s : Setting) (request : Request) (key : DocKey) (expiry : ℕ) (fetch : Bool) (doc : Doc)
    → touch_step s (without_cas request) key expiry fetch (Some doc) ≡ touch_step s request key expiry fetch (Some doc)
touched_as s request key expiry true doc = refl
touched_as s request key expiry false doc = refl

touch_as : (s : Setting) (request : Request) (key : DocKey) (expiry : ℕ) (fetch : Bool) (doc : Option Doc)
    → touch_step s (without_cas request) key expiry fetch doc ≡ touch_step s request key expiry fetch doc
touch_as s request key expiry fetch None = refl
touch_as s request key expiry fetch (Some doc) = touched_as s request key expiry fetch doc

looked_as : (request : Request) (doc : Doc) (found : Result (List ℕ) Status) → look_answered (without_cas request) doc found ≡ look_answered request doc found
looked_as request doc (Ok piece) = refl
looked_as request doc (Err why) = refl

look_as : (request : Request) (spec : Spec) (doc : Option Doc) → look_step (without_cas request) spec doc ≡ look_step request spec doc
look_as request spec None = refl
look_as request spec (Some doc) = looked_as request doc (found_in doc spec)

looks_as : (request : Request) (specs : List Spec) (doc : Option Doc) → multi_look_step (without_cas request) specs doc ≡ multi_look_step request specs doc
looks_as request specs None = refl
looks_as request specs (Some doc) = refl

bound_as : {A B : Type 0} (r : Result A Status) (next other : A → Result B Status) → ((x : A) → next x ≡ other x) → r >>= next ≡ r >>= other
bound_as (Ok x) next other h = h x
bound_as (Err why) next other h = refl

edit_as : (s : Setting) (request : Request) (spec : Spec) (expiry : Option ℕ) (flags : ℕ) (doc : Option Doc)
    → edit_step s (without_cas request) spec expiry flags doc ≡ edit_step s request spec expiry flags doc
edit_as s request spec expiry flags doc = refl

answered_as : (s : Setting) (request : Request) (folded : Folded) → edits_answered s (without_cas request) folded ≡ edits_answered s request folded
answered_as s request (all_made doc results) = refl
answered_as s request (refused_at place why) = refl

edits_as : (s : Setting) (request : Request) (specs : List Spec) (expiry : Option ℕ) (flags : ℕ) (doc : Option Doc)
    → multi_edit_step s (without_cas request) specs expiry flags doc ≡ multi_edit_step s request specs expiry flags doc
edits_as s request specs expiry flags doc =
    bound_as (doc_to_edit s expiry flags specs doc) _ _ (λ begun. answered_as s request (edits_from flags 0 begun [] specs))

operation_as : (s : Setting) (request : Request) (body : Body) (doc : Option Doc)
    → operation s (without_cas request) body doc ≡ operation s request body doc
operation_as s request (bodies.Get key) doc = get_as request key doc
operation_as s request (bodies.Store key mode flags expiry value) doc = store_as s request mode doc (stored_doc s flags expiry value doc)
operation_as s request (bodies.Delete key) doc = delete_as s request doc
operation_as s request (bodies.Count key up delta initial expiry) doc = count_as s request up delta initial expiry doc
operation_as s request (bodies.Join key front value) doc = join_as s request front value doc
operation_as s request (bodies.Touch key expiry fetch) doc = touch_as s request key expiry fetch doc
operation_as s request (bodies.Look key spec) doc = look_as request spec doc
operation_as s request (bodies.Edit key spec expiry flags) doc = edit_as s request spec expiry flags doc
operation_as s request (bodies.MultiLook key specs) doc = looks_as request specs doc
operation_as s request (bodies.MultiEdit key specs expiry flags) doc = edits_as s request specs expiry flags doc
operation_as s request body doc = refl

-- ---- a request with the CAS of the document that is there

-- the CAS of the document that is there is refused by none
passes : (cas : ℕ) (doc : Doc) → cas ≡ doc.cas → cas_refusal cas (Some doc) ≡ None
passes cas doc same =
    by_test (λ (o : Option Status). o ≡ None) (nat_eq cas 0) _ _ (λ _. refl)
    (λ _. by_test (λ (o : Option Status). o ≡ None) (nat_eq doc.cas cas) _ _ (λ _. refl)
    (λ f. absurd (let g : true ≡ false = sym (ap (nat_eq doc.cas) same ∙ nat_eq_equiv.refl doc.cas) ∙ f in cc)))

module _ (request : Request) (doc : Doc) (now : ℕ) (same : request.cas ≡ doc.cas) where
  abbrev key : DocKey
  key = document_key request.body

  abbrev Unless : Option Status → Result Change Status → Result Change Status
  Unless o r = option_map_or {U = Result Change Status} (λ why. Err why) o r

  step_as : (l : Content) (seen : ℕ) → document_at l key now ≡ Some doc
      → step_on l seen (moment_of now) (without_cas request) ≡ step_on l seen (moment_of now) request
  step_as l seen e =
      let at = document_at l key now in
      let s = setting_at l seen (moment_of now) key.collection in
      ap (λ o. Unless o (operation s (without_cas request) request.body at)) (any_cas 0 at refl)
      ∙ operation_as s request request.body at
      ∙ sym (ap (λ o. Unless o (operation s request request.body at)) (ap (cas_refusal request.cas) e ∙ passes request.cas doc same))

  module _ {Y : Type 0} (y : LayoutKind Y) (a : Copy Content Y) (here : document_at a.log key now ≡ Some doc)
      (named : IsSome (key_named request.body)) where
    abbrev c : Copy Content Y
    c = seeing now a

    abbrev by_step : Luck Y → Result Change Status → Copy Content Y × Outcome
    by_step luck r =
        option_map_or (λ why. (c, refusal request why)) (first_failing (request_checks folds luck request key c))
        (concluded folds y luck (moment_of now) request (drawn a.log c.seen) r c)

    served_same : (luck : Luck Y) → served folds y luck (moment_of now) (without_cas request) c ≡ served folds y luck (moment_of now) request c
    served_same luck = ap (by_step luck) (step_as a.log c.seen here)

    body_same : (luck : Luck Y)
        → body_step folds y luck (moment_of now) (without_cas request) request.body c
        ≡ body_step folds y luck (moment_of now) request request.body c
    body_same luck =
        served_body y luck (moment_of now) (without_cas request) request.body c named ∙ served_same luck
        ∙ sym (served_body y luck (moment_of now) request request.body c named)

    requested_same : (luck : Luck Y) → requested folds y luck (without_cas request) now a ≡ requested folds y luck request now a
    requested_same luck =
        ap (λ (r : Copy Content Y × Outcome). if lacks_memory luck.chance then (a, refusal request status.ENOMEM) else r) (body_same luck)

    step_same : (luck : Luck Y) → step folds y luck (Requests (without_cas request) now) a ≡ step folds y luck (Requests request now) a
    step_same luck = ap (λ (r : Copy Content Y × Outcome). (r.0, Answered r.1)) (requested_same luck)

-- what one request may do another may that takes the same steps
may_as : {Y : Type 0} (y : LayoutKind Y) (a b : Copy Content Y) (one other : Request) (now : ℕ) (told : Told Content)
    → ((luck : Luck Y) → step folds y luck (Requests one now) a ≡ step folds y luck (Requests other now) a)
    → May folds y (Requests one now) a b told → May folds y (Requests other now) a b told
may_as {Y = Y} y a b one other now told same t = record {
  luck = t.luck;
  laid = λ writes goes. t.laid
      (ap (λ (r : Copy Content Y × Told Content). not (is_dead a.role) && is_some r.0.torn) (same (failing a)) ∙ writes) goes;
  goes = sym (same t.luck) ∙ t.goes;
}

pub cas_passes : {Y : Type 0} (y : LayoutKind Y) (a b : Copy Content Y) (request : Request) (now : ℕ) (reply : Reply) (doc : Doc)
    → IsSome (key_named request.body) → document_at a.log (document_key request.body) now ≡ Some doc → request.cas ≡ doc.cas
    → Takes y a (Asked (without_cas request) now reply) b → Takes y a (Asked request now reply) b
cas_passes y a b request now reply doc named here same t =
    (t.0, may_as y a b (without_cas request) request now (Answered (outcomes.Reply reply)) (step_same request doc now same y a here named) t.1)

pub cas_no_more : {Y : Type 0} (y : LayoutKind Y) (a b : Copy Content Y) (request : Request) (now : ℕ) (reply : Reply) (doc : Doc)
    → IsSome (key_named request.body) → document_at a.log (document_key request.body) now ≡ Some doc → request.cas ≡ doc.cas
    → Takes y a (Asked request now reply) b → Takes y a (Asked (without_cas request) now reply) b
cas_no_more y a b request now reply doc named here same t = (
  t.0,
  may_as y a b request (without_cas request) now (Answered (outcomes.Reply reply))
      (λ luck. sym (step_same request doc now same y a here named luck)) t.1,
)
