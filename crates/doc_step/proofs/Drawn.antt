-- What a step does is answered with success, and carries the CAS drawn.
use Rattle.std.specs.Prelude.{◌≡◌, ◌≢◌, ℕ, ◌+◌, nat_eq, nat_lt, Bool, true, false, List, [], ◌∷◌, length, Option, Some, None, Result, Ok, Err, if◌then◌else◌, refl}
use Rattle.std.specs.Int.{w64, to_be_bytes}
use Rattle.std.specs.Option.{option_map_or}
use Rattle.std.specs.Fmt.{decimal}
use Rattle.std.proofs.Common.{subst}
use Rattle.doc_model.specs.declared.key.DocKey.{DocKey}
use Rattle.doc_model.specs.declared.document.Doc.{Doc}
use Rattle.doc_model.specs.declared.status.Status.{Status}
use Rattle.doc_model.specs.declared.status.TheConstants.Status as status
use Rattle.subdoc_step.specs.Answers.{◌>>=◌}
use Rattle.kv_request.specs.declared.reading.TheConstants.{VALUE_LIMIT}
use Rattle.kv_request.specs.declared.request.Spec.{Spec}
use Rattle.kv_request.specs.declared.request.Request.{Request}
use Rattle.kv_request.specs.declared.request.Body.{Body}
use Rattle.kv_request.specs.declared.request.Body.TheVariants as bodies
use Rattle.kv_request.specs.declared.request.Mode.{Mode}
use Rattle.kv_request.specs.declared.request.Mode.TheVariants as modes
use Rattle.doc_step.specs.declared.TheConstants.{NO_INITIAL}
use Rattle.doc_step.specs.declared.Effect.TheVariants as effects
use Rattle.doc_step.specs.declared.Change.{Change}
use Rattle.doc_step.specs.Expiry.{Setting, there}
use Rattle.doc_step.specs.Counter.{number_of, moved}
use Rattle.doc_step.specs.Replies.{with_value, storing}
use Rattle.doc_step.specs.Parts.{found_in, look_answered, look_step, look_results, looks_reply, multi_look_step, doc_to_edit, edited_doc, edit_step, Folded, all_made, refused_at, edits_from, edits_answered, multi_edit_step}
use Rattle.doc_step.specs.Step.{cas_refusal, get_step, stored_doc, store_step, delete_step, new_counter, count_step, joined_value, join_step, touched_doc, touched_reply, touch_step, operation, document_step}
use Rattle.doc_step.specs.Laws.{effect_of, status_of, CarriesDraw}

-- a change that is answered with success where it has an effect, and carries this CAS
abbrev IsDrawn : ℕ → Result Change Status → Type 0
IsDrawn draw (Ok change) = (change.reply.status ≢ status.SUCCESS → change.effect ≡ effects.Nothing) × CarriesDraw draw change change.effect
IsDrawn draw (Err refusing) = Unit {0}

either_drawn : (draw : ℕ) (b : Bool) (x y : Result Change Status) → IsDrawn draw x → IsDrawn draw y → IsDrawn draw (if b then x else y)
either_drawn draw true x y h k = h
either_drawn draw false x y h k = k

get_drawn : (draw : ℕ) (request : Request) (key : DocKey) (doc : Option Doc) → IsDrawn draw (get_step request key doc)
get_drawn draw request key None = tt
get_drawn draw request key (Some doc) = (λ differs. refl, tt)

store_drawn : (s : Setting) (request : Request) (mode : Mode) (doc : Option Doc) (stored : Doc) → stored.cas ≡ s.draw → IsDrawn s.draw (store_step s request mode doc stored)
store_drawn s request modes.Set doc stored e = (λ differs. absurd (differs refl), (e, e))
store_drawn s request modes.Add None stored e = (λ differs. absurd (differs refl), (e, e))
store_drawn s request modes.Add (Some doc) stored e = tt
store_drawn s request modes.Replace None stored e = tt
store_drawn s request modes.Replace (Some doc) stored e = (λ differs. absurd (differs refl), (e, e))

delete_drawn : (s : Setting) (request : Request) (doc : Option Doc) → IsDrawn s.draw (delete_step s request doc)
delete_drawn s request None = tt
delete_drawn s request (Some doc) = (λ differs. absurd (differs refl), refl)

counted_drawn : (s : Setting) (request : Request) (up : Bool) (delta : ℕ) (doc : Doc) (number : Option ℕ)
    → IsDrawn s.draw (option_map_or {U = Result Change Status} (λ n. storing request (with_value s doc (decimal (moved up n delta))) (to_be_bytes w64 (moved up n delta))) number (Err status.DELTA_BADVAL))
counted_drawn s request up delta doc None = tt
counted_drawn s request up delta doc (Some n) = (λ differs. absurd (differs refl), (refl, refl))

count_drawn : (s : Setting) (request : Request) (up : Bool) (delta initial expiry : ℕ) (doc : Option Doc) → IsDrawn s.draw (count_step s request up delta initial expiry doc)
count_drawn s request up delta initial expiry None = either_drawn s.draw (nat_eq expiry NO_INITIAL) (Err status.KEY_ENOENT) (storing request (new_counter s initial expiry) (to_be_bytes w64 initial)) tt (λ differs. absurd (differs refl), (refl, refl))
count_drawn s request up delta initial expiry (Some doc) = counted_drawn s request up delta doc (number_of doc.value)

join_drawn : (s : Setting) (request : Request) (front : Bool) (value : List ℕ) (doc : Option Doc) → IsDrawn s.draw (join_step s request front value doc)
join_drawn s request front value None = tt
join_drawn s request front value (Some doc) =
    either_drawn s.draw (nat_lt VALUE_LIMIT (length doc.value + length value)) (Err status.E2BIG) (storing request (with_value s doc (joined_value front doc.value value)) []) tt (λ differs. absurd (differs refl), (refl, refl))

touched_drawn : (s : Setting) (fetch : Bool) (request : Request) (key : DocKey) (doc : Doc) → doc.cas ≡ s.draw → ((touched_reply fetch request key doc).status ≡ status.SUCCESS) × ((touched_reply fetch request key doc).cas ≡ s.draw)
touched_drawn s true request key doc e = (refl, e)
touched_drawn s false request key doc e = (refl, e)

touch_drawn : (s : Setting) (request : Request) (key : DocKey) (expiry : ℕ) (fetch : Bool) (doc : Option Doc) → IsDrawn s.draw (touch_step s request key expiry fetch doc)
touch_drawn s request key expiry fetch None = tt
touch_drawn s request key expiry fetch (Some doc) =
    let told = touched_drawn s fetch request key (touched_doc s doc expiry) refl in (λ differs. absurd (differs told.0), (refl, told.1))

-- a step that may refuse, and then another
bound_drawn : {A : Type 0} (draw : ℕ) (r : Result A Status) (next : A → Result Change Status) → ((x : A) → IsDrawn draw (next x)) → IsDrawn draw (r >>= next)
bound_drawn draw (Ok x) next h = h x
bound_drawn draw (Err refusing) next h = tt

looked_drawn : (draw : ℕ) (request : Request) (doc : Doc) (found : Result (List ℕ) Status) → IsDrawn draw (look_answered request doc found)
looked_drawn draw request doc (Ok piece) = (λ differs. refl, tt)
looked_drawn draw request doc (Err refusing) = tt

look_drawn : (draw : ℕ) (request : Request) (spec : Spec) (doc : Option Doc) → IsDrawn draw (look_step request spec doc)
look_drawn draw request spec None = tt
look_drawn draw request spec (Some doc) = looked_drawn draw request doc (found_in doc spec)

multi_look_drawn : (draw : ℕ) (request : Request) (specs : List Spec) (doc : Option Doc) → IsDrawn draw (multi_look_step request specs doc)
multi_look_drawn draw request specs None = tt
multi_look_drawn draw request specs (Some doc) =
    either_drawn draw (nat_lt VALUE_LIMIT (length (look_results doc specs))) (Err status.E2BIG)
    (Ok (record { effect = effects.Nothing; reply = looks_reply request doc specs })) tt (λ differs. refl, tt)

edit_drawn : (s : Setting) (request : Request) (spec : Spec) (expiry : Option ℕ) (flags : ℕ) (doc : Option Doc) → IsDrawn s.draw (edit_step s request spec expiry flags doc)
edit_drawn s request spec expiry flags doc =
    bound_drawn s.draw (doc_to_edit s expiry flags (spec ∷ []) doc) _ (λ begun.
    bound_drawn s.draw (edited_doc spec flags begun) _ (λ made. (λ differs. absurd (differs refl), (refl, refl))))

edits_drawn : (s : Setting) (request : Request) (edits : Folded) → IsDrawn s.draw (edits_answered s request edits)
edits_drawn s request (all_made doc results) = (λ differs. absurd (differs refl), (refl, refl))
edits_drawn s request (refused_at place refusing) = (λ differs. refl, tt)

multi_edit_drawn : (s : Setting) (request : Request) (specs : List Spec) (expiry : Option ℕ) (flags : ℕ) (doc : Option Doc) → IsDrawn s.draw (multi_edit_step s request specs expiry flags doc)
multi_edit_drawn s request specs expiry flags doc =
    bound_drawn s.draw (doc_to_edit s expiry flags specs doc) _ (λ begun. edits_drawn s request (edits_from flags 0 begun [] specs))

operation_drawn : (s : Setting) (request : Request) (body : Body) (doc : Option Doc) → IsDrawn s.draw (operation s request body doc)
operation_drawn s request (bodies.Hello wanted) doc = tt
operation_drawn s request bodies.Noop doc = tt
operation_drawn s request bodies.Version doc = tt
operation_drawn s request bodies.Quit doc = tt
operation_drawn s request (bodies.SetManifest text) doc = tt
operation_drawn s request bodies.GetManifest doc = tt
operation_drawn s request (bodies.CollectionId path) doc = tt
operation_drawn s request (bodies.ScopeId path) doc = tt
operation_drawn s request (bodies.Get key) doc = get_drawn s.draw request key doc
operation_drawn s request (bodies.Store key mode flags expiry value) doc = store_drawn s request mode doc (stored_doc s flags expiry value doc) refl
operation_drawn s request (bodies.Delete key) doc = delete_drawn s request doc
operation_drawn s request (bodies.Count key up delta initial expiry) doc = count_drawn s request up delta initial expiry doc
operation_drawn s request (bodies.Join key front value) doc = join_drawn s request front value doc
operation_drawn s request (bodies.Touch key expiry fetch) doc = touch_drawn s request key expiry fetch doc
operation_drawn s request (bodies.Look key spec) doc = look_drawn s.draw request spec doc
operation_drawn s request (bodies.Edit key spec expiry flags) doc = edit_drawn s request spec expiry flags doc
operation_drawn s request (bodies.MultiLook key specs) doc = multi_look_drawn s.draw request specs doc
operation_drawn s request (bodies.MultiEdit key specs expiry flags) doc = multi_edit_drawn s request specs expiry flags doc

unless_refused : (draw : ℕ) (refusing : Option Status) (r : Result Change Status) → IsDrawn draw r → IsDrawn draw (option_map_or {U = Result Change Status} (λ s. Err s) refusing r)
unless_refused draw None r h = h
unless_refused draw (Some s) r h = tt

step_drawn : (s : Setting) (request : Request) (doc : Option Doc) → IsDrawn s.draw (document_step s request doc)
step_drawn s request doc =
    unless_refused s.draw (cas_refusal request.cas (there s.now doc)) (operation s request request.body (there s.now doc)) (operation_drawn s request request.body (there s.now doc))

-- a change carries the CAS drawn
pub carries : (s : Setting) (request : Request) (doc : Option Doc) (change : Change) → document_step s request doc ≡ Ok change → CarriesDraw s.draw change change.effect
carries s request doc change e = (subst (IsDrawn s.draw) e (step_drawn s request doc)).1

nothing_unless : (draw : ℕ) (r : Result Change Status) → IsDrawn draw r → status_of r ≢ status.SUCCESS → effect_of r ≡ effects.Nothing
nothing_unless draw (Ok change) h differs = h.0 differs
nothing_unless draw (Err refusing) h differs = refl

-- what isn't answered with success changes nothing
pub refused_nothing : (s : Setting) (request : Request) (doc : Option Doc) → status_of (document_step s request doc) ≢ status.SUCCESS → effect_of (document_step s request doc) ≡ effects.Nothing
refused_nothing s request doc = nothing_unless s.draw (document_step s request doc) (step_drawn s request doc)
