-- The laws of parts, from a request's body and its CAS.
use Rattle.std.specs.Prelude.{◌≡◌, ℕ, ◌+◌, ◌≤◌, List, [], ◌∷◌, length, Option, Some, None, Result, Ok, Err}
use Rattle.std.specs.Option.{option_map_or}
use Rattle.std.specs.Int.{w16, to_be_bytes}
use Rattle.std.proofs.Common.{inl, sym, subst}
use Rattle.doc_model.specs.declared.key.DocKey.{DocKey}
use Rattle.doc_model.specs.declared.document.Doc.{Doc}
use Rattle.doc_model.specs.declared.status.Status.{Status}
use Rattle.doc_model.specs.declared.status.TheConstants.Status as status
use Rattle.kv_request.specs.declared.reading.TheConstants.{VALUE_LIMIT}
use Rattle.kv_request.specs.declared.request.Request.{Request}
use Rattle.kv_request.specs.declared.request.Spec.{Spec}
use Rattle.kv_request.specs.declared.request.Body.{Body}
use Rattle.kv_request.specs.declared.request.Body.TheVariants as bodies
use Rattle.doc_step.specs.declared.Effect.TheVariants as effects
use Rattle.doc_step.specs.declared.Change.{Change}
use Rattle.doc_step.specs.Expiry.{Setting, there}
use Rattle.doc_step.specs.Parts.{look_step, edit_step, multi_look_step, multi_edit_step}
use Rattle.doc_step.specs.Step.{cas_refusal, operation, compared, document_step}
use Rattle.doc_step.specs.Laws.{effect_of, Spares}
use Rattle.doc_step.proofs.Alone.{AsMade, AsRefused, AsFound, edit_made_alone, edit_refused_alone, look_found_alone}
use Rattle.doc_step.proofs.Edits.{StepSpares, no_put, edit_spares, edits_spare, StartsAndNames, first_named}

-- a step behind the comparison of the CAS
abbrev unless : Option Status → Result Change Status → Result Change Status
unless refusing step = option_map_or {T = Status} {U = Result Change Status} (λ s. Err s) refusing step

-- ---- what is kept

unless_spares : (found : Doc) (expiry : Option ℕ) (specs : List Spec) (refusing : Option Status) (r : Result Change Status) → StepSpares found expiry specs r → StepSpares found expiry specs (unless refusing r)
unless_spares found expiry specs None r h = h
unless_spares found expiry specs (Some s) r h = no_put found expiry specs s

keeps : (s : Setting) (request : Request) (doc found : Doc) (expiry : Option ℕ) (specs : List Spec) (body : Body) → request.body ≡ body → there s.now (Some doc) ≡ Some found
    → StepSpares found expiry specs (operation s request body (Some found)) → StepSpares found expiry specs (document_step s request (Some doc))
keeps s request doc found expiry specs body is here h =
    subst (λ (o : Option Doc). StepSpares found expiry specs (compared s request o)) (sym here)
    (unless_spares found expiry specs (cas_refusal request.cas (Some found)) (operation s request request.body (Some found))
    (subst (λ (b : Body). StepSpares found expiry specs (operation s request b (Some found))) (sym is) h))

pub edit_keeps : (s : Setting) (request : Request) (doc found made : Doc) (key : DocKey) (spec : Spec) (expiry : Option ℕ) (flags : ℕ) → request.body ≡ bodies.Edit key spec expiry flags
    → there s.now (Some doc) ≡ Some found → effect_of (document_step s request (Some doc)) ≡ effects.Put made → Spares found made expiry (spec ∷ [])
edit_keeps s request doc found made key spec expiry flags is here =
    keeps s request doc found expiry (spec ∷ []) (bodies.Edit key spec expiry flags) is here (edit_spares s request expiry flags spec found) made

pub edits_keep : (s : Setting) (request : Request) (doc found made : Doc) (key : DocKey) (specs : List Spec) (expiry : Option ℕ) (flags : ℕ) → request.body ≡ bodies.MultiEdit key specs expiry flags
    → there s.now (Some doc) ≡ Some found → effect_of (document_step s request (Some doc)) ≡ effects.Put made → Spares found made expiry specs
edits_keep s request doc found made key specs expiry flags is here =
    keeps s request doc found expiry specs (bodies.MultiEdit key specs expiry flags) is here (edits_spare s request expiry flags specs found) made

-- ---- the first that fails

unless_names : (s : Setting) (expiry : Option ℕ) (flags : ℕ) (specs : List Spec) (doc : Option Doc) (change : Change) (refusing : Option Status) (r : Result Change Status)
    → (r ≡ Ok change → StartsAndNames s expiry flags specs doc change) → unless refusing r ≡ Ok change → StartsAndNames s expiry flags specs doc change
unless_names s expiry flags specs doc change None r h e = h e
unless_names s expiry flags specs doc change (Some x) r h e = absurd (cc)

pub names_first : (s : Setting) (request : Request) (doc : Option Doc) (change : Change) (key : DocKey) (specs : List Spec) (expiry : Option ℕ) (flags : ℕ)
    → request.body ≡ bodies.MultiEdit key specs expiry flags → document_step s request doc ≡ Ok change → change.reply.status ≡ status.MULTI_PATH_FAILURE
    → StartsAndNames s expiry flags specs (there s.now doc) change
names_first s request doc change key specs expiry flags is e failed =
    let here = there s.now doc in
    let P : Body → Type 0 = λ b. unless (cas_refusal request.cas here) (operation s request b here) ≡ Ok change in
    unless_names s expiry flags specs here change (cas_refusal request.cas here) (multi_edit_step s request specs expiry flags here)
    (λ f. first_named s request expiry flags specs here change f failed) (subst P is e)

-- ---- one among several

unless_made : (change : Change) (refusing : Option Status) (x y : Result Change Status) → (x ≡ Ok change → AsMade y change) → unless refusing x ≡ Ok change → AsMade (unless refusing y) change
unless_made change None x y h e = h e
unless_made change (Some s) x y h e = absurd (cc)

unless_refused : (bytes : List ℕ) (status : Status) (refusing : Option Status) (x y : Result Change Status) → (x ≡ Err status → AsRefused y status bytes) → unless refusing x ≡ Err status → AsRefused (unless refusing y) status bytes
unless_refused bytes status None x y h e = h e
unless_refused bytes status (Some s) x y h e = inl e

unless_found : (change : Change) (refusing : Option Status) (x y : Result Change Status) → (x ≡ Ok change → AsFound y change) → unless refusing x ≡ Ok change → AsFound (unless refusing y) change
unless_found change None x y h e = h e
unless_found change (Some s) x y h e = absurd (cc)

-- a step with this body, and one with another and the same CAS
moved : (s : Setting) (alone among : Request) (here : Option Doc) (body other : Body) (P Q : Result Change Status → Type 0)
    → alone.body ≡ body → among.body ≡ other → alone.cas ≡ among.cas
    → (P (unless (cas_refusal alone.cas here) (operation s alone body here)) → Q (unless (cas_refusal alone.cas here) (operation s among other here)))
    → P (compared s alone here) → Q (compared s among here)
moved s alone among here body other P Q p q c go h =
    let first = subst (λ (b : Body). P (unless (cas_refusal alone.cas here) (operation s alone b here))) p h in
    let second = subst (λ (n : ℕ). Q (unless (cas_refusal n here) (operation s among other here))) c (go first) in
    subst (λ (b : Body). Q (unless (cas_refusal among.cas here) (operation s among b here))) (sym q) second

pub edit_among : (s : Setting) (alone among : Request) (doc : Option Doc) (change : Change) (key : DocKey) (spec : Spec) (expiry : Option ℕ) (flags : ℕ)
    → alone.body ≡ bodies.Edit key spec expiry flags → among.body ≡ bodies.MultiEdit key (spec ∷ []) expiry flags → alone.cas ≡ among.cas
    → document_step s alone doc ≡ Ok change → AsMade (document_step s among doc) change
edit_among s alone among doc change key spec expiry flags p q c =
    let here = there s.now doc in
    moved s alone among here (bodies.Edit key spec expiry flags) (bodies.MultiEdit key (spec ∷ []) expiry flags) (λ r. r ≡ Ok change) (λ r. AsMade r change) p q c
    (unless_made change (cas_refusal alone.cas here) (edit_step s alone spec expiry flags here) (multi_edit_step s among (spec ∷ []) expiry flags here)
    (edit_made_alone s alone among here change spec expiry flags))

pub edit_refused_among : (s : Setting) (alone among : Request) (doc : Option Doc) (refusing : Status) (key : DocKey) (spec : Spec) (expiry : Option ℕ) (flags : ℕ)
    → alone.body ≡ bodies.Edit key spec expiry flags → among.body ≡ bodies.MultiEdit key (spec ∷ []) expiry flags → alone.cas ≡ among.cas
    → document_step s alone doc ≡ Err refusing → AsRefused (document_step s among doc) refusing (0 ∷ to_be_bytes w16 refusing.code)
edit_refused_among s alone among doc refusing key spec expiry flags p q c =
    let here = there s.now doc in
    moved s alone among here (bodies.Edit key spec expiry flags) (bodies.MultiEdit key (spec ∷ []) expiry flags) (λ r. r ≡ Err refusing) (λ r. AsRefused r refusing (0 ∷ to_be_bytes w16 refusing.code)) p q c
    (unless_refused (0 ∷ to_be_bytes w16 refusing.code) refusing (cas_refusal alone.cas here) (edit_step s alone spec expiry flags here) (multi_edit_step s among (spec ∷ []) expiry flags here)
    (edit_refused_alone s alone among here refusing spec expiry flags))

pub look_among : (s : Setting) (alone among : Request) (doc : Option Doc) (change : Change) (key : DocKey) (spec : Spec)
    → alone.body ≡ bodies.Look key spec → among.body ≡ bodies.MultiLook key (spec ∷ []) → alone.cas ≡ among.cas
    → document_step s alone doc ≡ Ok change → length change.reply.value + 6 ≤ VALUE_LIMIT → AsFound (document_step s among doc) change
look_among s alone among doc change key spec p q c e short =
    let here = there s.now doc in
    moved s alone among here (bodies.Look key spec) (bodies.MultiLook key (spec ∷ [])) (λ r. r ≡ Ok change) (λ r. AsFound r change) p q c
    (unless_found change (cas_refusal alone.cas here) (look_step alone spec here) (multi_look_step among (spec ∷ []) here)
    (λ f. look_found_alone alone among here change spec f short)) e
