-- What a request stores has attributes that have a section, where those of the document that is there have one, and no
-- sequence number yet.
use Rattle.std.specs.Prelude.{◌≡◌, ◌+◌, ℕ, suc, nat_eq, nat_lt, Bool, true, false, List, [], ◌∷◌, ◌++◌, length, Option, Some, None, Result, Ok, Err, if◌then◌else◌, refl}
use Rattle.std.specs.Int.{w64, to_be_bytes}
use Rattle.std.specs.Option.{option_map_or, IfSome}
use Rattle.std.specs.Fmt.{decimal}
use Rattle.std.proofs.Common.{subst, sym}
use Rattle.doc_model.specs.declared.document.Doc.{Doc}
use Rattle.doc_model.specs.declared.key.DocKey.{DocKey}
use Rattle.doc_model.specs.declared.status.Status.{Status}
use Rattle.doc_model.specs.declared.status.TheConstants.Status as status
use Rattle.json_model.specs.declared.asked.Edit.{Edit}
use Rattle.json_model.specs.Edit.{edit_of}
use Rattle.json_model.specs.Order.{EditedText}
use Rattle.subdoc_step.specs.Answers.{◌>>=◌, edited}
use Rattle.xattr_body.specs.Section.{Pair, IsSection, HaveSection}
use Rattle.xattr_body.specs.Pairs.{pairs_in}
use Rattle.xattr_body.proofs.Fronts.{its_pairs}
use Rattle.xattr_body.proofs.Sections.{empty_section}
use Rattle.xattr_step.specs.Answers.{EditedPairs, edited_in}
use Rattle.xattr_step.proofs.Sections.{section_left}
use Rattle.kv_request.specs.declared.reading.TheConstants.{VALUE_LIMIT}
use Rattle.kv_request.specs.declared.parts.TheConstants.{ADDS_DOCUMENT}
use Rattle.kv_request.specs.declared.request.Request.{Request}
use Rattle.kv_request.specs.declared.request.Body.{Body}
use Rattle.kv_request.specs.declared.request.Body.TheVariants as bodies
use Rattle.kv_request.specs.declared.request.Mode.{Mode}
use Rattle.kv_request.specs.declared.request.Mode.TheVariants as modes
use Rattle.kv_request.specs.declared.request.Spec.{Spec}
use Rattle.kv_request.specs.Parts.{is_attribute}
use Rattle.doc_step.specs.declared.TheConstants.{NO_INITIAL}
use Rattle.doc_step.specs.declared.Change.{Change}
use Rattle.doc_step.specs.declared.Effect.{Effect}
use Rattle.doc_step.specs.declared.Effect.TheVariants as effects
use Rattle.doc_step.specs.Expiry.{Setting, there, is_expired}
use Rattle.doc_step.specs.Counter.{number_of, moved}
use Rattle.doc_step.specs.Replies.{with_value, storing}
use Rattle.doc_step.specs.Parts.{look_answered, look_step, found_in, look_results, looks_reply, multi_look_step, begun_doc, with_expiry, doc_to_edit, makes_several, EditedDoc, value_edited, attributes_edited, edited_by, edited_doc, edit_step, edit_result, Folded, all_made, refused_at, and_then, edits_from, edits_answered, multi_edit_step}
use Rattle.doc_step.specs.Step.{cas_refusal, kept_xattrs, get_step, stored_doc, store_step, delete_step, new_counter, count_step, joined_value, join_step, touch_step, operation, document_step}

-- bytes are the section of some attributes
abbrev pub IsSectioned : List ℕ → Type 0
IsSectioned bytes = (pairs : List Pair) × IsSection pairs bytes

-- a document whose attributes have a section
pub record HasSection (doc : Doc) : Type 0 where
  pub section : IsSectioned doc.xattrs

-- a document that is to be stored
pub record IsKept (doc : Doc) : Type 0 where
  pub section : IsSectioned doc.xattrs
  pub unnumbered : doc.seqno ≡ 0

abbrev pub KeepsEffect : Effect → Type 0
KeepsEffect effects.Nothing = Unit {0}
KeepsEffect (effects.Put doc) = IsKept doc
KeepsEffect effects.Remove = Unit {0}

abbrev KeepsResult : Result Change Status → Type 0
KeepsResult (Ok change) = KeepsEffect change.effect
KeepsResult (Err refusing) = Unit {0}

none_sectioned : IsSectioned []
none_sectioned = ([], empty_section [] refl)

kept_sectioned : (doc : Option Doc) → IfSome doc HasSection → IsSectioned (kept_xattrs doc)
kept_sectioned None h = none_sectioned
kept_sectioned (Some doc) h = h.section

either_keeps : (b : Bool) (x y : Result Change Status) → KeepsResult x → KeepsResult y → KeepsResult (if b then x else y)
either_keeps true x y h k = h
either_keeps false x y h k = k

storing_keeps : (request : Request) (doc : Doc) (value : List ℕ) → IsKept doc → KeepsResult (storing request doc value)
storing_keeps request doc value h = h

-- ---- operations on the whole document

get_keeps : (request : Request) (key : DocKey) (doc : Option Doc) → KeepsResult (get_step request key doc)
get_keeps request key None = tt
get_keeps request key (Some doc) = tt

store_keeps : (s : Setting) (request : Request) (mode : Mode) (doc : Option Doc) (stored : Doc) → IsKept stored
    → KeepsResult (store_step s request mode doc stored)
store_keeps s request modes.Set doc stored h = h
store_keeps s request modes.Add None stored h = h
store_keeps s request modes.Add (Some doc) stored h = tt
store_keeps s request modes.Replace None stored h = tt
store_keeps s request modes.Replace (Some doc) stored h = h

delete_keeps : (s : Setting) (request : Request) (doc : Option Doc) → KeepsResult (delete_step s request doc)
delete_keeps s request None = tt
delete_keeps s request (Some doc) = tt

counted_keeps : (s : Setting) (request : Request) (up : Bool) (delta : ℕ) (doc : Doc) (number : Option ℕ) → HasSection doc
    → KeepsResult (option_map_or {U = Result Change Status} (λ n. storing request (with_value s doc (decimal (moved up n delta)))
    (to_be_bytes w64 (moved up n delta))) number (Err status.DELTA_BADVAL))
counted_keeps s request up delta doc None h = tt
counted_keeps s request up delta doc (Some number) h = record { section = h.section; unnumbered = refl }

count_keeps : (s : Setting) (request : Request) (up : Bool) (delta initial expiry : ℕ) (doc : Option Doc) → IfSome doc HasSection
    → KeepsResult (count_step s request up delta initial expiry doc)
count_keeps s request up delta initial expiry None h =
    either_keeps (nat_eq expiry NO_INITIAL) (Err status.KEY_ENOENT)
    (storing request (new_counter s initial expiry) (to_be_bytes w64 initial)) tt
    (record { section = none_sectioned; unnumbered = refl })
count_keeps s request up delta initial expiry (Some doc) h = counted_keeps s request up delta doc (number_of doc.value) h

join_keeps : (s : Setting) (request : Request) (front : Bool) (value : List ℕ) (doc : Option Doc) → IfSome doc HasSection
    → KeepsResult (join_step s request front value doc)
join_keeps s request front value None h = tt
join_keeps s request front value (Some doc) h =
    either_keeps (nat_lt VALUE_LIMIT (length doc.value + length value)) (Err status.E2BIG)
    (storing request (with_value s doc (joined_value front doc.value value)) []) tt
    (record { section = h.section; unnumbered = refl })

touch_keeps : (s : Setting) (request : Request) (key : DocKey) (expiry : ℕ) (fetch : Bool) (doc : Option Doc) → IfSome doc HasSection
    → KeepsResult (touch_step s request key expiry fetch doc)
touch_keeps s request key expiry fetch None h = tt
touch_keeps s request key expiry fetch (Some doc) h = record { section = h.section; unnumbered = refl }

-- ---- look-ups

looked_keeps : (request : Request) (doc : Doc) (found : Result (List ℕ) Status) → KeepsResult (look_answered request doc found)
looked_keeps request doc (Ok found) = tt
looked_keeps request doc (Err refusing) = tt

look_keeps : (request : Request) (spec : Spec) (doc : Option Doc) → KeepsResult (look_step request spec doc)
look_keeps request spec None = tt
look_keeps request spec (Some doc) = looked_keeps request doc (found_in doc spec)

multi_look_keeps : (request : Request) (specs : List Spec) (doc : Option Doc) → KeepsResult (multi_look_step request specs doc)
multi_look_keeps request specs None = tt
multi_look_keeps request specs (Some doc) =
    either_keeps (nat_lt VALUE_LIMIT (length (look_results doc specs))) (Err status.E2BIG)
    (Ok (record { effect = effects.Nothing; reply = looks_reply request doc specs })) tt tt

-- ---- edits

abbrev DocSectioned : Result Doc Status → Type 0
DocSectioned (Ok doc) = HasSection doc
DocSectioned (Err refusing) = Unit {0}

either_doc : (b : Bool) (refusing : Status) (doc : Doc) → HasSection doc → DocSectioned (if b then Err refusing else Ok doc)
either_doc true refusing doc h = tt
either_doc false refusing doc h = h

expiry_sectioned : (s : Setting) (expiry : Option ℕ) (doc : Doc) → HasSection doc → HasSection (with_expiry s expiry doc)
expiry_sectioned s None doc h = h
expiry_sectioned s (Some expiry) doc h = record { section = h.section }

to_edit : (s : Setting) (expiry : Option ℕ) (flags : ℕ) (specs : List Spec) (doc : Option Doc) → IfSome doc HasSection
    → DocSectioned (doc_to_edit s expiry flags specs doc)
to_edit s expiry flags specs None h = either_doc (nat_eq flags 0) status.KEY_ENOENT (begun_doc s expiry specs)
    (record { section = none_sectioned })
to_edit s expiry flags specs (Some doc) h = either_doc (nat_eq flags ADDS_DOCUMENT) status.KEY_EEXISTS (with_expiry s expiry doc)
    (expiry_sectioned s expiry doc h)

abbrev MadeSectioned : Result EditedDoc Status → Type 0
MadeSectioned (Ok made) = HasSection made.doc
MadeSectioned (Err refusing) = Unit {0}

value_made : (doc : Doc) (made : Result EditedText Status) → HasSection doc → MadeSectioned (value_edited doc made)
value_made doc (Ok made) h = record { section = h.section }
value_made doc (Err refusing) h = tt

-- the pairs of a section have one
pairs_sectioned : (bytes : List ℕ) → IsSectioned bytes → HaveSection (pairs_in bytes)
pairs_sectioned bytes h = subst HaveSection (sym (its_pairs h.0 bytes h.1)) h.1.whole

attributes_made : (edit : Edit) (several : Bool) (path value : List ℕ) (doc : Doc) (made : Result EditedPairs Status) → HasSection doc
    → edited_in edit several (pairs_in doc.xattrs) path value ≡ made
    → MadeSectioned (attributes_edited doc made)
attributes_made edit several path value doc (Ok made) h e =
    let whole : HaveSection made.pairs = section_left edit several (pairs_in doc.xattrs) path value made
    (pairs_sectioned doc.xattrs h.section) e in
    record { section = (made.pairs, record { whole = whole; spelled = refl }) }
attributes_made edit several path value doc (Err refusing) h e = tt

either_made : (b : Bool) (x y : Result EditedDoc Status) → MadeSectioned x → MadeSectioned y → MadeSectioned (if b then x else y)
either_made true x y h k = h
either_made false x y h k = k

spec_made : (spec : Spec) (flags : ℕ) (doc : Doc) (edit : Option Edit) → HasSection doc
    → MadeSectioned (option_map_or {U = Result EditedDoc Status} (edited_by spec flags doc) edit (Err status.UNKNOWN_COMMAND))
spec_made spec flags doc None h = tt
spec_made spec flags doc (Some edit) h =
    let several = makes_several spec flags in
    either_made (is_attribute spec) (attributes_edited doc (edited_in edit several (pairs_in doc.xattrs) spec.path spec.value))
    (value_edited doc (edited edit several doc.value spec.path spec.value))
    (attributes_made edit several spec.path spec.value doc (edited_in edit several (pairs_in doc.xattrs) spec.path spec.value) h refl)
    (value_made doc (edited edit several doc.value spec.path spec.value) h)

-- a step that may refuse, and then another
bound_keeps : {A : Type 0} (P : Result A Status → Type 0) (r : Result A Status) (next : A → Result Change Status) → P r
    → ((x : A) → P (Ok x) → KeepsResult (next x)) → KeepsResult (r >>= next)
bound_keeps P (Ok x) next h k = k x h
bound_keeps P (Err refusing) next h k = tt

edit_keeps : (s : Setting) (request : Request) (spec : Spec) (expiry : Option ℕ) (flags : ℕ) (doc : Option Doc) → IfSome doc HasSection
    → KeepsResult (edit_step s request spec expiry flags doc)
edit_keeps s request spec expiry flags doc h =
    bound_keeps (λ r. DocSectioned r) (doc_to_edit s expiry flags (spec ∷ []) doc) _ (to_edit s expiry flags (spec ∷ []) doc h)
    (λ begun b.
    bound_keeps (λ r. MadeSectioned r) (edited_doc spec flags begun) _ (spec_made spec flags begun (edit_of spec.opcode) b) (λ made m.
    record { section = m.section; unnumbered = refl }))

-- ---- several edits

abbrev FoldSectioned : Folded → Type 0
FoldSectioned (all_made doc results) = HasSection doc
FoldSectioned (refused_at place refusing) = Unit {0}

go_on : (place : ℕ) (results : List ℕ) (made : Result EditedDoc Status) (rest : Doc → List ℕ → Folded) → MadeSectioned made
    → ((doc : Doc) (told : List ℕ) → HasSection doc → FoldSectioned (rest doc told)) → FoldSectioned (and_then place results made rest)
go_on place results (Ok made) rest m next = next made.doc (results ++ edit_result place made.number) m
go_on place results (Err refusing) rest m next = tt

from_sectioned : (flags place : ℕ) (doc : Doc) (results : List ℕ) (specs : List Spec) → HasSection doc
    → FoldSectioned (edits_from flags place doc results specs)
unfolding edits_from
from_sectioned flags place doc results [] h = h
from_sectioned flags place doc results (spec ∷ specs) h =
    go_on place results (edited_doc spec flags doc) (λ made told. edits_from flags (suc place) made told specs)
    (spec_made spec flags doc (edit_of spec.opcode) h) (λ made told k. from_sectioned flags (suc place) made told specs k)

answered_keeps : (s : Setting) (request : Request) (edits : Folded) → FoldSectioned edits → KeepsResult (edits_answered s request edits)
answered_keeps s request (all_made doc results) h = record { section = h.section; unnumbered = refl }
answered_keeps s request (refused_at place refusing) h = tt

multi_edit_keeps : (s : Setting) (request : Request) (specs : List Spec) (expiry : Option ℕ) (flags : ℕ) (doc : Option Doc)
    → IfSome doc HasSection → KeepsResult (multi_edit_step s request specs expiry flags doc)
multi_edit_keeps s request specs expiry flags doc h =
    bound_keeps (λ r. DocSectioned r) (doc_to_edit s expiry flags specs doc) _ (to_edit s expiry flags specs doc h) (λ begun b.
    answered_keeps s request (edits_from flags 0 begun [] specs) (from_sectioned flags 0 begun [] specs b))

-- ---- requests

operation_keeps : (s : Setting) (request : Request) (body : Body) (doc : Option Doc) → IfSome doc HasSection
    → KeepsResult (operation s request body doc)
operation_keeps s request (bodies.Hello wanted) doc h = tt
operation_keeps s request bodies.Noop doc h = tt
operation_keeps s request bodies.Version doc h = tt
operation_keeps s request bodies.Quit doc h = tt
operation_keeps s request (bodies.SetManifest text) doc h = tt
operation_keeps s request bodies.GetManifest doc h = tt
operation_keeps s request (bodies.CollectionId path) doc h = tt
operation_keeps s request (bodies.ScopeId path) doc h = tt
operation_keeps s request (bodies.Get key) doc h = get_keeps request key doc
operation_keeps s request (bodies.Store key mode flags expiry value) doc h =
    store_keeps s request mode doc (stored_doc s flags expiry value doc) (record { section = kept_sectioned doc h; unnumbered = refl })
operation_keeps s request (bodies.Delete key) doc h = delete_keeps s request doc
operation_keeps s request (bodies.Count key up delta initial expiry) doc h = count_keeps s request up delta initial expiry doc h
operation_keeps s request (bodies.Join key front value) doc h = join_keeps s request front value doc h
operation_keeps s request (bodies.Touch key expiry fetch) doc h = touch_keeps s request key expiry fetch doc h
operation_keeps s request (bodies.Look key spec) doc h = look_keeps request spec doc
operation_keeps s request (bodies.Edit key spec expiry flags) doc h = edit_keeps s request spec expiry flags doc h
operation_keeps s request (bodies.MultiLook key specs) doc h = multi_look_keeps request specs doc
operation_keeps s request (bodies.MultiEdit key specs expiry flags) doc h = multi_edit_keeps s request specs expiry flags doc h

unless_refused : (refusing : Option Status) (result : Result Change Status) → KeepsResult result
    → KeepsResult (option_map_or {U = Result Change Status} (λ s. Err s) refusing result)
unless_refused None result h = h
unless_refused (Some s) result h = tt

unless_expired : (b : Bool) (doc : Doc) → HasSection doc → IfSome (if b then None else Some doc) HasSection
unless_expired true doc h = tt
unless_expired false doc h = h

there_sectioned : (now : ℕ) (doc : Option Doc) → IfSome doc HasSection → IfSome (there now doc) HasSection
there_sectioned now None h = tt
there_sectioned now (Some doc) h = unless_expired (is_expired doc.expiry now) doc h

-- what is stored has attributes that have a section
pub step_keeps : (s : Setting) (request : Request) (doc : Option Doc) (change : Change) → IfSome doc HasSection
    → document_step s request doc ≡ Ok change → KeepsEffect change.effect
step_keeps s request doc change h e =
    let P : Result Change Status → Type 0 = λ x. KeepsResult x in
    let here = there s.now doc in
    subst P e (unless_refused (cas_refusal request.cas here) (operation s request request.body here)
    (operation_keeps s request request.body here (there_sectioned s.now doc h)))
