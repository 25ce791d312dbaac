-- What edits come to is what the document step says.
use Rattle.std.specs.Prelude.{◌≡◌, ℕ, List, [], ◌∷◌, Option, Result, Ok, Err, ℤ, refl}
use Rattle.std.specs.Int.{w16, to_be_bytes}
use Rattle.std.proofs.Common.{ap, sym, ◌∙◌}
use Rattle.doc_model.specs.declared.document.Doc.{Doc}
use Rattle.doc_model.specs.declared.status.Status.{Status}
use Rattle.doc_model.specs.declared.status.Refused.{Refused}
use Rattle.doc_model.specs.declared.status.Refused.TheVariants as refusals
use Rattle.subdoc_step.specs.Answers.{◌>>=◌}
use Rattle.kv_request.specs.declared.reply.Reply.{Reply}
use Rattle.kv_request.specs.declared.request.Request.{Request}
use Rattle.kv_request.specs.declared.request.Spec.{Spec}
use Rattle.doc_step.specs.declared.Change.{Change}
use Rattle.doc_step.specs.declared.Effect.TheVariants as effects
use Rattle.doc_step.specs.Expiry.{Setting}
use Rattle.doc_step.specs.Replies.{changed, storing}
use Rattle.doc_step.specs.Parts.{part_failed, doc_to_edit, EditedDoc, edited_doc, number_text, edit_step, Folded, all_made, refused_at, edits_from, edits_answered, multi_edit_step}
use Rattle.doc_step.specs.Step.{Plans}
use Rattle.doc_ops.specs.declared.edits.Made.{Made}
use Rattle.doc_ops.specs.Edits.{made_doc, made_number, MakesDoc}

-- an edit of a document that was found
edit_of_found : (s : Setting) (request : Request) (spec : Spec) (expiry : Option ℕ) (flags : ℕ) (doc : Option Doc) (d : Doc) (r : Result EditedDoc Status)
    → doc_to_edit s expiry flags (spec ∷ []) doc ≡ Ok d → edited_doc spec flags d ≡ r
    → edit_step s request spec expiry flags doc ≡ (r >>= λ made. storing request (changed s made.doc) (number_text made.number))
edit_of_found s request spec expiry flags doc d r e f = rw (e, f) refl

-- it is stored
pub edit_stored : (s : Setting) (request : Request) (spec : Spec) (expiry : Option ℕ) (flags : ℕ) (doc : Option Doc) (d left : Doc) (made : Made) (number : Option ℤ) (told : List ℕ) (change : Change)
    → doc_to_edit s expiry flags (spec ∷ []) doc ≡ Ok d → edited_doc spec flags d ≡ Ok (record { doc = made_doc d made; number = made_number made })
    → left ≡ made_doc d made → number ≡ made_number made → told ≡ number_text number → Ok change ≡ storing request (changed s left) told
    → edit_step s request spec expiry flags doc ≡ Ok change
edit_stored s request spec expiry flags doc d left made number told change e f l n t st =
    edit_of_found s request spec expiry flags doc d (Ok (record { doc = made_doc d made; number = made_number made })) e f
    ∙ ap (λ (x : Doc). storing request (changed s x) (number_text (made_number made))) (sym l)
    ∙ ap (λ (x : List ℕ). storing request (changed s left) x) (sym (t ∙ ap number_text n))
    ∙ sym st

-- it is refused
pub edit_refused : (s : Setting) (request : Request) (spec : Spec) (expiry : Option ℕ) (flags : ℕ) (doc : Option Doc) (d : Doc) (r : Refused)
    → doc_to_edit s expiry flags (spec ∷ []) doc ≡ Ok d → MakesDoc spec flags d (Err r) → Plans (edit_step s request spec expiry flags doc) (Err r)
edit_refused s request spec expiry flags doc d (refusals.Status x) e f = edit_of_found s request spec expiry flags doc d (Err x) e f
edit_refused s request spec expiry flags doc d refusals.NoMemory e f = tt

-- edits of a document that was found
edits_of_found : (s : Setting) (request : Request) (specs : List Spec) (expiry : Option ℕ) (flags : ℕ) (doc : Option Doc) (d : Doc) (f : Folded)
    → doc_to_edit s expiry flags specs doc ≡ Ok d → edits_from flags 0 d [] specs ≡ f → multi_edit_step s request specs expiry flags doc ≡ edits_answered s request f
edits_of_found s request specs expiry flags doc d f e g = rw (e, g) refl

-- they are stored
pub edits_stored : (s : Setting) (request : Request) (specs : List Spec) (expiry : Option ℕ) (flags : ℕ) (doc : Option Doc) (d left : Doc) (told : List ℕ) (change : Change)
    → doc_to_edit s expiry flags specs doc ≡ Ok d → edits_from flags 0 d [] specs ≡ all_made left told → Ok change ≡ storing request (changed s left) told
    → multi_edit_step s request specs expiry flags doc ≡ Ok change
edits_stored s request specs expiry flags doc d left told change e f st = edits_of_found s request specs expiry flags doc d (all_made left told) e f ∙ sym st

-- one of them is refused
pub edits_refused : (s : Setting) (request : Request) (specs : List Spec) (expiry : Option ℕ) (flags : ℕ) (doc : Option Doc) (d : Doc) (place : ℕ) (x : Status) (told : List ℕ) (reply : Reply)
    → doc_to_edit s expiry flags specs doc ≡ Ok d → edits_from flags 0 d [] specs ≡ refused_at place x → told ≡ place ∷ to_be_bytes w16 x.code → reply ≡ part_failed request told
    → multi_edit_step s request specs expiry flags doc ≡ Ok (record { effect = effects.Nothing; reply = reply })
edits_refused s request specs expiry flags doc d place x told reply e f t r =
    edits_of_found s request specs expiry flags doc d (refused_at place x) e f
    ∙ ap (λ (y : Reply). fine (record { effect = effects.Nothing; reply = y })) (sym (r ∙ ap (part_failed request) t))
  where
    fine : Change → Result Change Status
    fine c = Ok c
