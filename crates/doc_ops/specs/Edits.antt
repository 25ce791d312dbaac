-- What editing parts of a document came to.
use Rattle.std.specs.Prelude.{◌≡◌, ℕ, true, unwrap_or, Option, Result, Ok, Err, ℤ}
use Rattle.std.specs.Option.{IfSome}
use Rattle.doc_model.specs.declared.document.Doc.{Doc}
use Rattle.doc_model.specs.declared.status.Status.{Status}
use Rattle.subdoc_edit.specs.Telling.{Told}
use Rattle.doc_model.specs.declared.status.Refused.{Refused}
use Rattle.subdoc_edit.specs.declared.editing.Edited.{Edited}
use Rattle.xattr_edit.specs.declared.editing.EditedSection.{EditedSection}
use Rattle.kv_request.specs.declared.request.Spec.{Spec}
use Rattle.doc_step.specs.Replies.{json_of}
use Rattle.doc_step.specs.Parts.{edited_doc, Folded, all_made, refused_at}
use Rattle.doc_ops.specs.declared.edits.Begun.{Begun}
use Rattle.doc_ops.specs.declared.edits.Draft.{Draft}
use Rattle.doc_ops.specs.declared.edits.Made.{Made}
use Rattle.doc_ops.specs.declared.edits.Made.TheVariants as mades
use Rattle.doc_ops.specs.declared.edits.Outcome.{Outcome}
use Rattle.doc_ops.specs.declared.edits.Outcome.TheVariants as outcomes

-- what edits begin with is this document's, but for what a change sets anew
pub record Begins (begun : Begun) (doc : Doc) : Type 0 where
  pub value : begun.value.now ≡ doc.value
  pub xattrs : begun.xattrs.now ≡ doc.xattrs
  pub flags : begun.flags ≡ doc.flags
  pub expiry : begun.expiry ≡ doc.expiry

-- a document to edit was found, or the status says why none is
abbrev pub FindsDoc : Result Doc Status → Result Begun Status → Type 0
FindsDoc doc (Ok begun) = (d : Doc) × (doc ≡ Ok d) × Begins begun d
FindsDoc doc (Err s) = doc ≡ Err s

-- a document with what edits have made so far in place of its own
abbrev pub drafted : Draft → Doc → Doc
drafted draft doc = record doc { value = unwrap_or draft.value doc.value; xattrs = unwrap_or draft.xattrs doc.xattrs }

-- a value that edits have made is JSON
abbrev pub IsDraft : Draft → Type 0
IsDraft draft = IfSome draft.value (λ value. json_of value ≡ true)

-- a document with what one edit made
abbrev pub made_doc : Doc → Made → Doc
made_doc doc (mades.Value e) = record doc { value = e.text }
made_doc doc (mades.Attributes e) = record doc { xattrs = e.section }

-- the number that it came to
abbrev pub made_number : Made → Option ℤ
made_number (mades.Value e) = e.number
made_number (mades.Attributes e) = e.number

-- a value that it made is JSON
abbrev pub IsMade : Made → Type 0
IsMade (mades.Value e) = json_of e.text ≡ true
IsMade (mades.Attributes e) = Unit {0}

-- a value is what an edit made of a document's, or the status says why it is refused
abbrev pub MakesValue : Spec → ℕ → Doc → Result Edited Refused → Type 0
MakesValue spec flags doc =
    Told (λ e. (json_of e.text ≡ true) × (edited_doc spec flags doc ≡ Ok (record { doc = record doc { value = e.text }; number = e.number })))
    (λ s. edited_doc spec flags doc ≡ Err s)

-- a section is that of what an edit made of a document's attributes, or the status says why it is refused
abbrev pub MakesAttributes : Spec → ℕ → Doc → Result EditedSection Refused → Type 0
MakesAttributes spec flags doc =
    Told (λ e. edited_doc spec flags doc ≡ Ok (record { doc = record doc { xattrs = e.section }; number = e.number }))
    (λ s. edited_doc spec flags doc ≡ Err s)

-- what an edit made of a document, or why it is refused
abbrev pub MakesDoc : Spec → ℕ → Doc → Result Made Refused → Type 0
MakesDoc spec flags doc =
    Told (λ made. IsMade made × (edited_doc spec flags doc ≡ Ok (record { doc = made_doc doc made; number = made_number made })))
    (λ s. edited_doc spec flags doc ≡ Err s)

-- what several edits came to
abbrev pub FoldsTo : Doc → Folded → Outcome → Type 0
FoldsTo doc folded (outcomes.All draft results) = (folded ≡ all_made (drafted draft doc) results) × IsDraft draft
FoldsTo doc folded (outcomes.RefusedAt place s) = folded ≡ refused_at place s
