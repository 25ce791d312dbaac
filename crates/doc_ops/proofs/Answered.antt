-- What the calls on JSON texts answer is what the document step speaks of.
use Rattle.std.specs.Prelude.{◌≡◌, ℕ, Bool, true, false, List, is_ok, Option, Some, None, Result, Ok, Err, IsTrue, IfOk, IsSome, refl}
use Rattle.std.proofs.Common.{sym, ap, subst, inl, inr, ◌∙◌}
use Rattle.doc_model.specs.declared.status.Status.{Status}
use Rattle.json_model.specs.declared.TheConstants.{MOST_DEEP}
use Rattle.json_model.specs.declared.asked.Lookup.{Lookup}
use Rattle.json_model.specs.declared.asked.Edit.{Edit}
use Rattle.json_model.specs.Spelled.{Document, IsText}
use Rattle.json_model.specs.Edit.{lookup_of, edit_of}
use Rattle.json_model.specs.Order.{ReadsText, Looks, Edits, EditedText}
use Rattle.json_model.specs.Edit.{makes_parents}
use Rattle.doc_model.specs.declared.document.Doc.{Doc}
use Rattle.doc_model.specs.declared.status.Refused.{Refused}
use Rattle.doc_model.specs.declared.status.Refused.TheVariants as refusals
use Rattle.kv_request.specs.declared.request.Spec.{Spec}
use Rattle.subdoc_edit.specs.declared.looking.Piece.{Piece}
use Rattle.subdoc_edit.specs.declared.editing.Edited.{Edited}
use Rattle.subdoc_edit.specs.Looking.{IsWithin, Finds, RefusesLook, piece_text}
use Rattle.subdoc_edit.specs.Editing.{Makes, RefusesEdit}
use Rattle.xattr_body.specs.Pairs.{pairs_in}
use Rattle.xattr_step.specs.Answers.{edited_in}
use Rattle.xattr_edit.specs.declared.editing.EditedSection.{EditedSection}
use Rattle.xattr_edit.specs.Telling.{EditsIn}
use Rattle.kv_request.specs.Parts.{is_attribute}
use Rattle.doc_step.specs.Replies.{json_of}
use Rattle.doc_step.specs.Parts.{found_in, makes_several, value_edited, attributes_edited, EditedDoc, edited_doc}
use Rattle.doc_ops.specs.declared.looks.Texts.{Texts}
use Rattle.doc_ops.specs.Looks.{text_for, FindsPiece}
use Rattle.doc_ops.specs.Edits.{MakesValue, MakesAttributes}
use Rattle.subdoc_step.specs.Texts.{read_text, is_text}
use Rattle.subdoc_step.specs.Answers.{looked_up, edited}
use Rattle.subdoc_step.proofs.Texts.{text_answered, text_only}
use Rattle.subdoc_step.proofs.Looked.{looked_only}
use Rattle.subdoc_step.proofs.Edited.{edited_only}
use Rattle.subdoc_step.proofs.Left.{leaves_json}

-- ---- texts

not_ok : (value : List ℕ) (s : Status) → Err s ≡ read_text value → false ≡ is_text value
not_ok value s e = ap (λ (r : Result Document Status). is_ok r) e

told_false : (value : List ℕ) → ((d : Document) → IsText MOST_DEEP d value → ⊥) → ReadsText value (read_text value) → false ≡ is_text value
told_false value none (inl (d, is, e)) = absurd (none d is)
told_false value none (inr (inl (place, is, e))) = not_ok value _ (sym e)
told_false value none (inr (inr (place, is, e))) = not_ok value _ (sym e)

-- whether bytes are JSON, as it was found
pub json_is : (b : Bool) (value : List ℕ) → (IsTrue b → (d : Document) × IsText MOST_DEEP d value) → ((d : Document) → IsText MOST_DEEP d value → IsTrue b) → b ≡ is_text value
json_is true value found only = let (d, is) = found refl in ap (λ (r : Result Document Status). is_ok r) (text_only value (Ok d) (inl (d, is, refl)))
json_is false value found only = told_false value (λ d is. let h = only d is in absurd (cc)) (text_answered value)

-- what an edit leaves is JSON
json_again : (edit : Edit) (several : Bool) (bytes path value : List ℕ) (e : EditedText) → Edits edit several bytes path value (Ok e) → is_text e.text ≡ true
json_again edit several bytes path value e edits =
    let (d, is) = leaves_json edit several bytes path value e edits in
    sym (ap (λ (r : Result Document Status). is_ok r) (text_only e.text (Ok d) (inl (d, is, refl))))

-- ---- look-ups of specs

-- what a look-up of the value comes to
value_found : (doc : Doc) (spec : Spec) (lookup : Lookup) → lookup_of spec.opcode ≡ Some lookup → is_attribute spec ≡ false → found_in doc spec ≡ looked_up lookup doc.value spec.path
value_found doc spec lookup e v = rw (e, v) refl

-- the text of a look-up of the value
value_text : (texts : Texts) (spec : Spec) → is_attribute spec ≡ false → text_for texts spec ≡ texts.value.now
value_text texts spec v = rw v refl

-- a piece of the value that a look-up found, or its refusal
pub value_piece : (doc : Doc) (spec : Spec) (texts : Texts) (path : List ℕ) (r : Result Piece Refused) → is_attribute spec ≡ false → path ≡ spec.path → texts.value.now ≡ doc.value
    → IfOk r (λ piece. Finds spec.opcode texts.value.now path piece)
    → ((s : Status) → r ≡ Err (refusals.Status s) → RefusesLook spec.opcode texts.value.now path s)
    → FindsPiece doc spec (text_for texts spec) r
value_piece doc spec texts path (Ok piece) v p t (lookup, is, within, looks) refused =
    let P : List ℕ → Type 0 = λ text. IsWithin text piece × (found_in doc spec ≡ Ok (piece_text text piece)) in
    let here : Looks lookup doc.value spec.path (Ok (piece_text texts.value.now piece)) =
    subst (λ (b : List ℕ). Looks lookup b spec.path (Ok (piece_text texts.value.now piece))) t (subst (λ (b : List ℕ). Looks lookup texts.value.now b (Ok (piece_text texts.value.now piece))) p looks) in
    subst P (sym (value_text texts spec v)) (within, value_found doc spec lookup is v ∙ sym (looked_only lookup doc.value spec.path (Ok (piece_text texts.value.now piece)) here))
value_piece doc spec texts path (Err (refusals.Status s)) v p t found refused =
    let (lookup, is, looks) = refused s refl in
    let here : Looks lookup doc.value spec.path (Err s) =
    subst (λ (b : List ℕ). Looks lookup b spec.path (Err s)) t (subst (λ (b : List ℕ). Looks lookup texts.value.now b (Err s)) p looks) in
    value_found doc spec lookup is v ∙ sym (looked_only lookup doc.value spec.path (Err s) here)
value_piece doc spec texts path (Err refusals.NoMemory) v p t found refused = tt

-- ---- edits of specs

-- what an edit of the value comes to
value_made : (doc : Doc) (spec : Spec) (flags : ℕ) (edit : Edit) → edit_of spec.opcode ≡ Some edit → is_attribute spec ≡ false
    → edited_doc spec flags doc ≡ value_edited doc (edited edit (makes_several spec flags) doc.value spec.path spec.value)
value_made doc spec flags edit e v = rw (e, v) refl

-- what an edit of attributes comes to
attributes_made : (doc : Doc) (spec : Spec) (flags : ℕ) (edit : Edit) → edit_of spec.opcode ≡ Some edit → is_attribute spec ≡ true
    → edited_doc spec flags doc ≡ attributes_edited doc (edited_in edit (makes_several spec flags) (pairs_in doc.xattrs) spec.path spec.value)
attributes_made doc spec flags edit e v = rw (e, v) refl

-- an edit of a value that was made is that of the document
pub value_made_so : (doc : Doc) (spec : Spec) (flags path_flags : ℕ) (value path given : List ℕ) (e : Edited) → is_attribute spec ≡ false → makes_parents path_flags ≡ makes_several spec flags
    → value ≡ doc.value → path ≡ spec.path → given ≡ spec.value → Makes spec.opcode path_flags value path given e
    → (json_of e.text ≡ true) × (edited_doc spec flags doc ≡ Ok (record { doc = record doc { value = e.text }; number = e.number }))
value_made_so doc spec flags path_flags value path given e v f d p g (edit, is, edits) =
    let made : EditedText = record { text = e.text; number = e.number } in
    let a : Edits edit (makes_several spec flags) value path given (Ok made) = subst (λ (b : Bool). Edits edit b value path given (Ok made)) f edits in
    let b : Edits edit (makes_several spec flags) doc.value path given (Ok made) = subst (λ (x : List ℕ). Edits edit (makes_several spec flags) x path given (Ok made)) d a in
    let c : Edits edit (makes_several spec flags) doc.value spec.path given (Ok made) = subst (λ (x : List ℕ). Edits edit (makes_several spec flags) doc.value x given (Ok made)) p b in
    let done : Edits edit (makes_several spec flags) doc.value spec.path spec.value (Ok made) = subst (λ (x : List ℕ). Edits edit (makes_several spec flags) doc.value spec.path x (Ok made)) g c in (
      json_again edit (makes_several spec flags) doc.value spec.path spec.value made done,
      value_made doc spec flags edit is v ∙ ap (value_edited doc) (sym (edited_only edit (makes_several spec flags) doc.value spec.path spec.value (Ok made) done)),
    )

-- an edit of a value that was refused is refused for the document
pub value_refused_so : (doc : Doc) (spec : Spec) (flags path_flags : ℕ) (value path given : List ℕ) (s : Status) → is_attribute spec ≡ false → makes_parents path_flags ≡ makes_several spec flags
    → value ≡ doc.value → path ≡ spec.path → given ≡ spec.value → RefusesEdit spec.opcode path_flags value path given s → edited_doc spec flags doc ≡ Err s
value_refused_so doc spec flags path_flags value path given s v f d p g (edit, is, edits) =
    let a : Edits edit (makes_several spec flags) value path given (Err s) = subst (λ (b : Bool). Edits edit b value path given (Err s)) f edits in
    let b : Edits edit (makes_several spec flags) doc.value path given (Err s) = subst (λ (x : List ℕ). Edits edit (makes_several spec flags) x path given (Err s)) d a in
    let c : Edits edit (makes_several spec flags) doc.value spec.path given (Err s) = subst (λ (x : List ℕ). Edits edit (makes_several spec flags) doc.value x given (Err s)) p b in
    let done : Edits edit (makes_several spec flags) doc.value spec.path spec.value (Err s) = subst (λ (x : List ℕ). Edits edit (makes_several spec flags) doc.value spec.path x (Err s)) g c in
    value_made doc spec flags edit is v ∙ ap (value_edited doc) (sym (edited_only edit (makes_several spec flags) doc.value spec.path spec.value (Err s) done))

-- an edit of a value, as it was answered
pub value_makes : (spec : Spec) (flags path_flags : ℕ) (doc : Doc) (value path given : List ℕ) (r : Result Edited Refused) → is_attribute spec ≡ false → makes_parents path_flags ≡ makes_several spec flags
    → value ≡ doc.value → path ≡ spec.path → given ≡ spec.value → IfOk r (λ e. Makes spec.opcode path_flags value path given e)
    → ((s : Status) → r ≡ Err (refusals.Status s) → RefusesEdit spec.opcode path_flags value path given s) → MakesValue spec flags doc r
value_makes spec flags path_flags doc value path given (Ok e) v f d p g made refused = value_made_so doc spec flags path_flags value path given e v f d p g made
value_makes spec flags path_flags doc value path given (Err (refusals.Status s)) v f d p g made refused = value_refused_so doc spec flags path_flags value path given s v f d p g (refused s refl)
value_makes spec flags path_flags doc value path given (Err refusals.NoMemory) v f d p g made refused = tt

known : (opcode : ℕ) → IsSome (edit_of opcode) → (edit : Edit) × (edit_of opcode ≡ Some edit)
known opcode h = some_is (edit_of opcode) h
  where
    some_is : (o : Option Edit) → IsSome o → (edit : Edit) × (o ≡ Some edit)
    some_is (Some edit) h = (edit, refl)
    some_is None h = absurd (cc)

abbrev fine_doc : EditedDoc → Result EditedDoc Status
fine_doc d = Ok d

-- an edit of attributes, as it was answered
pub attributes_make : (spec : Spec) (flags : ℕ) (several : Bool) (doc : Doc) (section path given : List ℕ) (r : Result EditedSection Refused) → is_attribute spec ≡ true → IsSome (edit_of spec.opcode)
    → several ≡ makes_several spec flags → section ≡ doc.xattrs → path ≡ spec.path → given ≡ spec.value → EditsIn spec.opcode several section path given r → MakesAttributes spec flags doc r
attributes_make spec flags several doc section path given (Ok e) v k f d p g answers =
    let (edit, is) = known spec.opcode k in
    let made = answers edit is in
    attributes_made doc spec flags edit is v
    ∙ ap (attributes_edited doc) {y = Ok (record { pairs = made.pairs; number = e.number })} (rw (sym f, sym d, sym p, sym g) made.edited)
    ∙ ap (λ (b : List ℕ). fine_doc (record { doc = record doc { xattrs = b }; number = e.number })) {y = e.section} (sym made.section_is)
attributes_make spec flags several doc section path given (Err (refusals.Status s)) v k f d p g answers =
    let (edit, is) = known spec.opcode k in
    attributes_made doc spec flags edit is v ∙ ap (attributes_edited doc) {y = Err s} (rw (sym f, sym d, sym p, sym g) (answers edit is))
attributes_make spec flags several doc section path given (Err refusals.NoMemory) v k f d p g answers = tt
