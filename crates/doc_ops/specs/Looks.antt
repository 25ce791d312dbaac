-- What looking at parts of a document came to.
use Rattle.std.specs.Prelude.{◌≡◌, ℕ, ◌≤◌, ◌<◌, Bool, true, false, length, List, Result, Ok, Err, if◌then◌else◌}
use Rattle.doc_model.specs.declared.document.Doc.{Doc}
use Rattle.doc_model.specs.declared.status.Status.{Status}
use Rattle.doc_model.specs.declared.status.TheConstants.Status as status
use Rattle.doc_model.specs.declared.status.Refused.{Refused}
use Rattle.doc_model.specs.declared.status.Refused.TheVariants as refusals
use Rattle.subdoc_edit.specs.declared.looking.Piece.{Piece}
use Rattle.subdoc_edit.specs.Looking.{IsWithin, piece_text}
use Rattle.subdoc_edit.specs.Judging.{IsJudged}
use Rattle.subdoc_edit.specs.Telling.{Told}
use Rattle.xattr_body.specs.Pairs.{pairs_in}
use Rattle.xattr_step.specs.Object.{object_text}
use Rattle.kv_request.specs.declared.reading.TheConstants.{VALUE_LIMIT}
use Rattle.kv_request.specs.declared.request.Spec.{Spec}
use Rattle.kv_request.specs.Parts.{is_attribute}
use Rattle.doc_step.specs.Parts.{found_in, look_results, all_found}
use Rattle.doc_ops.specs.declared.looks.Texts.{Texts}
use Rattle.doc_ops.specs.declared.looks.Results.{Results}

-- a step was answered, unless memory was refused
abbrev pub Answers : {A : Type 0} → Result A Status → Result A Refused → Type 0
Answers step (Ok x) = step ≡ Ok x
Answers step (Err (refusals.Status s)) = step ≡ Err s
Answers step (Err refusals.NoMemory) = Unit {0}

-- the texts of a document are there and judged, each where it is asked for
pub record Hold (doc : Doc) (attributes value : Bool) (texts : Texts) : Type 0 where
  pub of_value : value ≡ true → (texts.value.now ≡ doc.value) × IsJudged texts.value.now texts.judged
  pub of_attributes : attributes ≡ true → (texts.object ≡ object_text (pairs_in doc.xattrs)) × IsJudged texts.object texts.object_judged

-- the texts of a document serve a look-up of this spec: the one that it looks into is there and judged
pub record Serve (doc : Doc) (texts : Texts) (spec : Spec) : Type 0 where
  pub value : is_attribute spec ≡ false → (texts.value.now ≡ doc.value) × IsJudged texts.value.now texts.judged
  pub object : is_attribute spec ≡ true → (texts.object ≡ object_text (pairs_in doc.xattrs)) × IsJudged texts.object texts.object_judged

-- the text that a look-up of this spec looks into
abbrev pub text_for : Texts → Spec → List ℕ
text_for texts spec = if is_attribute spec then texts.object else texts.value.now

-- a piece of a text is what a look-up finds in a document, or the status is its refusal
abbrev pub FindsPiece : Doc → Spec → List ℕ → Result Piece Refused → Type 0
FindsPiece doc spec text = Told (λ piece. IsWithin text piece × (found_in doc spec ≡ Ok (piece_text text piece))) (λ s. found_in doc spec ≡ Err s)

-- the results of look-ups, and whether each found something, unless they pass the limit
abbrev pub AreResults : Doc → List Spec → Result Results Refused → Type 0
AreResults doc specs =
    Told (λ r. (r.bytes ≡ look_results doc specs) × (r.all ≡ all_found doc specs) × (length r.bytes ≤ VALUE_LIMIT))
    (λ s. (s ≡ status.E2BIG) × (VALUE_LIMIT < length (look_results doc specs)))
