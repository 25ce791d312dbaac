-- Look-ups and edits of parts of a document: of its value, and of its extended attributes.
use Rattle.std.specs.Prelude.{ℕ, suc, nat_eq, nat_lt, Bool, true, not, ◌||◌, unwrap_or, List, [], ◌∷◌, ◌++◌, length, find, is_ok, codes, Option, None, Some, Result, Ok, Err, ℤ, if◌then◌else◌}
use Rattle.std.specs.List.{flat_map, list_all}
use Rattle.std.specs.Option.{option_map_or}
use Rattle.std.specs.Int.{w16, w32, to_be_bytes}
use Rattle.std.specs.Fmt.{signed_decimal}
use Rattle.doc_model.specs.declared.document.Doc.{Doc}
use Rattle.doc_model.specs.declared.status.Status.{Status}
use Rattle.doc_model.specs.declared.status.TheConstants.Status as status
use Rattle.json_model.specs.declared.asked.Lookup.{Lookup}
use Rattle.json_model.specs.declared.asked.Edit.{Edit}
use Rattle.json_model.specs.Edit.{lookup_of, edit_of, makes_parents}
use Rattle.json_model.specs.Order.{EditedText}
use Rattle.subdoc_step.specs.Answers.{◌>>=◌, looked_up, edited}
use Rattle.xattr_body.specs.Section.{section_of}
use Rattle.xattr_body.specs.Pairs.{pairs_in}
use Rattle.xattr_step.specs.Answers.{looked_up_in, EditedPairs, edited_in}
use Rattle.kv_request.specs.declared.reading.TheConstants.{VALUE_LIMIT}
use Rattle.kv_request.specs.declared.parts.TheConstants.{ADDS_DOCUMENT}
use Rattle.kv_request.specs.declared.request.Spec.{Spec}
use Rattle.kv_request.specs.declared.request.Request.{Request}
use Rattle.kv_request.specs.declared.reply.Reply.{Reply}
use Rattle.kv_request.specs.Parts.{is_attribute}
use Rattle.doc_step.specs.declared.Effect.TheVariants as effects
use Rattle.doc_step.specs.declared.Change.{Change}
use Rattle.doc_step.specs.Expiry.{Setting, expiry_of}
use Rattle.doc_step.specs.Replies.{changed, changing, storing}

-- ---- look-ups

-- what a look-up of a spec finds in a document: in its attributes where its flags say so, else in its value
abbrev pub found_by : Spec → Doc → Lookup → Result (List ℕ) Status
found_by spec doc lookup =
    if is_attribute spec then looked_up_in lookup (pairs_in doc.xattrs) spec.path
    else looked_up lookup doc.value spec.path

abbrev pub found_in : Doc → Spec → Result (List ℕ) Status
found_in doc spec = option_map_or (found_by spec doc) (lookup_of spec.opcode) (Err status.UNKNOWN_COMMAND)

-- the reply to a look-up, with what was found and the document's CAS
abbrev pub look_answered : Request → Doc → Result (List ℕ) Status → Result Change Status
look_answered request doc (Ok found) = Ok (record { effect = effects.Nothing; reply = changing request doc.cas found })
look_answered request doc (Err refusing) = Err refusing

-- a look at a part of the document
abbrev pub look_step : Request → Spec → Option Doc → Result Change Status
look_step request spec None = Err status.KEY_ENOENT
look_step request spec (Some doc) = look_answered request doc (found_in doc spec)

-- ---- several look-ups

-- the reply to a request of which a part failed: what it tells of its parts, and no CAS
abbrev pub part_failed : Request → List ℕ → Reply
part_failed request value = record (changing request 0 value) { status = status.MULTI_PATH_FAILURE }

-- the result of a look-up: its status in two bytes, the length of what was found in four, and what was found
abbrev pub look_result : Result (List ℕ) Status → List ℕ
look_result (Ok found) = to_be_bytes w16 status.SUCCESS.code ++ (to_be_bytes w32 (length found) ++ found)
look_result (Err refusing) = to_be_bytes w16 refusing.code ++ to_be_bytes w32 0

-- the results of look-ups, each in its place whatever becomes of the others
abbrev pub look_results : Doc → List Spec → List ℕ
look_results doc specs = flat_map (λ spec. look_result (found_in doc spec)) specs

-- whether each look-up found something
abbrev pub all_found : Doc → List Spec → Bool
all_found doc specs = list_all (λ spec. is_ok (found_in doc spec)) specs

-- the reply to several look-ups
abbrev pub looks_reply : Request → Doc → List Spec → Reply
looks_reply request doc specs =
    if all_found doc specs then changing request doc.cas (look_results doc specs) else part_failed request (look_results doc specs)

-- a look at several parts of the document; more than a value may have isn't sent
abbrev pub multi_look_step : Request → List Spec → Option Doc → Result Change Status
multi_look_step request specs None = Err status.KEY_ENOENT
multi_look_step request specs (Some doc) =
    if nat_lt VALUE_LIMIT (length (look_results doc specs)) then Err status.E2BIG
    else Ok (record { effect = effects.Nothing; reply = looks_reply request doc specs })

-- ---- the document that is edited

-- the text that an edit of this path begins with: an array where the path asks for one first, else an object
abbrev pub first_text : List ℕ → List ℕ
first_text [] = codes "[]"
first_text (byte ∷ path) = if nat_eq byte 0x5b then codes "[]" else codes "{}"

-- the value that edits begin with where no document is there: the one that the first of them on the value asks for, and an
-- object where none is on the value
abbrev pub begun_value : List Spec → List ℕ
begun_value specs = option_map_or (λ spec. first_text spec.path) (find (λ spec. not (is_attribute spec)) specs) (codes "{}")

-- the document that edits begin with where none is there; without an expiry of the request it has none of its own
abbrev pub begun_doc : Setting → Option ℕ → List Spec → Doc
begun_doc s expiry specs = record { value = begun_value specs; xattrs = []; flags = 0; expiry = expiry_of s (unwrap_or expiry 0); cas = s.draw; seqno = 0; json = true }

-- a document that is there, with the request's expiry where it gives one
abbrev pub with_expiry : Setting → Option ℕ → Doc → Doc
with_expiry s None doc = doc
with_expiry s (Some expiry) doc = record doc { expiry = expiry_of s expiry }

-- the document that is edited, or why none is: where none is there one is begun if the request's flags ask for that, and
-- where one is there they may ask that none be
abbrev pub doc_to_edit : Setting → Option ℕ → ℕ → List Spec → Option Doc → Result Doc Status
doc_to_edit s expiry flags specs None = if nat_eq flags 0 then Err status.KEY_ENOENT else Ok (begun_doc s expiry specs)
doc_to_edit s expiry flags specs (Some doc) = if nat_eq flags ADDS_DOCUMENT then Err status.KEY_EEXISTS else Ok (with_expiry s expiry doc)

-- ---- an edit

-- whether several parts of a path may be absent: where its flags say so, or where the document may be
abbrev pub makes_several : Spec → ℕ → Bool
makes_several spec flags = makes_parents spec.flags || not (nat_eq flags 0)

-- an edited document, with the number that a counter has come to
pub record EditedDoc : Type 0 where
  pub doc : Doc
  pub number : Option ℤ

-- a document with an edited value, or with edited attributes
abbrev pub value_edited : Doc → Result EditedText Status → Result EditedDoc Status
value_edited doc (Ok made) = Ok (record { doc = record doc { value = made.text }; number = made.number })
value_edited doc (Err refusing) = Err refusing

abbrev pub attributes_edited : Doc → Result EditedPairs Status → Result EditedDoc Status
attributes_edited doc (Ok made) = Ok (record { doc = record doc { xattrs = section_of made.pairs }; number = made.number })
attributes_edited doc (Err refusing) = Err refusing

-- what the edit of a spec makes of a document: of its attributes where the spec's flags say so, else of its value
abbrev pub edited_by : Spec → ℕ → Doc → Edit → Result EditedDoc Status
edited_by spec flags doc edit =
    if is_attribute spec
    then attributes_edited doc (edited_in edit (makes_several spec flags) (pairs_in doc.xattrs) spec.path spec.value)
    else value_edited doc (edited edit (makes_several spec flags) doc.value spec.path spec.value)

abbrev pub edited_doc : Spec → ℕ → Doc → Result EditedDoc Status
edited_doc spec flags doc = option_map_or (edited_by spec flags doc) (edit_of spec.opcode) (Err status.UNKNOWN_COMMAND)

-- the text of the number that a counter has come to; other edits come to none
abbrev pub number_text : Option ℤ → List ℕ
number_text None = []
number_text (Some number) = signed_decimal number

-- an edit of a part of the document, whose reply has a counter's number
abbrev pub edit_step : Setting → Request → Spec → Option ℕ → ℕ → Option Doc → Result Change Status
edit_step s request spec expiry flags doc = do
  begun ← doc_to_edit s expiry flags (spec ∷ []) doc
  made ← edited_doc spec flags begun
  storing request (changed s made.doc) (number_text made.number)

-- ---- several edits

-- the result of an edit: where it comes to a number, its place in one byte, its status in two, the length of the number's
-- text in four, and that text
abbrev pub edit_result : ℕ → Option ℤ → List ℕ
edit_result place None = []
edit_result place (Some number) =
    place ∷ (to_be_bytes w16 status.SUCCESS.code ++ (to_be_bytes w32 (length (signed_decimal number)) ++ signed_decimal number))

-- What edits come to, each made of what those before it left: the last document with the results, or the place, from 0 on, and
-- the status of the first that is refused.
pub data Folded : Type 0 where
  all_made : Doc → List ℕ → Folded
  refused_at : ℕ → Status → Folded

-- one more edit, and then the others
abbrev pub and_then : ℕ → List ℕ → Result EditedDoc Status → (Doc → List ℕ → Folded) → Folded
and_then place results (Ok made) rest = rest made.doc (results ++ edit_result place made.number)
and_then place results (Err refusing) rest = refused_at place refusing

-- edits from this place on, where those before it left this document and these results
unfoldable pub edits_from : ℕ → ℕ → Doc → List ℕ → List Spec → Folded
edits_from flags place doc results [] = all_made doc results
edits_from flags place doc results (spec ∷ specs) =
    and_then place results (edited_doc spec flags doc) (λ made told. edits_from flags (suc place) made told specs)

-- the last document is stored; where an edit is refused nothing is, and the reply has its place and its status
abbrev pub edits_answered : Setting → Request → Folded → Result Change Status
edits_answered s request (all_made doc results) = storing request (changed s doc) results
edits_answered s request (refused_at place refusing) =
    Ok (record { effect = effects.Nothing; reply = part_failed request (place ∷ to_be_bytes w16 refusing.code) })

-- edits of several parts of the document: all of them, or none
abbrev pub multi_edit_step : Setting → Request → List Spec → Option ℕ → ℕ → Option Doc → Result Change Status
multi_edit_step s request specs expiry flags doc = do
  begun ← doc_to_edit s expiry flags specs doc
  edits_answered s request (edits_from flags 0 begun [] specs)
