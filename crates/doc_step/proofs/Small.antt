-- What a request does to a small document is small, and its reply has a frame.
use Rattle.std.specs.Prelude.{◌≡◌, ℕ, suc, ◌+◌, ◌*◌, ◌^◌, ◌<◌, ◌≤◌, nat_eq, nat_lt, Bool, true, false, not, find, codes, List, [], ◌∷◌, ◌++◌, length, Option, Some, None, Result, Ok, Err, if◌then◌else◌, ℤ, refl}
use Rattle.std.specs.Int.{w16, w64, to_be_bytes}
use Rattle.std.specs.Option.{option_map_or, IfSome}
use Rattle.std.specs.Fmt.{decimal}
use Rattle.std.proofs.Common.{subst, arith}
use Rattle.std.proofs.lemmas.List.{length-append}
use Rattle.std.proofs.lemmas.Bool.Decides.{nat_tests}
use Rattle.doc_model.specs.declared.key.DocKey.{DocKey}
use Rattle.doc_model.specs.declared.document.Doc.{Doc}
use Rattle.doc_model.specs.declared.status.Status.{Status}
use Rattle.doc_model.specs.declared.status.TheConstants.Status as status
use Rattle.kv_request.specs.declared.reading.TheConstants.{KEY_LIMIT, OTHER_KEY_LIMIT, VALUE_LIMIT}
use Rattle.json_model.specs.declared.asked.Lookup.{Lookup}
use Rattle.json_model.specs.declared.asked.Edit.{Edit}
use Rattle.json_model.specs.Edit.{lookup_of, edit_of}
use Rattle.json_model.specs.Order.{EditedText}
use Rattle.subdoc_step.specs.Answers.{◌>>=◌, looked_up, edited}
use Rattle.xattr_body.specs.declared.TheConstants.{SECTION_LIMIT}
use Rattle.xattr_body.specs.Pairs.{pairs_in}
use Rattle.xattr_step.specs.Answers.{looked_up_in, EditedPairs, edited_in}
use Rattle.xattr_step.proofs.Sizes.{object_short, looked_short, edit_short}
use Rattle.kv_request.specs.declared.request.Spec.{Spec}
use Rattle.kv_request.specs.declared.request.Request.{Request}
use Rattle.kv_request.specs.declared.request.Body.{Body}
use Rattle.kv_request.specs.declared.request.Body.TheVariants as bodies
use Rattle.kv_request.specs.declared.request.Mode.{Mode}
use Rattle.kv_request.specs.declared.request.Mode.TheVariants as modes
use Rattle.kv_request.specs.Opcodes.{command_of, tells_key}
use Rattle.kv_request.specs.declared.reply.Reply.{Reply}
use Rattle.kv_request.specs.declared.parts.TheConstants.{ADDS_DOCUMENT}
use Rattle.kv_request.specs.declared.multi.TheConstants.{MOST_SPECS}
use Rattle.kv_request.specs.Parts.{is_attribute}
use Rattle.kv_request.specs.Tables.{IsSmallReply, IsSmallRequest, IsSmallKey, key_named, name_length, value_brought, specs_brought}
use Rattle.doc_step.specs.declared.TheConstants.{NO_INITIAL}
use Rattle.doc_step.specs.declared.Change.{Change}
use Rattle.doc_step.specs.Expiry.{Setting, there, is_expired}
use Rattle.doc_step.specs.Counter.{number_of, moved}
use Rattle.doc_step.specs.declared.Effect.TheVariants as effects
use Rattle.doc_step.specs.Replies.{changed, with_value, changing, carrying, storing}
use Rattle.doc_step.specs.Parts.{found_by, found_in, look_answered, look_step, part_failed, look_results, all_found, looks_reply, multi_look_step, first_text, begun_doc, with_expiry, doc_to_edit, makes_several, EditedDoc, value_edited, attributes_edited, edited_by, edited_doc, number_text, edit_step, edit_result, Folded, all_made, refused_at, and_then, edits_from, edits_answered, multi_edit_step}
use Rattle.doc_step.specs.Step.{cas_refusal, kept_xattrs, get_step, stored_doc, store_step, delete_step, new_counter, count_step, joined_value, join_step, touched_doc, touched_reply, touch_step, operation, document_step}
use Rattle.doc_step.specs.Laws.{IsSmallDoc, IsSmallChange, HasSmallInitial}
use Rattle.subdoc_step.proofs.Numbers.{number_bytes, edited_short}
use Rattle.subdoc_step.proofs.Within.{found_within}
use Rattle.doc_step.proofs.Counting.{decimal_short, number_small, moved_small}

-- the result of a step, where it isn't a refusal
abbrev IsSmallResult : Result Change Status → Type 0
IsSmallResult (Ok change) = IsSmallChange change
IsSmallResult (Err refusing) = Unit {0}

-- ---- replies

told_short : (b : Bool) (key : DocKey) → length key.key ≤ KEY_LIMIT → name_length (if b then Some key else None) ≤ KEY_LIMIT
told_short true key h = h
told_short false key h = omega arith

carrying_small : (request : Request) (key : DocKey) (doc : Doc) → IsSmallRequest request → length key.key ≤ KEY_LIMIT → IsSmallDoc doc → IsSmallReply (carrying request key doc)
carrying_small request key doc r k d = record {
  opcode = r.opcode;
  status = omega arith;
  opaque = r.opaque;
  cas = d.cas;
  extras = omega arith;
  key = omega (arith, told_short (option_map_or tells_key (command_of request.opcode) false) key k);
  value = omega (arith, d.value);
}

changing_small : (request : Request) (cas : ℕ) (value : List ℕ) → IsSmallRequest request → cas < 2 ^ 64 → length value ≤ VALUE_LIMIT + 100 → IsSmallReply (changing request cas value)
changing_small request cas value r h v = record {
  opcode = r.opcode;
  status = omega arith;
  opaque = r.opaque;
  cas = h;
  extras = omega arith;
  key = omega arith;
  value = omega (arith, v);
}

-- ---- operations

storing_small : (request : Request) (doc : Doc) (value : List ℕ) → IsSmallRequest request → IsSmallDoc doc → length value ≤ VALUE_LIMIT + 100 → IsSmallResult (storing request doc value)
storing_small request doc value r d v = record { reply = changing_small request doc.cas value r d.cas v; effect = d }

get_small : (request : Request) (key : DocKey) (doc : Option Doc) → IsSmallRequest request → length key.key ≤ KEY_LIMIT → IfSome doc IsSmallDoc → IsSmallResult (get_step request key doc)
get_small request key None r k d = tt
get_small request key (Some doc) r k d = record { reply = carrying_small request key doc r k d; effect = tt }

store_small : (s : Setting) (request : Request) (mode : Mode) (doc : Option Doc) (stored : Doc) → IsSmallRequest request → IsSmallDoc stored → IsSmallResult (store_step s request mode doc stored)
store_small s request modes.Set doc stored r d = storing_small request stored [] r d (omega arith)
store_small s request modes.Add None stored r d = storing_small request stored [] r d (omega arith)
store_small s request modes.Add (Some doc) stored r d = tt
store_small s request modes.Replace None stored r d = tt
store_small s request modes.Replace (Some doc) stored r d = storing_small request stored [] r d (omega arith)

delete_small : (s : Setting) (request : Request) (doc : Option Doc) → IsSmallRequest request → s.draw < 2 ^ 64 → IsSmallResult (delete_step s request doc)
delete_small s request None r h = tt
delete_small s request (Some doc) r h = record { reply = changing_small request s.draw [] r h (omega arith); effect = tt }

-- either result
either_small : (b : Bool) (x y : Result Change Status) → IsSmallResult x → (b ≡ false → IsSmallResult y) → IsSmallResult (if b then x else y)
either_small true x y h k = h
either_small false x y h k = k refl

moved_to : (s : Setting) (request : Request) (n : ℕ) (doc : Doc) → IsSmallRequest request → IsSmallDoc doc → s.draw < 2 ^ 64 → n < 2 ^ 64 → IsSmallResult (storing request (with_value s doc (decimal n)) (to_be_bytes w64 n))
moved_to s request n doc r d h b = storing_small request (with_value s doc (decimal n)) (to_be_bytes w64 n) r (record { value = omega (arith, decimal_short n b); xattrs = d.xattrs; cas = h }) (omega arith)

counted_small : (s : Setting) (request : Request) (up : Bool) (delta : ℕ) (doc : Doc) (number : Option ℕ) → IsSmallRequest request → IsSmallDoc doc → s.draw < 2 ^ 64 → IfSome number (λ n. n < 2 ^ 64)
    → IsSmallResult (option_map_or {U = Result Change Status} (λ n. storing request (with_value s doc (decimal (moved up n delta))) (to_be_bytes w64 (moved up n delta))) number (Err status.DELTA_BADVAL))
counted_small s request up delta doc None r d h n = tt
counted_small s request up delta doc (Some number) r d h n = moved_to s request (moved up number delta) doc r d h (moved_small up number delta n)

count_small : (s : Setting) (request : Request) (up : Bool) (delta initial expiry : ℕ) (doc : Option Doc) → IsSmallRequest request → IfSome doc IsSmallDoc → s.draw < 2 ^ 64 → initial < 2 ^ 64 → IsSmallResult (count_step s request up delta initial expiry doc)
count_small s request up delta initial expiry None r d h n =
    either_small (nat_eq expiry NO_INITIAL) (Err status.KEY_ENOENT) (storing request (new_counter s initial expiry) (to_be_bytes w64 initial)) tt
    (λ e. storing_small request (new_counter s initial expiry) (to_be_bytes w64 initial) r (record { value = omega (arith, decimal_short initial n); xattrs = omega arith; cas = h }) (omega arith))
count_small s request up delta initial expiry (Some doc) r d h n = counted_small s request up delta doc (number_of doc.value) r d h (number_small doc.value)

joined_long : (front : Bool) (old value : List ℕ) → length (joined_value front old value) ≡ length old + length value
joined_long true old value = omega (arith, length-append value old)
joined_long false old value = omega (arith, length-append old value)

join_small : (s : Setting) (request : Request) (front : Bool) (value : List ℕ) (doc : Option Doc) → IsSmallRequest request → IfSome doc IsSmallDoc → s.draw < 2 ^ 64 → IsSmallResult (join_step s request front value doc)
join_small s request front value None r d h = tt
join_small s request front value (Some doc) r d h =
    either_small (nat_lt VALUE_LIMIT (length doc.value + length value)) (Err status.E2BIG) (storing request (with_value s doc (joined_value front doc.value value)) []) tt
    (λ e. let within : length doc.value + length value ≤ VALUE_LIMIT = grind (arith, nat_tests) in
    storing_small request (with_value s doc (joined_value front doc.value value)) [] r (record { value = omega (arith, within, joined_long front doc.value value); xattrs = d.xattrs; cas = h }) (omega arith))

touched_small : (fetch : Bool) (request : Request) (key : DocKey) (doc : Doc) → IsSmallRequest request → length key.key ≤ KEY_LIMIT → IsSmallDoc doc → IsSmallReply (touched_reply fetch request key doc)
touched_small true request key doc r k d = carrying_small request key doc r k d
touched_small false request key doc r k d = changing_small request doc.cas [] r d.cas (omega arith)

touch_small : (s : Setting) (request : Request) (key : DocKey) (expiry : ℕ) (fetch : Bool) (doc : Option Doc) → IsSmallRequest request → length key.key ≤ KEY_LIMIT → s.draw < 2 ^ 64 → IfSome doc IsSmallDoc → IsSmallResult (touch_step s request key expiry fetch doc)
touch_small s request key expiry fetch None r k h d = tt
touch_small s request key expiry fetch (Some doc) r k h d =
    let small : IsSmallDoc (touched_doc s doc expiry) = record { value = d.value; xattrs = d.xattrs; cas = h } in
    record { reply = touched_small fetch request key (touched_doc s doc expiry) r k small; effect = small }

-- ---- parts of documents

-- a step that may refuse, and then another
bound_small : {A : Type 0} (r : Result A Status) (next : A → Result Change Status) → ((x : A) → r ≡ Ok x → IsSmallResult (next x)) → IsSmallResult (r >>= next)
bound_small (Ok x) next h = h x refl
bound_small (Err refusing) next h = tt

-- what a look-up finds is no longer than the document's greatest part, and a number's digits
abbrev IsFoundShort : Result (List ℕ) Status → Type 0
IsFoundShort (Ok found) = length found ≤ VALUE_LIMIT + 100
IsFoundShort (Err refusing) = Unit {0}

value_short : (lookup : Lookup) (doc : Doc) (path : List ℕ) (found : Result (List ℕ) Status) → IsSmallDoc doc → looked_up lookup doc.value path ≡ found → IsFoundShort found
value_short lookup doc path (Ok found) d e = omega (arith, found_within lookup doc.value path found e, d.value)
value_short lookup doc path (Err refusing) d e = tt

attributes_short : (lookup : Lookup) (doc : Doc) (path : List ℕ) (found : Result (List ℕ) Status) → IsSmallDoc doc → looked_up_in lookup (pairs_in doc.xattrs) path ≡ found → IsFoundShort found
attributes_short lookup doc path (Ok found) d e =
    omega (arith, looked_short lookup (pairs_in doc.xattrs) path found e, object_short doc.xattrs, d.xattrs)
attributes_short lookup doc path (Err refusing) d e = tt

found_short : (b : Bool) (x y : Result (List ℕ) Status) → IsFoundShort x → IsFoundShort y → IsFoundShort (if b then x else y)
found_short true x y h k = h
found_short false x y h k = k

spec_short : (spec : Spec) (doc : Doc) (lookup : Option Lookup) → IsSmallDoc doc → IsFoundShort (option_map_or {U = Result (List ℕ) Status} (found_by spec doc) lookup (Err status.UNKNOWN_COMMAND))
spec_short spec doc None d = tt
spec_short spec doc (Some lookup) d =
    found_short (is_attribute spec) (looked_up_in lookup (pairs_in doc.xattrs) spec.path) (looked_up lookup doc.value spec.path)
    (attributes_short lookup doc spec.path (looked_up_in lookup (pairs_in doc.xattrs) spec.path) d refl)
    (value_short lookup doc spec.path (looked_up lookup doc.value spec.path) d refl)

looked_small : (request : Request) (doc : Doc) (found : Result (List ℕ) Status) → IsSmallRequest request → IsSmallDoc doc → IsFoundShort found → IsSmallResult (look_answered request doc found)
looked_small request doc (Ok piece) r d h = record { reply = changing_small request doc.cas piece r d.cas h; effect = tt }
looked_small request doc (Err refusing) r d h = tt

look_small : (request : Request) (spec : Spec) (doc : Option Doc) → IsSmallRequest request → IfSome doc IsSmallDoc → IsSmallResult (look_step request spec doc)
look_small request spec None r d = tt
look_small request spec (Some doc) r d = looked_small request doc (found_in doc spec) r d (spec_short spec doc (lookup_of spec.opcode) d)

-- the reply to a request of which a part failed is small where what it tells is
part_failed_small : (request : Request) (value : List ℕ) → IsSmallRequest request → length value ≤ VALUE_LIMIT + 100 → IsSmallReply (part_failed request value)
part_failed_small request value r v = record {
  opcode = r.opcode;
  status = omega arith;
  opaque = r.opaque;
  cas = omega arith;
  extras = omega arith;
  key = omega arith;
  value = omega (arith, v);
}

either_reply : (b : Bool) (x y : Reply) → IsSmallReply x → IsSmallReply y → IsSmallReply (if b then x else y)
either_reply true x y h k = h
either_reply false x y h k = k

multi_look_small : (request : Request) (specs : List Spec) (doc : Option Doc) → IsSmallRequest request → IfSome doc IsSmallDoc → IsSmallResult (multi_look_step request specs doc)
multi_look_small request specs None r d = tt
multi_look_small request specs (Some doc) r d =
    either_small (nat_lt VALUE_LIMIT (length (look_results doc specs))) (Err status.E2BIG) (Ok (record { effect = effects.Nothing; reply = looks_reply request doc specs })) tt
    (λ e. let within : length (look_results doc specs) ≤ VALUE_LIMIT = grind (arith, nat_tests) in
    record {
      reply = either_reply (all_found doc specs) (changing request doc.cas (look_results doc specs)) (part_failed request (look_results doc specs))
          (changing_small request doc.cas (look_results doc specs) r d.cas (omega (arith, within)))
          (part_failed_small request (look_results doc specs) r (omega (arith, within)));
      effect = tt;
    })

-- ---- edits

-- a document whose value and attributes are within their limits
record IsWithin (doc : Doc) : Type 0 where
  value : length doc.value ≤ VALUE_LIMIT
  xattrs : length doc.xattrs ≤ SECTION_LIMIT

text_within : (path : List ℕ) → length (first_text path) ≤ 2
text_within [] = omega arith
text_within (byte ∷ path) = either_short (nat_eq byte 0x5b) (codes "[]") (codes "{}") (omega arith) (omega arith)
  where
    either_short : (b : Bool) (x y : List ℕ) → length x ≤ 2 → length y ≤ 2 → length (if b then x else y) ≤ 2
    either_short true x y h k = h
    either_short false x y h k = k

begun_short : (spec : Option Spec) → length (option_map_or {U = List ℕ} (λ spec. first_text spec.path) spec (codes "{}")) ≤ 2
begun_short None = omega arith
begun_short (Some spec) = text_within spec.path

-- a document to edit is within the limits
abbrev IsEdited : Result Doc Status → Type 0
IsEdited (Ok doc) = IsWithin doc
IsEdited (Err refusing) = Unit {0}

either_edited : (b : Bool) (refusing : Status) (doc : Doc) → IsWithin doc → IsEdited (if b then Err refusing else Ok doc)
either_edited true refusing doc h = tt
either_edited false refusing doc h = h

expiry_within : (s : Setting) (expiry : Option ℕ) (doc : Doc) → IsSmallDoc doc → IsWithin (with_expiry s expiry doc)
expiry_within s None doc d = record { value = d.value; xattrs = d.xattrs }
expiry_within s (Some expiry) doc d = record { value = d.value; xattrs = d.xattrs }

to_edit : (s : Setting) (expiry : Option ℕ) (flags : ℕ) (specs : List Spec) (doc : Option Doc) → IfSome doc IsSmallDoc → IsEdited (doc_to_edit s expiry flags specs doc)
to_edit s expiry flags specs None d =
    either_edited (nat_eq flags 0) status.KEY_ENOENT (begun_doc s expiry specs)
    (record { value = omega (arith, begun_short (find (λ spec. not (is_attribute spec)) specs)); xattrs = omega arith })
to_edit s expiry flags specs (Some doc) d = either_edited (nat_eq flags ADDS_DOCUMENT) status.KEY_EEXISTS (with_expiry s expiry doc) (expiry_within s expiry doc d)

to_edit_ok : (s : Setting) (expiry : Option ℕ) (flags : ℕ) (specs : List Spec) (doc : Option Doc) (begun : Doc) → IfSome doc IsSmallDoc → doc_to_edit s expiry flags specs doc ≡ Ok begun → IsWithin begun
to_edit_ok s expiry flags specs doc begun d e = let P : Result Doc Status → Type 0 = λ r. IsEdited r in subst P e (to_edit s expiry flags specs doc d)

-- an edited document is within the limits, and the number's text is short
record IsMade (made : EditedDoc) : Type 0 where
  doc : IsWithin made.doc
  number : length (number_text made.number) ≤ 21

abbrev AreMade : Result EditedDoc Status → Type 0
AreMade (Ok made) = IsMade made
AreMade (Err refusing) = Unit {0}

number_same : (n : Option ℤ) → length (number_bytes n) ≤ 21 → length (number_text n) ≤ 21
number_same None h = h
number_same (Some n) h = h

value_made : (edit : Edit) (several : Bool) (path value : List ℕ) (doc : Doc) (made : Result EditedText Status) → IsWithin doc → edited edit several doc.value path value ≡ made → AreMade (value_edited doc made)
value_made edit several path value doc (Ok made) d e =
    let short = edited_short edit several doc.value path value made e in
    record { doc = record { value = omega (arith, short.text); xattrs = d.xattrs }; number = number_same made.number short.number }
value_made edit several path value doc (Err refusing) d e = tt

attributes_made : (edit : Edit) (several : Bool) (path value : List ℕ) (doc : Doc) (made : Result EditedPairs Status) → IsWithin doc → edited_in edit several (pairs_in doc.xattrs) path value ≡ made → AreMade (attributes_edited doc made)
attributes_made edit several path value doc (Ok made) d e =
    let short = edit_short edit several (pairs_in doc.xattrs) path value made e in
    record { doc = record { value = d.value; xattrs = short.section }; number = number_same made.number short.number }
attributes_made edit several path value doc (Err refusing) d e = tt

either_made : (b : Bool) (x y : Result EditedDoc Status) → AreMade x → AreMade y → AreMade (if b then x else y)
either_made true x y h k = h
either_made false x y h k = k

spec_made : (spec : Spec) (flags : ℕ) (doc : Doc) (edit : Option Edit) → IsWithin doc → AreMade (option_map_or {U = Result EditedDoc Status} (edited_by spec flags doc) edit (Err status.UNKNOWN_COMMAND))
spec_made spec flags doc None d = tt
spec_made spec flags doc (Some edit) d =
    let several = makes_several spec flags in
    either_made (is_attribute spec) (attributes_edited doc (edited_in edit several (pairs_in doc.xattrs) spec.path spec.value)) (value_edited doc (edited edit several doc.value spec.path spec.value))
    (attributes_made edit several spec.path spec.value doc (edited_in edit several (pairs_in doc.xattrs) spec.path spec.value) d refl)
    (value_made edit several spec.path spec.value doc (edited edit several doc.value spec.path spec.value) d refl)

made_ok : (spec : Spec) (flags : ℕ) (doc : Doc) (made : EditedDoc) → IsWithin doc → edited_doc spec flags doc ≡ Ok made → IsMade made
made_ok spec flags doc made d e = let P : Result EditedDoc Status → Type 0 = λ r. AreMade r in subst P e (spec_made spec flags doc (edit_of spec.opcode) d)

edit_small : (s : Setting) (request : Request) (spec : Spec) (expiry : Option ℕ) (flags : ℕ) (doc : Option Doc) → IsSmallRequest request → s.draw < 2 ^ 64 → IfSome doc IsSmallDoc → IsSmallResult (edit_step s request spec expiry flags doc)
edit_small s request spec expiry flags doc r h d =
    bound_small (doc_to_edit s expiry flags (spec ∷ []) doc) _ (λ begun e.
    bound_small (edited_doc spec flags begun) _ (λ made f.
    let m = made_ok spec flags begun made (to_edit_ok s expiry flags (spec ∷ []) doc begun d e) f in
    storing_small request (changed s made.doc) (number_text made.number) r (record { value = m.doc.value; xattrs = m.doc.xattrs; cas = h }) (omega (arith, m.number))))

-- ---- several edits

result_short : (place : ℕ) (number : Option ℤ) → length (number_text number) ≤ 21 → length (edit_result place number) ≤ 28
result_short place None h = omega arith
result_short place (Some number) h = omega (arith, h)

-- the last document is within the limits, and each edit has told at most so many bytes
abbrev AreWithin : ℕ → Folded → Type 0
AreWithin most (all_made doc results) = IsWithin doc × (length results ≤ most)
AreWithin most (refused_at place refusing) = Unit {0}

go_on : (most place : ℕ) (results : List ℕ) (made : Result EditedDoc Status) (rest : Doc → List ℕ → Folded) → AreMade made → length results + 28 ≤ most
    → ((doc : Doc) (told : List ℕ) → IsWithin doc → length told ≤ length results + 28 → AreWithin most (rest doc told))
    → AreWithin most (and_then place results made rest)
go_on most place results (Ok made) rest m fits next =
    next made.doc (results ++ edit_result place made.number) m.doc (omega (arith, length-append results (edit_result place made.number), result_short place made.number m.number))
go_on most place results (Err refusing) rest m fits next = tt

from_within : (most flags place : ℕ) (doc : Doc) (results : List ℕ) (specs : List Spec) → IsWithin doc → length results + 28 * length specs ≤ most → AreWithin most (edits_from flags place doc results specs)
unfolding edits_from
from_within most flags place doc results [] d fits = (d, omega (arith, fits))
from_within most flags place doc results (spec ∷ specs) d fits =
    go_on most place results (edited_doc spec flags doc) (λ made told. edits_from flags (suc place) made told specs)
    (spec_made spec flags doc (edit_of spec.opcode) d) (omega (arith, fits))
    (λ made told w l. from_within most flags (suc place) made told specs w (omega (arith, fits, l)))

answered_small : (s : Setting) (request : Request) (edits : Folded) → IsSmallRequest request → s.draw < 2 ^ 64 → AreWithin 448 edits → IsSmallResult (edits_answered s request edits)
answered_small s request (all_made doc results) r h w =
    storing_small request (changed s doc) results r (record { value = w.0.value; xattrs = w.0.xattrs; cas = h }) (omega (arith, w.1))
answered_small s request (refused_at place refusing) r h w =
    record { reply = part_failed_small request (place ∷ to_be_bytes w16 refusing.code) r (omega arith); effect = tt }

multi_edit_small : (s : Setting) (request : Request) (specs : List Spec) (expiry : Option ℕ) (flags : ℕ) (doc : Option Doc) → IsSmallRequest request → s.draw < 2 ^ 64 → IfSome doc IsSmallDoc → length specs ≤ MOST_SPECS
    → IsSmallResult (multi_edit_step s request specs expiry flags doc)
multi_edit_small s request specs expiry flags doc r h d few =
    bound_small (doc_to_edit s expiry flags specs doc) _ (λ begun e.
    answered_small s request (edits_from flags 0 begun [] specs) r h
    (from_within 448 flags 0 begun [] specs (to_edit_ok s expiry flags specs doc begun d e) (omega (arith, few))))

-- ---- requests

-- what the operation of a request takes of it
record IsSmallBody (body : Body) : Type 0 where
  key : IfSome (key_named body) IsSmallKey
  value : length (value_brought body) ≤ VALUE_LIMIT
  specs : length (specs_brought body) ≤ MOST_SPECS
  initial : HasSmallInitial body

limit_short : (b : Bool) → (if b then KEY_LIMIT else OTHER_KEY_LIMIT) ≤ KEY_LIMIT
limit_short true = omega arith
limit_short false = omega arith

-- no name is longer than those of collection 0
name_short : (key : DocKey) → IsSmallKey key → length key.key ≤ KEY_LIMIT
name_short key h = omega (arith, h.within, limit_short (nat_eq key.collection 0))

kept_short : (doc : Option Doc) → IfSome doc IsSmallDoc → length (kept_xattrs doc) ≤ SECTION_LIMIT
kept_short None d = omega arith
kept_short (Some doc) d = d.xattrs

operation_small : (s : Setting) (request : Request) (body : Body) (doc : Option Doc) → s.draw < 2 ^ 64 → IsSmallRequest request → IsSmallBody body → IfSome doc IsSmallDoc → IsSmallResult (operation s request body doc)
operation_small s request (bodies.Hello wanted) doc h r b d = tt
operation_small s request bodies.Noop doc h r b d = tt
operation_small s request bodies.Version doc h r b d = tt
operation_small s request bodies.Quit doc h r b d = tt
operation_small s request (bodies.SetManifest text) doc h r b d = tt
operation_small s request bodies.GetManifest doc h r b d = tt
operation_small s request (bodies.CollectionId path) doc h r b d = tt
operation_small s request (bodies.ScopeId path) doc h r b d = tt
operation_small s request (bodies.Get key) doc h r b d = get_small request key doc r (name_short key b.key) d
operation_small s request (bodies.Store key mode flags expiry value) doc h r b d = store_small s request mode doc (stored_doc s flags expiry value doc) r (record { value = b.value; xattrs = kept_short doc d; cas = h })
operation_small s request (bodies.Delete key) doc h r b d = delete_small s request doc r h
operation_small s request (bodies.Count key up delta initial expiry) doc h r b d = count_small s request up delta initial expiry doc r d h b.initial
operation_small s request (bodies.Join key front value) doc h r b d = join_small s request front value doc r d h
operation_small s request (bodies.Touch key expiry fetch) doc h r b d = touch_small s request key expiry fetch doc r (name_short key b.key) h d
operation_small s request (bodies.Look key spec) doc h r b d = look_small request spec doc r d
operation_small s request (bodies.Edit key spec expiry flags) doc h r b d = edit_small s request spec expiry flags doc r h d
operation_small s request (bodies.MultiLook key specs) doc h r b d = multi_look_small request specs doc r d
operation_small s request (bodies.MultiEdit key specs expiry flags) doc h r b d = multi_edit_small s request specs expiry flags doc r h d b.specs

unless_refused : (refusing : Option Status) (result : Result Change Status) → IsSmallResult result → IsSmallResult (option_map_or {U = Result Change Status} (λ s. Err s) refusing result)
unless_refused None result h = h
unless_refused (Some s) result h = tt

unless_expired : (b : Bool) (doc : Doc) → IsSmallDoc doc → IfSome (if b then None else Some doc) IsSmallDoc
unless_expired true doc h = tt
unless_expired false doc h = h

there_small : (now : ℕ) (doc : Option Doc) → IfSome doc IsSmallDoc → IfSome (there now doc) IsSmallDoc
there_small now None h = tt
there_small now (Some doc) h = unless_expired (is_expired doc.expiry now) doc h

-- what a request does to a small document is small
pub step_small : (s : Setting) (request : Request) (doc : Option Doc) (change : Change) → s.draw < 2 ^ 64 → IsSmallRequest request → HasSmallInitial request.body → IfSome doc IsSmallDoc → document_step s request doc ≡ Ok change → IsSmallChange change
step_small s request doc change h r n d e =
    let P : Result Change Status → Type 0 = λ x. IsSmallResult x in
    let body : IsSmallBody request.body = record { key = r.key; value = r.value; specs = r.specs; initial = n } in
    let here = there s.now doc in
    subst P e (unless_refused (cas_refusal request.cas here) (operation s request request.body here) (operation_small s request request.body here h r body (there_small s.now doc d)))
