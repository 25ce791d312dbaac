-- The steps of a look-up and of an edit, as the functions have them.
use Rattle.std.proofs.Common.{◌≡◌, ℕ, Bool, true, false, cond, List, [], ◌∷◌, Option, Some, Result, Ok, Err, IfOk, ℤ, refl, sym, ap, subst, ◌∙◌}
use Rattle.doc_model.specs.declared.status.Status.{Status}
use Rattle.doc_model.specs.declared.status.TheConstants.Status as status
use Rattle.doc_model.specs.declared.status.Refused.{Refused}
use Rattle.doc_model.specs.declared.status.Refused.TheVariants as refusals
use Rattle.json_model.specs.declared.asked.Part.{Part}
use Rattle.json_model.specs.declared.asked.Part.TheVariants.{Member, At, Last}
use Rattle.json_model.specs.declared.asked.Lookup.{Lookup}
use Rattle.json_model.specs.declared.asked.Edit.{Edit}
use Rattle.json_model.specs.Paths.{ReadsPath}
use Rattle.json_model.specs.Edit.{lookup_of, edit_of, makes_parents}
use Rattle.json_model.specs.Order.{Looks, Edits, EditedText}
use Rattle.subdoc_step.specs.Answers.{◌>>=◌, looked_up, edited}
use Rattle.subdoc_step.proofs.Paths.{path_only}
use Rattle.subdoc_step.proofs.Looked.{looked_only}
use Rattle.subdoc_step.proofs.Edited.{edited_only}
use Rattle.subdoc_step.proofs.Left.{leaves_json}
use Rattle.subdoc_edit.specs.declared.looking.Piece.{Piece}
use Rattle.subdoc_edit.specs.declared.editing.Edited.{Edited}
use Rattle.subdoc_edit.specs.Telling.{Told}
use Rattle.subdoc_edit.specs.Looking.{Finds, RefusesLook, piece_text}
use Rattle.subdoc_edit.specs.Editing.{Makes, RefusesEdit}
use Rattle.xattr_body.specs.Section.{Pair}
use Rattle.xattr_body.specs.Pairs.{pairs_in}
use Rattle.xattr_step.specs.Object.{object_text}
use Rattle.xattr_step.specs.Answers.{may_name, is_virtual, named, attribute_of, read_attribute, looked_up_in, EditedPairs, text_at, with_text, fitting, edited_in}
use Rattle.xattr_edit.specs.declared.editing.EditedSection.{EditedSection}
use Rattle.xattr_edit.specs.Telling.{FindsIn, EditsIn}
use Rattle.xattr_edit.specs.Updating.{BeginsWith, EditsObject, found_in, with_found, Spells}

abbrev unknown : (A : Type 0) → Result A Status
unknown A = Err status.XATTR_UNKNOWN_VATTR

abbrev invalid : (A : Type 0) → Result A Status
invalid A = Err status.PATH_EINVAL

-- ---- the path

path_refused : (path : List ℕ) (s : Status) → ReadsPath path (Err s) → read_attribute path ≡ Err s
unfolding read_attribute
path_refused path s h = ap (λ (r : Result (List Part) Status). r >>= attribute_of) (sym (path_only path (Err s) h))

pub path_read : (path : List ℕ) (parts : List Part) (answer : Result (List ℕ) Status) → ReadsPath path (Ok parts) → attribute_of parts ≡ answer → read_attribute path ≡ answer
unfolding read_attribute
path_read path parts answer h e = ap (λ (r : Result (List Part) Status). r >>= attribute_of) (sym (path_only path (Ok parts) h)) ∙ e

pub name_read : (path : List ℕ) (parts slice : List Part) (name : List ℕ) → ReadsPath path (Ok parts) → slice ≡ parts → attribute_of slice ≡ Ok name → read_attribute path ≡ Ok name
name_read path parts slice name reads is e = path_read path parts (Ok name) reads (ap attribute_of (sym is) ∙ e)

-- a path that leads into an attribute begins with its name
named_is : (name found : List ℕ) → named name ≡ Ok found → name ≡ found
named_is name found e = by (may_name name) (is_virtual name) refl refl e
  where
    by : (may virtual : Bool) → may_name name ≡ may → is_virtual name ≡ virtual → cond may (cond virtual (unknown (List ℕ)) (Ok name)) (invalid (List ℕ)) ≡ Ok found → name ≡ found
    by true true m v h = cc
    by true false m v h = cc
    by false virtual m v h = cc

pub begins : (parts : List Part) (name : List ℕ) → attribute_of parts ≡ Ok name → BeginsWith name parts
begins [] name e = cc
begins (Member n ∷ ps) name e = (ps, ap (λ (x : List ℕ). Member x ∷ ps) (named_is n name e))
begins (At n ∷ ps) name e = cc
begins (Last ∷ ps) name e = cc

-- ---- look-ups

same : {A : Type 0} (x y : A) (o : Option A) → o ≡ Some x → o ≡ Some y → x ≡ y
same x y o e f = cc

looked_so : (opcode : ℕ) (bytes path : List ℕ) (answer : Result (List ℕ) Status) → (lookup : Lookup) × (lookup_of opcode ≡ Some lookup) × Looks lookup bytes path answer
    → (lookup : Lookup) → lookup_of opcode ≡ Some lookup → looked_up lookup bytes path ≡ answer
looked_so opcode bytes path answer (one, is, looks) lookup e =
    sym (looked_only lookup bytes path answer (subst (λ (l : Lookup). Looks l bytes path answer) (same one lookup (lookup_of opcode) is e) looks))

look_refused : (lookup : Lookup) (pairs : List Pair) (path : List ℕ) (s : Status) → read_attribute path ≡ Err s → looked_up_in lookup pairs path ≡ Err s
unfolding looked_up_in
look_refused lookup pairs path s e = ap (λ (r : Result (List ℕ) Status). r >>= λ name. looked_up lookup (object_text pairs) path) e

-- the path was refused
pub look_path : {A : Type 0} (came : A → Type 0) (opcode : ℕ) (pairs : List Pair) (object path : List ℕ) (e : Refused) → Told came (λ s. ReadsPath path (Err s)) (Err e) → FindsIn opcode pairs object path (Err e)
look_path came opcode pairs object path (refusals.Status s) h = λ lookup of. look_refused lookup pairs path s (path_refused path s h)
look_path came opcode pairs object path refusals.NoMemory h = tt

-- its name was refused
pub look_name : {A : Type 0} (came : A → Type 0) (opcode : ℕ) (pairs : List Pair) (object path : List ℕ) (parts : List Part) (e : Refused) → ReadsPath path (Ok parts) → Told came (λ s. attribute_of parts ≡ Err s) (Err e)
    → FindsIn opcode pairs object path (Err e)
look_name came opcode pairs object path parts (refusals.Status s) reads h = λ lookup of. look_refused lookup pairs path s (path_read path parts (Err s) reads h)
look_name came opcode pairs object path parts refusals.NoMemory reads h = tt

look_goes_on : (lookup : Lookup) (pairs : List Pair) (path name : List ℕ) → read_attribute path ≡ Ok name → looked_up_in lookup pairs path ≡ looked_up lookup (object_text pairs) path
unfolding looked_up_in
look_goes_on lookup pairs path name e = ap (λ (r : Result (List ℕ) Status). r >>= λ name. looked_up lookup (object_text pairs) path) e

looked_in : (opcode : ℕ) (pairs : List Pair) (object path name : List ℕ) (answer : Result (List ℕ) Status) → read_attribute path ≡ Ok name → object ≡ object_text pairs
    → (lookup : Lookup) × (lookup_of opcode ≡ Some lookup) × Looks lookup object path answer → (lookup : Lookup) → lookup_of opcode ≡ Some lookup → looked_up_in lookup pairs path ≡ answer
looked_in opcode pairs object path name answer e is found lookup of =
    look_goes_on lookup pairs path name e ∙ ap (λ (o : List ℕ). looked_up lookup o path) (sym is) ∙ looked_so opcode object path answer found lookup of

pub look_told : (opcode : ℕ) (pairs : List Pair) (object path name : List ℕ) (r : Result Piece Refused) → read_attribute path ≡ Ok name → object ≡ object_text pairs → IfOk r (λ piece. Finds opcode object path piece)
    → ((s : Status) → r ≡ Err (refusals.Status s) → RefusesLook opcode object path s) → FindsIn opcode pairs object path r
look_told opcode pairs object path name (Ok piece) e is (lookup, of, within, looks) none =
    (within, looked_in opcode pairs object path name (Ok (piece_text object piece)) e is (lookup, of, looks))
look_told opcode pairs object path name (Err (refusals.Status s)) e is found none = looked_in opcode pairs object path name (Err s) e is (none s refl)
look_told opcode pairs object path name (Err refusals.NoMemory) e is found none = tt

-- ---- the edited object

edited_so : (opcode flags : ℕ) (several : Bool) (bytes object path value : List ℕ) (answer : Result EditedText Status) → bytes ≡ object → makes_parents flags ≡ several
    → (edit : Edit) × (edit_of opcode ≡ Some edit) × Edits edit (makes_parents flags) bytes path value answer → (edit : Edit) → edit_of opcode ≡ Some edit → edited edit several object path value ≡ answer
edited_so opcode flags several bytes object path value answer is flagged (one, of, edits) edit e =
    ap (λ (b : List ℕ). edited edit several b path value) (sym is) ∙ ap (λ (f : Bool). edited edit f bytes path value) (sym flagged)
    ∙ sym (edited_only edit (makes_parents flags) bytes path value answer (subst (λ (x : Edit). Edits x (makes_parents flags) bytes path value answer) (same one edit (edit_of opcode) of e) edits))

pub edit_told : (opcode flags : ℕ) (several : Bool) (pairs : List Pair) (bytes path value : List ℕ) (r : Result Edited Refused) → bytes ≡ object_text pairs → makes_parents flags ≡ several
    → IfOk r (λ e. Makes opcode flags bytes path value e) → ((s : Status) → r ≡ Err (refusals.Status s) → RefusesEdit opcode flags bytes path value s) → EditsObject opcode several pairs path value r
edit_told opcode flags several pairs bytes path value (Ok e) is flagged (edit, of, edits) none =
    let made : EditedText = record { text = e.text; number = e.number } in
    (leaves_json edit (makes_parents flags) bytes path value made edits, edited_so opcode flags several bytes (object_text pairs) path value (Ok made) is flagged (edit, of, edits))
edit_told opcode flags several pairs bytes path value (Err (refusals.Status s)) is flagged made none = edited_so opcode flags several bytes (object_text pairs) path value (Err s) is flagged (none s refl)
edit_told opcode flags several pairs bytes path value (Err refusals.NoMemory) is flagged made none = tt

-- ---- edits

edit_refused : (edit : Edit) (several : Bool) (pairs : List Pair) (path value : List ℕ) (s : Status) → read_attribute path ≡ Err s → edited_in edit several pairs path value ≡ Err s
unfolding edited_in
edit_refused edit several pairs path value s e =
    ap (λ (r : Result (List ℕ) Status). r >>= λ name. edited edit several (object_text pairs) path value >>= λ e. fitting (record { pairs = with_text name pairs (text_at name e.text); number = e.number })) e

-- the attributes that an edited object leaves
abbrev leaving : List ℕ → List Pair → EditedText → EditedPairs
leaving name pairs e = record { pairs = with_text name pairs (text_at name e.text); number = e.number }

edit_goes_on : (edit : Edit) (several : Bool) (pairs : List Pair) (path value name : List ℕ) (answer : Result EditedText Status) → read_attribute path ≡ Ok name → edited edit several (object_text pairs) path value ≡ answer
    → edited_in edit several pairs path value ≡ (answer >>= λ e. fitting (leaving name pairs e))
unfolding edited_in
edit_goes_on edit several pairs path value name answer e h =
    ap (λ (r : Result (List ℕ) Status). r >>= λ name. edited edit several (object_text pairs) path value >>= λ e. fitting (leaving name pairs e)) e
    ∙ ap (λ (r : Result EditedText Status). r >>= λ e. fitting (leaving name pairs e)) h

-- the path was refused
pub edit_path : {A : Type 0} (came : A → Type 0) (opcode : ℕ) (several : Bool) (section path value : List ℕ) (e : Refused) → Told came (λ s. ReadsPath path (Err s)) (Err e) → EditsIn opcode several section path value (Err e)
edit_path came opcode several section path value (refusals.Status s) h = λ edit of. edit_refused edit several (pairs_in section) path value s (path_refused path s h)
edit_path came opcode several section path value refusals.NoMemory h = tt

-- its name was refused
pub edit_name : {A : Type 0} (came : A → Type 0) (opcode : ℕ) (several : Bool) (section path value : List ℕ) (parts : List Part) (e : Refused) → ReadsPath path (Ok parts) → Told came (λ s. attribute_of parts ≡ Err s) (Err e)
    → EditsIn opcode several section path value (Err e)
edit_name came opcode several section path value parts (refusals.Status s) reads h = λ edit of. edit_refused edit several (pairs_in section) path value s (path_read path parts (Err s) reads h)
edit_name came opcode several section path value parts refusals.NoMemory reads h = tt

-- the edit of the object was refused
pub edit_not_made : (opcode : ℕ) (several : Bool) (section path value name : List ℕ) (e : Refused) → read_attribute path ≡ Ok name → EditsObject opcode several (pairs_in section) path value (Err e) → EditsIn opcode several section path value (Err e)
edit_not_made opcode several section path value name (refusals.Status s) n h = λ edit of. edit_goes_on edit several (pairs_in section) path value name (Err s) n (h edit of)
edit_not_made opcode several section path value name refusals.NoMemory n h = tt

-- what was found is put or taken away
found_text : (name : List ℕ) (pairs : List Pair) (r : Result (List ℕ) Status) → with_found name pairs (found_in r) ≡ with_text name pairs r
found_text name pairs (Ok text) = refl
found_text name pairs (Err s) = refl

pub left_is : (name text slice : List ℕ) (pairs xattrs left : List Pair) (found : Option (List ℕ)) → left ≡ with_found name xattrs found → xattrs ≡ pairs → found ≡ found_in (text_at name slice) → slice ≡ text
    → left ≡ with_text name pairs (text_at name text)
left_is name text slice pairs xattrs left found put same e is =
    put ∙ ap (λ (l : List Pair). with_found name l found) same ∙ ap (with_found name pairs) (e ∙ ap (λ (t : List ℕ). found_in (text_at name t)) is) ∙ found_text name pairs (text_at name text)

-- a section was spelled, or they were too many bytes
pub edit_made : (opcode : ℕ) (several : Bool) (section path value name : List ℕ) (made : Edited) (left : List Pair) (r : Result EditedSection Refused) → read_attribute path ≡ Ok name → EditsObject opcode several (pairs_in section) path value (Ok made)
    → left ≡ with_text name (pairs_in section) (text_at name made.text) → Spells left made.number r → EditsIn opcode several section path value r
edit_made opcode several section path value name made left (Ok e) n h is spelled =
    λ edit of. record {
      pairs = left;
      section_is = spelled.1;
      edited = edit_goes_on edit several (pairs_in section) path value name (Ok (record { text = made.text; number = made.number })) n (h.1 edit of)
          ∙ ap (λ (l : List Pair). fitting (record { pairs = l; number = made.number })) (sym is) ∙ spelled.0
          ∙ ap (λ (x : Option ℤ). let answer : Result EditedPairs Status = Ok (record { pairs = left; number = x }) in answer) (sym spelled.2);
    }
edit_made opcode several section path value name made left (Err (refusals.Status s)) n h is spelled =
    λ edit of. edit_goes_on edit several (pairs_in section) path value name (Ok (record { text = made.text; number = made.number })) n (h.1 edit of)
    ∙ ap (λ (l : List Pair). fitting (record { pairs = l; number = made.number })) (sym is) ∙ spelled
edit_made opcode several section path value name made left (Err refusals.NoMemory) n h is spelled = tt
