-- What edits leave of a document, and which of them is the first that fails.
use Rattle.std.specs.Prelude.{◌≡◌, ℕ, suc, ◌+◌, nat_eq, Bool, true, false, ◌&&◌, ◌||◌, List, [], ◌∷◌, ◌++◌, take, drop, Option, Some, None, Result, Ok, Err, if◌then◌else◌, refl}
use Rattle.std.specs.List.{list_all, list_any}
use Rattle.std.specs.Option.{option_map_or}
use Rattle.std.specs.Int.{w16, to_be_bytes}
use Rattle.std.proofs.Common.{ap, sym, subst, ◌∙◌, arith}
use Rattle.doc_model.specs.declared.document.Doc.{Doc}
use Rattle.doc_model.specs.declared.status.Status.{Status}
use Rattle.doc_model.specs.declared.status.TheConstants.Status as status
use Rattle.json_model.specs.declared.asked.Edit.{Edit}
use Rattle.json_model.specs.Edit.{edit_of}
use Rattle.json_model.specs.Order.{EditedText}
use Rattle.subdoc_step.specs.Answers.{◌>>=◌, edited}
use Rattle.xattr_body.specs.Pairs.{pairs_in}
use Rattle.xattr_step.specs.Answers.{EditedPairs, edited_in}
use Rattle.kv_request.specs.declared.parts.TheConstants.{ADDS_DOCUMENT}
use Rattle.kv_request.specs.declared.request.Request.{Request}
use Rattle.kv_request.specs.declared.request.Spec.{Spec}
use Rattle.kv_request.specs.Parts.{is_attribute}
use Rattle.doc_step.specs.declared.Effect.TheVariants as effects
use Rattle.doc_step.specs.declared.Change.{Change}
use Rattle.doc_step.specs.Expiry.{Setting}
use Rattle.doc_step.specs.Replies.{changed, changing, storing}
use Rattle.doc_step.specs.Parts.{with_expiry, doc_to_edit, makes_several, EditedDoc, value_edited, attributes_edited, edited_by, edited_doc, number_text, edit_step, part_failed, edit_result, Folded, all_made, refused_at, and_then, edits_from, edits_answered, multi_edit_step}
use Rattle.doc_step.specs.Laws.{effect_of, Spares, FailsAt, TellsFailure}

-- an answer that is no refusal
abbrev fine : Change → Result Change Status
fine c = Ok c

-- ---- one edit

-- what one edit leaves of a document
record Leaves (spec : Spec) (old made : Doc) : Type 0 where
  flags : made.flags ≡ old.flags
  expiry : made.expiry ≡ old.expiry
  attributes : is_attribute spec ≡ false → made.xattrs ≡ old.xattrs
  value : is_attribute spec ≡ true → made.value ≡ old.value

-- where it is made
abbrev LeavesMade : Spec → Doc → Result EditedDoc Status → Type 0
LeavesMade spec old (Ok made) = Leaves spec old made.doc
LeavesMade spec old (Err refusing) = Unit {0}

of_value : (spec : Spec) (doc : Doc) (r : Result EditedText Status) → is_attribute spec ≡ false → LeavesMade spec doc (value_edited doc r)
of_value spec doc (Ok made) is = record { flags = refl; expiry = refl; attributes = λ e. refl; value = λ e. absurd (cc) }
of_value spec doc (Err refusing) is = tt

of_attributes : (spec : Spec) (doc : Doc) (r : Result EditedPairs Status) → is_attribute spec ≡ true → LeavesMade spec doc (attributes_edited doc r)
of_attributes spec doc (Ok made) is = record { flags = refl; expiry = refl; attributes = λ e. absurd (cc); value = λ e. refl }
of_attributes spec doc (Err refusing) is = tt

either_leaves : (spec : Spec) (doc : Doc) (b : Bool) (x y : Result EditedDoc Status) → (b ≡ true → LeavesMade spec doc x) → (b ≡ false → LeavesMade spec doc y) → LeavesMade spec doc (if b then x else y)
either_leaves spec doc true x y h k = h refl
either_leaves spec doc false x y h k = k refl

edit_leaves : (spec : Spec) (flags : ℕ) (doc : Doc) (edit : Option Edit) → LeavesMade spec doc (option_map_or {U = Result EditedDoc Status} (edited_by spec flags doc) edit (Err status.UNKNOWN_COMMAND))
edit_leaves spec flags doc None = tt
edit_leaves spec flags doc (Some edit) =
    let several = makes_several spec flags in
    either_leaves spec doc (is_attribute spec)
    (attributes_edited doc (edited_in edit several (pairs_in doc.xattrs) spec.path spec.value))
    (value_edited doc (edited edit several doc.value spec.path spec.value))
    (of_attributes spec doc (edited_in edit several (pairs_in doc.xattrs) spec.path spec.value))
    (of_value spec doc (edited edit several doc.value spec.path spec.value))

-- ---- several edits

-- what edits leave of a document
record LeaveAll (specs : List Spec) (old made : Doc) : Type 0 where
  flags : made.flags ≡ old.flags
  expiry : made.expiry ≡ old.expiry
  attributes : list_any is_attribute specs ≡ false → made.xattrs ≡ old.xattrs
  value : list_all is_attribute specs ≡ true → made.value ≡ old.value

abbrev LeaveFolded : List Spec → Doc → Folded → Type 0
LeaveFolded specs old (all_made made results) = LeaveAll specs old made
LeaveFolded specs old (refused_at place refusing) = Unit {0}

first_none : (a b : Bool) → (a || b) ≡ false → (a ≡ false) × (b ≡ false)
first_none true b e = absurd (cc)
first_none false b e = (refl, e)

first_all : (a b : Bool) → (a && b) ≡ true → (a ≡ true) × (b ≡ true)
first_all true b e = (refl, e)
first_all false b e = absurd (cc)

more_left : (spec : Spec) (specs : List Spec) (old next : Doc) (f : Folded) → Leaves spec old next → LeaveFolded specs next f → LeaveFolded (spec ∷ specs) old f
more_left spec specs old next (all_made made results) h k = record {
  flags = k.flags ∙ h.flags;
  expiry = k.expiry ∙ h.expiry;
  attributes = λ e. k.attributes (first_none (is_attribute spec) (list_any is_attribute specs) e).1 ∙ h.attributes (first_none (is_attribute spec) (list_any is_attribute specs) e).0;
  value = λ e. k.value (first_all (is_attribute spec) (list_all is_attribute specs) e).1 ∙ h.value (first_all (is_attribute spec) (list_all is_attribute specs) e).0;
}
more_left spec specs old next (refused_at place refusing) h k = tt

goes_on : (spec : Spec) (specs : List Spec) (old : Doc) (place : ℕ) (results : List ℕ) (r : Result EditedDoc Status) (rest : Doc → List ℕ → Folded)
    → LeavesMade spec old r → ((made : Doc) (told : List ℕ) → LeaveFolded specs made (rest made told)) → LeaveFolded (spec ∷ specs) old (and_then place results r rest)
goes_on spec specs old place results (Ok made) rest h next = more_left spec specs old made.doc (rest made.doc _) h (next made.doc _)
goes_on spec specs old place results (Err refusing) rest h next = tt

fold_leaves : (flags place : ℕ) (doc : Doc) (results : List ℕ) (specs : List Spec) → LeaveFolded specs doc (edits_from flags place doc results specs)
unfolding edits_from
fold_leaves flags place doc results [] = record { flags = refl; expiry = refl; attributes = λ e. refl; value = λ e. refl }
fold_leaves flags place doc results (spec ∷ specs) =
    goes_on spec specs doc place results (edited_doc spec flags doc) (λ made told. edits_from flags (suc place) made told specs)
    (edit_leaves spec flags doc (edit_of spec.opcode)) (λ made told. fold_leaves flags (suc place) made told specs)

-- ---- what is stored

-- what a step stores has what was there, but for what was asked
abbrev pub StepSpares : Doc → Option ℕ → List Spec → Result Change Status → Type 0
StepSpares found expiry specs r = (made : Doc) → effect_of r ≡ effects.Put made → Spares found made expiry specs

put_is : (x y : Doc) → effects.Put x ≡ effects.Put y → x ≡ y
put_is x y e = cc

pub no_put : (found : Doc) (expiry : Option ℕ) (specs : List Spec) (s : Status) → StepSpares found expiry specs (Err s)
no_put found expiry specs s made e = absurd (cc)

expiry_spares : (s : Setting) (expiry : Option ℕ) (specs : List Spec) (found made : Doc) → LeaveAll specs (with_expiry s expiry found) made → Spares found (changed s made) expiry specs
expiry_spares s None specs found made h = record { flags = h.flags; expiry = λ e. h.expiry; attributes = h.attributes; value = h.value }
expiry_spares s (Some given) specs found made h = record { flags = h.flags; expiry = λ e. absurd (cc); attributes = h.attributes; value = h.value }

stored_spares : (s : Setting) (request : Request) (expiry : Option ℕ) (specs : List Spec) (found made : Doc) (told : List ℕ) → LeaveAll specs (with_expiry s expiry found) made → StepSpares found expiry specs (storing request (changed s made) told)
stored_spares s request expiry specs found made told h put e =
    subst (λ (d : Doc). Spares found d expiry specs) (put_is (changed s made) put e) (expiry_spares s expiry specs found made h)

answered_spares : (s : Setting) (request : Request) (expiry : Option ℕ) (specs : List Spec) (found : Doc) (f : Folded) → LeaveFolded specs (with_expiry s expiry found) f → StepSpares found expiry specs (edits_answered s request f)
answered_spares s request expiry specs found (all_made made results) h = stored_spares s request expiry specs found made results h
answered_spares s request expiry specs found (refused_at place refusing) h = λ made e. absurd (cc)

either_to_edit : (s : Setting) (request : Request) (expiry : Option ℕ) (flags : ℕ) (specs : List Spec) (found : Doc) (b : Bool)
    → StepSpares found expiry specs ((if b then Err status.KEY_EEXISTS else Ok (with_expiry s expiry found)) >>= λ begun. edits_answered s request (edits_from flags 0 begun [] specs))
either_to_edit s request expiry flags specs found true = no_put found expiry specs status.KEY_EEXISTS
either_to_edit s request expiry flags specs found false = answered_spares s request expiry specs found (edits_from flags 0 (with_expiry s expiry found) [] specs) (fold_leaves flags 0 (with_expiry s expiry found) [] specs)

-- several edits leave what is not asked
pub edits_spare : (s : Setting) (request : Request) (expiry : Option ℕ) (flags : ℕ) (specs : List Spec) (found : Doc) → StepSpares found expiry specs (multi_edit_step s request specs expiry flags (Some found))
edits_spare s request expiry flags specs found = either_to_edit s request expiry flags specs found (nat_eq flags ADDS_DOCUMENT)

alone_left : (spec : Spec) (old made : Doc) → Leaves spec old made → LeaveAll (spec ∷ []) old made
alone_left spec old made h = record {
  flags = h.flags;
  expiry = h.expiry;
  attributes = λ e. h.attributes (first_none (is_attribute spec) false e).0;
  value = λ e. h.value (first_all (is_attribute spec) true e).0;
}

one_spares : (s : Setting) (request : Request) (expiry : Option ℕ) (spec : Spec) (found : Doc) (r : Result EditedDoc Status) → LeavesMade spec (with_expiry s expiry found) r
    → StepSpares found expiry (spec ∷ []) (r >>= λ made. storing request (changed s made.doc) (number_text made.number))
one_spares s request expiry spec found (Ok made) h = stored_spares s request expiry (spec ∷ []) found made.doc (number_text made.number) (alone_left spec (with_expiry s expiry found) made.doc h)
one_spares s request expiry spec found (Err refusing) h = no_put found expiry (spec ∷ []) refusing

either_one : (s : Setting) (request : Request) (expiry : Option ℕ) (flags : ℕ) (spec : Spec) (found : Doc) (b : Bool)
    → StepSpares found expiry (spec ∷ []) ((if b then Err status.KEY_EEXISTS else Ok (with_expiry s expiry found)) >>= λ begun. edited_doc spec flags begun >>= λ made. storing request (changed s made.doc) (number_text made.number))
either_one s request expiry flags spec found true = no_put found expiry (spec ∷ []) status.KEY_EEXISTS
either_one s request expiry flags spec found false = one_spares s request expiry spec found (edited_doc spec flags (with_expiry s expiry found)) (edit_leaves spec flags (with_expiry s expiry found) (edit_of spec.opcode))

-- an edit leaves what is not asked
pub edit_spares : (s : Setting) (request : Request) (expiry : Option ℕ) (flags : ℕ) (spec : Spec) (found : Doc) → StepSpares found expiry (spec ∷ []) (edit_step s request spec expiry flags (Some found))
edit_spares s request expiry flags spec found = either_one s request expiry flags spec found (nat_eq flags ADDS_DOCUMENT)

-- ---- the first that fails

-- behind so many places a fold is refused so
record FailsFrom (specs : List Spec) (flags from place : ℕ) (refusing : Status) (doc : Doc) (results : List ℕ) : Type 0 where
  count : ℕ
  is : place ≡ from + count
  left : Doc
  told : List ℕ
  spec : Spec
  others : List Spec
  before : edits_from flags from doc results (take count specs) ≡ all_made left told
  at : drop count specs ≡ spec ∷ others
  refused : edited_doc spec flags left ≡ Err refusing

refused_is : (place other : ℕ) (x y : Status) → refused_at place x ≡ refused_at other y → (place ≡ other) × (x ≡ y)
refused_is place other x y e = (cc, cc)

step_fails : (spec : Spec) (specs : List Spec) (flags from place : ℕ) (refusing : Status) (doc : Doc) (results : List ℕ) (r : Result EditedDoc Status)
    → edited_doc spec flags doc ≡ r → and_then from results r (λ made told. edits_from flags (suc from) made told specs) ≡ refused_at place refusing
    → ((made : Doc) (told : List ℕ) → edits_from flags (suc from) made told specs ≡ refused_at place refusing → FailsFrom specs flags (suc from) place refusing made told)
    → FailsFrom (spec ∷ specs) flags from place refusing doc results
unfolding edits_from
step_fails spec specs flags from place refusing doc results (Ok made) is e next =
    let h = next made.doc (results ++ edit_result from made.number) e in
    let P : Result EditedDoc Status → Type 0 = λ x. and_then from results x (λ made told. edits_from flags (suc from) made told (take h.count specs)) ≡ all_made h.left h.told in
    record {
      count = suc h.count;
      is = omega (arith, h.is);
      left = h.left;
      told = h.told;
      spec = h.spec;
      others = h.others;
      before = subst P (sym is) h.before;
      at = h.at;
      refused = h.refused;
    }
step_fails spec specs flags from place refusing doc results (Err x) is e next =
    let h = refused_is from place x refusing e in
    record {
      count = 0;
      is = omega (arith, h.0);
      left = doc;
      told = results;
      spec = spec;
      others = specs;
      before = refl;
      at = refl;
      refused = is ∙ ap Err h.1;
    }

fails_from : (specs : List Spec) (flags from place : ℕ) (refusing : Status) (doc : Doc) (results : List ℕ) → edits_from flags from doc results specs ≡ refused_at place refusing → FailsFrom specs flags from place refusing doc results
unfolding edits_from
fails_from [] flags from place refusing doc results e = absurd (cc)
fails_from (spec ∷ specs) flags from place refusing doc results e =
    step_fails spec specs flags from place refusing doc results (edited_doc spec flags doc) refl e (λ made told f. fails_from specs flags (suc from) place refusing made told f)

-- a reply that tells of a failure comes of an edit that is refused
abbrev pub NamesFirst : List Spec → ℕ → Doc → Change → Type 0
NamesFirst specs flags begun change =
    (place : ℕ) × (refusing : Status) × TellsFailure change (place ∷ to_be_bytes w16 refusing.code) × FailsAt specs flags begun place refusing

same_ok : (x y : Change) → fine x ≡ Ok y → x ≡ y
same_ok x y e = cc

named_first : (s : Setting) (request : Request) (specs : List Spec) (flags : ℕ) (begun : Doc) (f : Folded) (change : Change)
    → edits_from flags 0 begun [] specs ≡ f → edits_answered s request f ≡ Ok change → change.reply.status ≡ status.MULTI_PATH_FAILURE → NamesFirst specs flags begun change
named_first s request specs flags begun (all_made doc results) change is e failed =
    absurd (succeeded change (record { effect = effects.Put (changed s doc); reply = changing request s.draw results }) (same_ok _ change e) refl failed)
  where
    succeeded : (change told : Change) → told ≡ change → told.reply.status ≡ status.SUCCESS → change.reply.status ≡ status.MULTI_PATH_FAILURE → ⊥
    succeeded change told e f g =
        let codes : 0 ≡ 204 = sym (ap (λ (s : Status). s.code) f) ∙ ap (λ (c : Change). c.reply.status.code) e ∙ ap (λ (s : Status). s.code) g in
        omega (arith, codes)
named_first s request specs flags begun (refused_at place refusing) change is e failed =
    let told : Change = record { effect = effects.Nothing; reply = part_failed request (place ∷ to_be_bytes w16 refusing.code) } in
    let P : Change → Type 0 = λ c. NamesFirst specs flags begun c in
    let h = fails_from specs flags 0 place refusing begun [] is in
    let at : FailsAt specs flags begun h.count refusing = record { left = h.left; told = h.told; spec = h.spec; others = h.others; before = h.before; at = h.at; refused = h.refused } in
    let Q : ℕ → Type 0 = λ n. FailsAt specs flags begun n refusing in
    subst P (same_ok told change e) (place, refusing, record { effect = refl; status = refl; value = refl }, subst Q (sym (zero_more place h.count h.is)) at)
  where
    zero_more : (place count : ℕ) → place ≡ 0 + count → place ≡ count
    zero_more place count e = omega (arith, e)

-- where edits fail, the document that they begin with
abbrev pub StartsAndNames : Setting → Option ℕ → ℕ → List Spec → Option Doc → Change → Type 0
StartsAndNames s expiry flags specs doc change =
    (place : ℕ) × (refusing : Status) × (begun : Doc) × TellsFailure change (place ∷ to_be_bytes w16 refusing.code)
    × (doc_to_edit s expiry flags specs doc ≡ Ok begun) × FailsAt specs flags begun place refusing

starts : (s : Setting) (request : Request) (expiry : Option ℕ) (flags : ℕ) (specs : List Spec) (doc : Option Doc) (r : Result Doc Status) (change : Change)
    → doc_to_edit s expiry flags specs doc ≡ r → (r >>= λ begun. edits_answered s request (edits_from flags 0 begun [] specs)) ≡ Ok change
    → change.reply.status ≡ status.MULTI_PATH_FAILURE → StartsAndNames s expiry flags specs doc change
starts s request expiry flags specs doc (Ok begun) change is e failed =
    let h = named_first s request specs flags begun (edits_from flags 0 begun [] specs) change refl e failed in (h.0, h.1, begun, h.2, is, h.3)
starts s request expiry flags specs doc (Err x) change is e failed = absurd (cc)

-- the first edit that fails is named
pub first_named : (s : Setting) (request : Request) (expiry : Option ℕ) (flags : ℕ) (specs : List Spec) (doc : Option Doc) (change : Change)
    → multi_edit_step s request specs expiry flags doc ≡ Ok change → change.reply.status ≡ status.MULTI_PATH_FAILURE → StartsAndNames s expiry flags specs doc change
first_named s request expiry flags specs doc change e failed = starts s request expiry flags specs doc (doc_to_edit s expiry flags specs doc) change refl e failed
