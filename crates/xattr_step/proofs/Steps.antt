-- The name that a path of attributes leads into, and what happened where an edit of attributes went well.
use Rattle.std.proofs.Common.{suc, ◌<◌, ap₂, Result, Ok, sym, ◌∙◌, ◌≡◌, ◌≢◌, ℕ, ◌≤◌, List, [], ◌∷◌, length, Bool, true, false, cond, Err, refl, ap, subst, arith}
use Rattle.std.specs.Prelude.{nat_eq, nat_le, not, ◌&&◌, ◌||◌}
use Rattle.std.specs.List.{list_any}
use Rattle.std.proofs.lemmas.Bool.Decides.{nat_tests}
use Rattle.std.proofs.lemmas.List.Elements.{All-head, All-tail, All-nil, All-cons}
use Rattle.doc_model.specs.declared.status.Status.{Status}
use Rattle.doc_model.specs.declared.status.TheConstants.Status as status
use Rattle.json_model.specs.declared.asked.Part.{Part}
use Rattle.json_model.specs.declared.asked.Part.TheVariants.{Member, At, Last}
use Rattle.json_model.specs.declared.asked.Lookup.{Lookup}
use Rattle.json_model.specs.declared.asked.Edit.{Edit}
use Rattle.json_model.specs.Paths.{ReadsPath}
use Rattle.json_model.specs.Order.{EditedText}
use Rattle.subdoc_step.specs.Paths.{read_parts}
use Rattle.subdoc_step.specs.Answers.{◌>>=◌, looked_up, edited}
use Rattle.subdoc_step.proofs.Paths.{path_is, path_only}
use Rattle.subdoc_step.proofs.Names.{path_names}
use Rattle.subdoc_step.proofs.Went.{fine, gave}
use Rattle.xattr_body.specs.declared.TheConstants.{NAME_LIMIT, SECTION_LIMIT}
use Rattle.xattr_body.specs.Section.{Pair, HasNoZero, IsName, section_of}
use Rattle.xattr_body.proofs.Names.{and_both, or_neither, not_true}
use Rattle.xattr_step.specs.Object.{object_text}
use Rattle.xattr_step.specs.Answers.{may_name, is_virtual, attribute_of, read_attribute, looked_up_in, EditedPairs, text_at, with_text, fitting, edited_in}

-- ---- the name

within : (a b : ℕ) → nat_le a b ≡ true → a ≤ b
within a b e = grind (arith, nat_tests)

no_zero : (bytes : List ℕ) → list_any (nat_eq 0) bytes ≡ false → HasNoZero bytes
no_zero [] e = All-nil (λ byte. byte ≢ 0)
no_zero (x ∷ xs) e =
    let neither = or_neither (nat_eq 0 x) (list_any (nat_eq 0) xs) e in
    All-cons (λ byte. byte ≢ 0) x xs (differs x neither.0) (no_zero xs neither.1)
  where
    differs : (x : ℕ) → nat_eq 0 x ≡ false → x ≢ 0
    differs x e h = grind (arith, nat_tests)

-- a name that was taken may be one, and is the one that is told
taken_by : (name told : List ℕ) (may virtual : Bool) → may_name name ≡ may → cond may (cond virtual (Err status.XATTR_UNKNOWN_VATTR) (fine name)) (Err status.PATH_EINVAL) ≡ fine told → (may_name name ≡ true) × (name ≡ told)
taken_by name told true true is e = cc
taken_by name told true false is e = (is, cc)
taken_by name told false virtual is e = cc

-- the name of an attribute that a path leads into, and the parts of the path behind it
pub record Leads (path name : List ℕ) : Type 0 where
  pub behind : List Part
  pub path_is : read_parts path ≡ fine (Member name ∷ behind)
  pub is : IsName name

leads_by : (path name : List ℕ) (parts : List Part) → read_parts path ≡ fine parts → attribute_of parts ≡ fine name → Leads path name
leads_by path name [] p e = cc
leads_by path name (At n ∷ parts) p e = cc
leads_by path name (Last ∷ parts) p e = cc
leads_by path name (Member first ∷ parts) p e =
    let taken = taken_by first name (may_name first) (is_virtual first) refl e in
    let utf8 = path_names (Member first ∷ parts) path (path_is path (Member first ∷ parts) p).0 in
    let outer = and_both (nat_le 1 (length first) && nat_le (length first) NAME_LIMIT) (not (list_any (nat_eq 0) first)) taken.0 in
    let inner = and_both (nat_le 1 (length first)) (nat_le (length first) NAME_LIMIT) outer.0 in
    subst (Leads path) taken.1 (record {
      behind = parts;
      path_is = p;
      is = record {
        some = within 1 (length first) inner.0;
        short = within (length first) NAME_LIMIT inner.1;
        no_zero = no_zero first (not_true (list_any (nat_eq 0) first) outer.1);
        utf8 = utf8.0;
      };
    })

pub leads : (path name : List ℕ) → read_attribute path ≡ fine name → Leads path name
unfolding read_attribute
leads path name e = let a = gave (read_parts path) attribute_of name e in leads_by path name a.value a.is a.then_is

-- ---- names that are refused

any_zero : (bytes : List ℕ) → HasNoZero bytes → list_any (nat_eq 0) bytes ≡ false
any_zero [] h = refl
any_zero (x ∷ xs) h = ap₂ (λ a b. a || b) (differs x (All-head (λ byte. byte ≢ 0) x xs h)) (any_zero xs (All-tail (λ byte. byte ≢ 0) x xs h))
  where
    differs : (x : ℕ) → x ≢ 0 → nat_eq 0 x ≡ false
    differs x n = grind (arith, nat_tests)

refused_by : (name : List ℕ) (some short zero : Bool) → some ≡ true → short ≡ true → zero ≡ false
    → cond ((some && short) && not zero) (cond true (Err status.XATTR_UNKNOWN_VATTR) (fine name)) (Err status.PATH_EINVAL) ≡ Err status.XATTR_UNKNOWN_VATTR
refused_by name true true false a b c = refl
refused_by name true true true a b c = cc
refused_by name true false zero a b c = cc
refused_by name false short zero a b c = cc

pub worked_out : (path name : List ℕ) (rest : List Part) → ReadsPath path (Ok (Member (0x24 ∷ name) ∷ rest)) → length name < NAME_LIMIT → HasNoZero name → read_attribute path ≡ Err status.XATTR_UNKNOWN_VATTR
unfolding read_attribute
worked_out path name rest p short none =
    ap (λ (r : Result (List Part) Status). r >>= attribute_of) (sym (path_only path (Ok (Member (0x24 ∷ name) ∷ rest)) p))
    ∙ refused_by (0x24 ∷ name) (nat_le 1 (length (0x24 ∷ name))) (nat_le (length (0x24 ∷ name)) NAME_LIMIT) (list_any (nat_eq 0) (0x24 ∷ name)) (some (length name)) (within_limit (length name) short) (any_zero name none)
  where
    some : (n : ℕ) → nat_le 1 (suc n) ≡ true
    some n = grind (arith, nat_tests)

    within_limit : (n : ℕ) → n < NAME_LIMIT → nat_le (suc n) NAME_LIMIT ≡ true
    within_limit n h = grind (arith, nat_tests)

-- ---- look-ups

-- a look-up of attributes that went well
pub record LookedIn (lookup : Lookup) (pairs : List Pair) (path found : List ℕ) : Type 0 where
  pub name : List ℕ
  pub name_is : read_attribute path ≡ fine name
  pub seen : looked_up lookup (object_text pairs) path ≡ fine found

pub looked_in_went : (lookup : Lookup) (pairs : List Pair) (path found : List ℕ) → looked_up_in lookup pairs path ≡ fine found → LookedIn lookup pairs path found
unfolding looked_up_in
looked_in_went lookup pairs path found e =
    let a = gave (read_attribute path) (λ name. looked_up lookup (object_text pairs) path) found e in
    record { name = a.value; name_is = a.is; seen = a.then_is }

-- ---- edits

-- the steps of an edit of attributes that went well
pub record WentIn (edit : Edit) (several : Bool) (pairs : List Pair) (path value : List ℕ) (made : EditedPairs) : Type 0 where
  pub name : List ℕ
  pub left : EditedText
  pub name_is : read_attribute path ≡ fine name
  pub left_is : edited edit several (object_text pairs) path value ≡ fine left
  pub pairs_are : with_text name pairs (text_at name left.text) ≡ made.pairs
  pub room : length (section_of made.pairs) ≤ SECTION_LIMIT

fitting_is : (a made : EditedPairs) (b : Bool) → nat_le (length (section_of a.pairs)) SECTION_LIMIT ≡ b → cond b (fine a) (Err status.E2BIG) ≡ fine made → (length (section_of made.pairs) ≤ SECTION_LIMIT) × (a ≡ made)
fitting_is a made true is e =
    let same : a ≡ made = cc in
    (subst (λ (x : EditedPairs). length (section_of x.pairs) ≤ SECTION_LIMIT) same (within (length (section_of a.pairs)) SECTION_LIMIT is), same)
fitting_is a made false is e = cc

pub went_in : (edit : Edit) (several : Bool) (pairs : List Pair) (path value : List ℕ) (made : EditedPairs) → edited_in edit several pairs path value ≡ fine made → WentIn edit several pairs path value made
unfolding edited_in
went_in edit several pairs path value made h =
    let a = gave (read_attribute path) (λ name. edited edit several (object_text pairs) path value >>= λ e. fitting (record { pairs = with_text name pairs (text_at name e.text); number = e.number })) made h in
    let b = gave (edited edit several (object_text pairs) path value) (λ e. fitting (record { pairs = with_text a.value pairs (text_at a.value e.text); number = e.number })) made a.then_is in
    let left : EditedPairs = record { pairs = with_text a.value pairs (text_at a.value b.value.text); number = b.value.number } in
    let f = fitting_is left made (nat_le (length (section_of left.pairs)) SECTION_LIMIT) refl b.then_is in
    record { name = a.value; left = b.value; name_is = a.is; left_is = b.is; pairs_are = ap (λ (x : EditedPairs). x.pairs) f.1; room = f.0 }

pub section_within : (edit : Edit) (several : Bool) (pairs : List Pair) (path value : List ℕ) (made : EditedPairs) → edited_in edit several pairs path value ≡ Ok made → length (section_of made.pairs) ≤ SECTION_LIMIT
section_within edit several pairs path value made e = (went_in edit several pairs path value made e).room
