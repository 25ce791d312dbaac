-- The object that attributes are: its text, and what it has at a name.
use Rattle.std.proofs.Common.{◌≡◌, ◌≢◌, ℕ, ◌≤◌, List, [], ◌∷◌, ◌++◌, Bool, true, false, cond, Option, Some, None, refl, sym, ap, subst, ◌∙◌, arith, append_assoc, append-nil}
use Rattle.std.specs.List.{All}
use Rattle.std.proofs.lemmas.List.Elements.{All-head, All-tail}
use Rattle.json_model.specs.declared.TheConstants.{MOST_DEEP}
use Rattle.json_model.specs.declared.kinds.Shape.TheVariants as shapes
use Rattle.json_model.specs.declared.asked.Part.{Part}
use Rattle.json_model.specs.declared.asked.Lookup.{Lookup}
use Rattle.json_model.specs.Spelled.{Head, keyed, Tree, empty, group, Parts, last, more, head_text, text, parts_text, Document, PartsFit, parts_depth, IsText}
use Rattle.json_model.specs.Edit.{key_text, look_at}
use Rattle.subdoc_step.specs.Paths.{is_called, followed}
use Rattle.subdoc_step.proofs.Keys.{key_stands, key_string}
use Rattle.subdoc_step.proofs.Members.{called_is, called_other, member_of, behind_member, looked_in}
use Rattle.xattr_body.specs.declared.TheConstants.{VALUE_DEEP}
use Rattle.xattr_body.specs.Section.{Pair, same_name, IsPair, ArePairs}
use Rattle.xattr_body.specs.Edits.{value_of}
use Rattle.xattr_body.proofs.Names.{same_is, is_same}
use Rattle.xattr_step.specs.Object.{member_text, members_text, object_text}

-- ---- the text of a member

-- the head of the member that an attribute is, with the blanks before its text
abbrev head_of : List ℕ → List ℕ → Head
head_of name before = keyed [] (key_text name) [] before

-- a key and a value with the blanks round it, and the rest behind them
spread : (key before value after rest : List ℕ) (colon : ℕ) → (key ++ colon ∷ (before ++ (value ++ after))) ++ rest ≡ (key ++ colon ∷ before) ++ (value ++ (after ++ rest))
spread key before value after rest colon =
    append_assoc key (colon ∷ (before ++ (value ++ after))) rest
    ∙ ap (λ (l : List ℕ). key ++ colon ∷ l) (append_assoc before (value ++ after) rest ∙ ap (λ (l : List ℕ). before ++ l) (append_assoc value after rest))
    ∙ sym (append_assoc key (colon ∷ before) (value ++ (after ++ rest)))

-- ---- members

-- a tree of attributes has at a name what the attribute's text is
abbrev HasText : List ℕ → List ℕ → Option Tree → Type 0
HasText name value member = (d : Document) × IsText VALUE_DEEP d value × (member ≡ Some d.tree)

-- the members that attributes are
record Members (pair : Pair) (others : List Pair) : Type 0 where
  parts : Parts
  fit : PartsFit shapes.Object parts
  room : parts_depth parts ≤ VALUE_DEEP
  spelled : members_text (pair ∷ others) ≡ parts_text parts
  holds : (name value : List ℕ) → value_of name (pair ∷ others) ≡ Some value → HasText name value (member_of name parts)

-- the first member has the first attribute's text, and the others stay what they were
first_holds : (pair : Pair) (others : List Pair) (d : Document) (name value : List ℕ) (b : Bool) (later : Option Tree) → IsPair pair → IsText VALUE_DEEP d pair.1 → same_name pair.0 name ≡ b
    → (value_of name others ≡ Some value → HasText name value later) → cond b (Some pair.1) (value_of name others) ≡ Some value
    → HasText name value (cond (is_called name (head_of pair.0 d.before)) (Some d.tree) later)
first_holds pair others d name value true later is t same law e =
    let its : pair.1 ≡ value = cc in
    let called : is_called name (head_of pair.0 d.before) ≡ true =
    subst (λ (n : List ℕ). is_called n (head_of pair.0 d.before) ≡ true) (same_is pair.0 name same) (called_is pair.0 (head_of pair.0 d.before) (key_stands pair.0 is.name.utf8)) in
    (d, subst (λ (l : List ℕ). IsText VALUE_DEEP d l) its t, ap (λ (c : Bool). cond c (Some d.tree) later) called)
first_holds pair others d name value false later is t same law e =
    let r = law e in
    let differs : pair.0 ≢ name = λ h. unlike (sym (is_same pair.0 name h) ∙ same) in
    let called = called_other pair.0 name (head_of pair.0 d.before) differs (key_stands pair.0 is.name.utf8) in
    (r.0, r.1, ap (λ (c : Bool). cond c (Some d.tree) later) called ∙ r.2)
  where
    unlike : true ≡ false → ⊥
    unlike h = cc

members : (pair : Pair) (others : List Pair) → All IsPair (pair ∷ others) → Members pair others
members pair [] all =
    let is = All-head IsPair pair [] all in
    let d = is.value.0 in
    let t = is.value.1 in
    record {
      parts = last (head_of pair.0 d.before) d.tree d.after;
      fit = ((tt, key_string pair.0 is.name.utf8, tt, t.before), t.tree, t.after);
      room = t.depth;
      spelled = append-nil (member_text pair) ∙ ap (λ (l : List ℕ). key_text pair.0 ++ 0x3a ∷ l) t.spelled
          ∙ sym (append_assoc (key_text pair.0) (0x3a ∷ d.before) (text d.tree ++ d.after));
      holds = λ name value e. first_holds pair [] d name value (same_name pair.0 name) None is t refl (λ h. nothing name value h) e;
    }
  where
    nothing : (name value : List ℕ) → value_of name [] ≡ Some value → HasText name value None
    nothing name value h = absurd (cc)
members pair (second ∷ others) all =
    let is = All-head IsPair pair (second ∷ others) all in
    let d = is.value.0 in
    let t = is.value.1 in
    let behind = members second others (All-tail IsPair pair (second ∷ others) all) in
    record {
      parts = more (head_of pair.0 d.before) d.tree d.after behind.parts;
      fit = ((tt, key_string pair.0 is.name.utf8, tt, t.before), t.tree, t.after, behind.fit);
      room = omega (arith, t.depth, behind.room);
      spelled = ap (λ (l : List ℕ). (key_text pair.0 ++ 0x3a ∷ l) ++ 0x2c ∷ members_text (second ∷ others)) t.spelled
          ∙ spread (key_text pair.0) d.before (text d.tree) d.after (0x2c ∷ members_text (second ∷ others)) 0x3a
          ∙ ap (λ (l : List ℕ). head_text (head_of pair.0 d.before) ++ (text d.tree ++ (d.after ++ 0x2c ∷ l))) behind.spelled;
      holds = λ name value e. first_holds pair (second ∷ others) d name value (same_name pair.0 name) (member_of name behind.parts) is t refl (behind.holds name value) e;
    }

-- ---- the object

-- a document whose text attributes are, with each attribute's text at its name
pub record Object (pairs : List Pair) : Type 0 where
  pub document : Document
  pub is : IsText MOST_DEEP document (object_text pairs)
  pub holds : (name value : List ℕ) → value_of name pairs ≡ Some value
      → (d : Document) × IsText VALUE_DEEP d value × ((lookup : Lookup) (qs : List Part) → looked_in lookup name qs document.tree ≡ look_at lookup (followed qs d.tree))

-- a tree as a whole text without blanks round it
abbrev pub bare : Tree → Document
bare tree = record { before = []; tree = tree; after = [] }

-- none are an object without members
pub none_text : IsText MOST_DEEP (bare (empty shapes.Object [])) (object_text [])
unfolding object_text
none_text = record { before = tt; tree = tt; after = tt; depth = omega arith; spelled = refl }

-- attributes that may stand together are one object
pub object : (pairs : List Pair) → All IsPair pairs → Object pairs
unfolding object_text
object [] all = record { document = bare (empty shapes.Object []); is = none_text; holds = λ name value e. absurd (nothing value e) }
  where
    nothing : (value : List ℕ) → None ≡ Some value → ⊥
    nothing value e = cc
object (pair ∷ others) all =
    let m = members pair others all in
    record {
      document = bare (group shapes.Object m.parts);
      is = record {
        before = tt;
        tree = m.fit;
        after = tt;
        depth = omega (arith, m.room);
        spelled = ap (λ (l : List ℕ). 0x7b ∷ (l ++ 0x7d ∷ [])) m.spelled ∙ sym (append-nil (text (group shapes.Object m.parts)));
      };
      holds = λ name value e. let r = m.holds name value e in (r.0, r.1, λ lookup qs. ap (behind_member lookup qs) r.2);
    }

pub is_object : (pairs : List Pair) → ArePairs pairs → (d : Document) × IsText MOST_DEEP d (object_text pairs)
is_object pairs are = let o = object pairs are.each in (o.document, o.is)
