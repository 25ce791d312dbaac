-- The attributes that an edit leaves have a section.
use Rattle.std.proofs.Common.{◌≡◌, ℕ, ◌<◌, ◌≤◌, ◌^◌, List, [], ◌∷◌, length, Bool, true, false, Option, Result, Ok, Err, refl, sym, ap, subst, arith, length-append}
use Rattle.std.specs.Int.{w32, to_be_bytes}
use Rattle.doc_model.specs.declared.status.Status.{Status}
use Rattle.json_model.specs.declared.TheConstants.{MOST_DEEP}
use Rattle.json_model.specs.declared.asked.Edit.{Edit}
use Rattle.json_model.specs.Spelled.{Document, IsText, depth}
use Rattle.subdoc_step.proofs.Left.{with_tree, left_text}
use Rattle.subdoc_step.proofs.Went.{went}
use Rattle.xattr_body.specs.declared.TheConstants.{VALUE_DEEP}
use Rattle.xattr_body.specs.Section.{Pair, same_name, IsName, IsPair, pair_body, pair_bytes, pairs_bytes, section_of, HaveSection}
use Rattle.xattr_body.specs.Edits.{value_of, with_pair}
use Rattle.xattr_body.proofs.Names.{same_is}
use Rattle.xattr_body.proofs.Sections.{section_long}
use Rattle.xattr_body.proofs.Changes.{put_in, put_past, put_together, gone_whole}
use Rattle.xattr_step.specs.Object.{object_text}
use Rattle.xattr_step.specs.Answers.{EditedPairs, text_at, within_blanks, with_text, edited_in}
use Rattle.xattr_step.proofs.Steps.{leads, WentIn, went_in}
use Rattle.xattr_step.proofs.Texts.{text_has, surrounded, surrounded_text}

-- ---- sizes

-- a pair that was put is among the pairs
put_size : (name value : List ℕ) (pairs : List Pair) → length (pair_bytes (name, value)) ≤ length (pairs_bytes (with_pair name value pairs))
put_size name value [] = omega (arith, length-append (pair_bytes (name, value)) [])
put_size name value (p ∷ ps) = by_test (same_name p.0 name) refl (put_size name value ps)
  where
    by_test : (b : Bool) → same_name p.0 name ≡ b → length (pair_bytes (name, value)) ≤ length (pairs_bytes (with_pair name value ps)) → length (pair_bytes (name, value)) ≤ length (pairs_bytes (with_pair name value (p ∷ ps)))
    by_test true e less =
        omega (
          arith,
          ap (λ (l : List Pair). length (pairs_bytes l)) (put_in name value p ps e),
          ap (λ (n : List ℕ). length (pair_bytes (n, value))) (same_is p.0 name e),
          length-append (pair_bytes (p.0, value)) (pairs_bytes ps),
        )
    by_test false e less =
        omega (arith, less, ap (λ (l : List Pair). length (pairs_bytes l)) (put_past name value p ps e), length-append (pair_bytes p) (pairs_bytes (with_pair name value ps)))

-- a pair that was put can be counted where all of them can
pair_fits : (name value : List ℕ) (pairs : List Pair) → length (pairs_bytes (with_pair name value pairs)) < 2 ^ 32 → length (pair_body (name, value)) < 2 ^ 32
pair_fits name value pairs h = omega (arith, put_size name value pairs, length-append (to_be_bytes w32 (length (pair_body (name, value)))) (pair_body (name, value)), h)

-- ---- a put and a removal

put_section : (name value : List ℕ) (pairs : List Pair) (d : Document) → HaveSection pairs → IsName name → IsText VALUE_DEEP d value → length (pairs_bytes (with_pair name value pairs)) < 2 ^ 32 → HaveSection (with_pair name value pairs)
put_section name value pairs d h named is room =
    let new : IsPair (name, value) = record { name = named; value = (d, is); fits = pair_fits name value pairs room } in
    record { together = put_together name value pairs h.together new; fits = room }

text_section : (name bytes : List ℕ) (pairs : List Pair) (d : Document) (r : Result (List ℕ) Status) → HaveSection pairs → IsName name → IsText MOST_DEEP d bytes → text_at name bytes ≡ r
    → length (pairs_bytes (with_text name pairs r)) < 2 ^ 32 → HaveSection (with_text name pairs r)
text_section name bytes pairs d (Ok found) h named t e room =
    let m = text_has name bytes d found t e in
    let deep : depth m.0 ≤ VALUE_DEEP = omega (arith, m.1.below, t.depth) in
    let old : Option (List ℕ) = value_of name pairs in
    let is : IsText VALUE_DEEP (surrounded old m.0) (within_blanks old found) =
    subst (λ (l : List ℕ). IsText VALUE_DEEP (surrounded old m.0) (within_blanks old l)) m.2 (surrounded_text old m.0 (m.1.fit t.tree) deep) in
    put_section name (within_blanks old found) pairs (surrounded old m.0) h named is room
text_section name bytes pairs d (Err gone) h named t e room = gone_whole name pairs h

-- ---- an edit

-- the document that an edit of attributes makes of their object
pub left_object : (edit : Edit) (several : Bool) (pairs : List Pair) (path value : List ℕ) (made : EditedPairs) (w : WentIn edit several pairs path value made) → (d : Document) × IsText MOST_DEEP d w.left.text
left_object edit several pairs path value made w =
    let s = went edit several (object_text pairs) path value w.left w.left_is in
    (with_tree s.document s.tree.tree, left_text edit several (object_text pairs) path value w.left s)

pub section_left : (edit : Edit) (several : Bool) (pairs : List Pair) (path value : List ℕ) (made : EditedPairs) → HaveSection pairs → edited_in edit several pairs path value ≡ Ok made → HaveSection made.pairs
section_left edit several pairs path value made h e =
    let w = went_in edit several pairs path value made e in
    let l = left_object edit several pairs path value made w in
    let small : length (section_of made.pairs) < 2 ^ 32 = omega (arith, w.room) in
    let room : length (pairs_bytes (with_text w.name pairs (text_at w.name w.left.text))) < 2 ^ 32 = subst (λ (ps : List Pair). length (pairs_bytes ps) < 2 ^ 32) (sym w.pairs_are) (section_long made.pairs small) in
    subst HaveSection w.pairs_are (text_section w.name w.left.text pairs l.0 (text_at w.name w.left.text) h (leads path w.name w.name_is).is l.1 refl room)
