-- A whole text: what is told of its value and of what is left.
use Rattle.std.proofs.Common.{◌≡◌, ℕ, ◌+◌, ◌-◌, List, [], ◌∷◌, ◌++◌, length, Result, Ok, Err, refl, sym, ap, subst, ◌∙◌, arith, true, false, eqb, drop}
use Rattle.std.proofs.lemmas.Bool.Decides.{nat_tests}
use Rattle.std.proofs.lemmas.List.{take-append-drop}
use Rattle.json_spell.specs.declared.scanned.Scanned.{Scanned}
use Rattle.json_spell.specs.declared.scanned.Scanned.TheVariants as scans
use Rattle.json_spell.specs.declared.node.Span.{Span}
use Rattle.json_spell.specs.declared.node.Node.{Node}
use Rattle.json_spell.specs.declared.tokens.Stop.{Stop}
use Rattle.json_spell.specs.declared.tokens.Stop.TheVariants as stops
use Rattle.json_model.specs.Spelled.{Tree, Document, IsText}
use Rattle.json_spell.specs.Nodes.{tree_nodes, document_nodes}
use Rattle.json_spell.specs.Places.{Scans, Finds}
use Rattle.json_model.specs.declared.TheConstants.{MOST_DEEP}
use Rattle.json_spell.proofs.Exact.{one_text}
use Rattle.json_spell.specs.Tokens.{gap, behind_gap}
use Rattle.json_spell.specs.Reading.{value_at, ended, document_at, Writes, WritesDocument}
use Rattle.json_spell.proofs.Fronts.{gap_length}

document_is : (text rest : List ℕ) (tree : Tree) → value_at MOST_DEEP (behind_gap text) ≡ Ok (tree, rest) → document_at MOST_DEEP text ≡ ended (behind_gap rest) (record { before = gap text; tree = tree; after = gap rest })
unfolding document_at
document_is text rest tree e = rw e refl

pub document_stops : (text : List ℕ) (s : Stop) → value_at MOST_DEEP (behind_gap text) ≡ Err s → document_at MOST_DEEP text ≡ Err s
unfolding document_at
document_stops text s e = rw e refl

pub document_done : (text skipped rest left : List ℕ) (old new : List Node) → old ≡ [] → skipped ≡ behind_gap text
    → (t : Tree) × (value_at MOST_DEEP skipped ≡ Ok (t, rest)) × (new ≡ old ++ tree_nodes (length text - length skipped) (length old) (record { from = 0; to = 0 }) t)
    → left ≡ behind_gap rest → left ≡ [] → (d : Document) × (document_at MOST_DEEP text ≡ Ok d) × (new ≡ document_nodes d)
document_done text skipped rest left old new none s (t, e, n) l empty =
    let value_is : value_at MOST_DEEP (behind_gap text) ≡ Ok (t, rest) = ap (value_at MOST_DEEP) (sym s) ∙ e in
    let d : Document = record { before = gap text; tree = t; after = gap rest } in
    let place : length text - length skipped ≡ length (gap text) = omega (arith, ap (λ (l : List ℕ). length l) s, gap_length text) in
    let key : Span = record { from = 0; to = 0 } in
    (d, document_is text rest t value_is ∙ ap (λ l. ended l d) (sym l ∙ empty), n ∙ ap (λ l. l ++ tree_nodes (length text - length skipped) (length l) key t) none ∙ ap (λ (i : ℕ). tree_nodes i 0 key t) place)

pub document_left : (text skipped rest left : List ℕ) (tree : Tree) → skipped ≡ behind_gap text → value_at MOST_DEEP skipped ≡ Ok (tree, rest) → left ≡ behind_gap rest → (left ≡ [] → ⊥) → document_at MOST_DEEP text ≡ Err (stops.Not (length left))
document_left text skipped rest left tree s e l some =
    let value_is : value_at MOST_DEEP (behind_gap text) ≡ Ok (tree, rest) = ap (value_at MOST_DEEP) (sym s) ∙ e in
    document_is text rest tree value_is ∙ ap (λ l. ended l (record { before = gap text; tree = tree; after = gap rest })) (sym l) ∙ by_left left some
  where
    by_left : (l : List ℕ) → (l ≡ [] → ⊥) → ended l (record { before = gap text; tree = tree; after = gap rest }) ≡ Err (stops.Not (length l))
    by_left [] some = absurd (some refl)
    by_left (x ∷ xs) some = refl

pub document_err : (text skipped : List ℕ) (made : Tree → List Node) (old new : List Node) (s : Stop) (r : Result (Unit {0}) Stop) → skipped ≡ behind_gap text → r ≡ Err s → Writes (value_at MOST_DEEP skipped) made old new (Err s) → WritesDocument (document_at MOST_DEEP text) new r
document_err text skipped made old new s r k e h = subst (λ r. WritesDocument (document_at MOST_DEEP text) new r) (sym e) (by_stop s h)
  where
    by_stop : (s : Stop) → Writes (value_at MOST_DEEP skipped) made old new (Err s) → WritesDocument (document_at MOST_DEEP text) new (Err s)
    by_stop (stops.Not n) h = document_stops text (stops.Not n) (ap (value_at MOST_DEEP) (sym k) ∙ h)
    by_stop (stops.Deep n) h = document_stops text (stops.Deep n) (ap (value_at MOST_DEEP) (sym k) ∙ h)
    by_stop stops.NoMemory h = tt

pub empty_true : (l : List ℕ) → true ≡ eqb (length l) 0 → l ≡ []
empty_true [] e = refl
empty_true (x ∷ xs) e = absurd (grind (arith, nat_tests))

pub empty_false : (l : List ℕ) → false ≡ eqb (length l) 0 → l ≡ [] → ⊥
empty_false [] e h = cc
empty_false (x ∷ xs) e h = cc

-- a text is found
pub finds : (bytes : List ℕ) (r : Scanned) → Scans bytes r → (d : Document) → IsText MOST_DEEP d bytes → Finds d r
finds bytes (scans.Json spans) (e, is, n) d h = n ∙ ap document_nodes (one_text MOST_DEEP bytes e d is h)
finds bytes (scans.Not place) t d h = t.cut d h
finds bytes (scans.Deep place) t d h = t.wrong (d, drop (place + 1) bytes, subst (λ (l : List ℕ). IsText MOST_DEEP d l) (sym (take-append-drop (place + 1) bytes)) h)
finds bytes scans.NoMemory t d h = tt
