-- A text is at most 31 deep where it is JSON, and so is the array of it at most 32 deep.
use Rattle.std.proofs.Common.{◌≡◌, ℕ, suc, ◌≤◌, List, [], sym, ap, ◌∙◌, append-nil, arith}
use Rattle.json_model.specs.declared.kinds.Shape.TheVariants as shapes
use Rattle.json_model.specs.declared.TheConstants.{MOST_DEEP}
use Rattle.json_model.specs.Spelled.{Document, IsText, group, last, plain, document_text, depth}
use Rattle.json_model.specs.Values.{bracketed}
use Rattle.json_spell.proofs.Exact.{one_text}
use Rattle.xattr_body.specs.declared.TheConstants.{VALUE_DEEP}
use Rattle.xattr_body.specs.Section.{IsValue}

-- an array whose one element is a text
wrapped : Document → Document
wrapped d = record { before = []; tree = group shapes.Array (last (plain d.before) d.tree d.after); after = [] }

spelled : (bytes : List ℕ) (d : Document) → bytes ≡ document_text d → bracketed bytes ≡ document_text (wrapped d)
unfolding wrapped
spelled bytes d e = ap bracketed e ∙ sym (append-nil (bracketed (document_text d)))

deeper : (most : ℕ) (d : Document) (bytes : List ℕ) → IsText most d bytes → IsText (suc most) (wrapped d) (bracketed bytes)
unfolding wrapped
deeper most d bytes t = record {
  before = tt;
  tree = (t.before, t.tree, t.after);
  after = tt;
  depth = omega (arith, t.depth);
  spelled = spelled bytes d t.spelled;
}

higher : (most more : ℕ) (d : Document) (bytes : List ℕ) → most ≤ more → IsText most d bytes → IsText more d bytes
higher most more d bytes le t = record { before = t.before; tree = t.tree; after = t.after; depth = omega (arith, t.depth, le); spelled = t.spelled }

pub value_found : (bytes : List ℕ) (d e : Document) → IsText MOST_DEEP d bytes → IsText MOST_DEEP e (bracketed bytes) → IsValue bytes
unfolding wrapped
value_found bytes d e t u =
    let same : wrapped d ≡ e = one_text (suc MOST_DEEP) (bracketed bytes) (wrapped d) e (deeper MOST_DEEP d bytes t) (higher MOST_DEEP (suc MOST_DEEP) e (bracketed bytes) (omega arith) u) in
    let deep : suc (depth d.tree) ≡ depth e.tree = ap (λ (f : Document). depth f.tree) same in
    (d, record { before = t.before; tree = t.tree; after = t.after; depth = omega (arith, deep, u.depth); spelled = t.spelled })

pub value_text : (bytes : List ℕ) → IsValue bytes → (d : Document) × IsText MOST_DEEP d bytes
value_text bytes v = (v.0, higher VALUE_DEEP MOST_DEEP v.0 bytes (omega arith) v.1)

pub value_array : (bytes : List ℕ) → IsValue bytes → (d : Document) × IsText MOST_DEEP d (bracketed bytes)
value_array bytes v = (wrapped v.0, deeper VALUE_DEEP v.0 bytes v.1)
