-- Where in the text things stand that are read.
use Rattle.std.proofs.Common.{◌≡◌, ℕ, ◌+◌, ◌-◌, ◌≤◌, List, [], ◌∷◌, ◌++◌, length, Ok, refl, sym, ap, ◌∙◌, arith, length-append}
use Rattle.json_model.specs.declared.kinds.Kind.{Kind}
use Rattle.json_spell.specs.declared.node.Span.{Span}
use Rattle.json_spell.specs.declared.node.Node.{Node}
use Rattle.json_model.specs.declared.kinds.Shape.TheVariants as shapes
use Rattle.json_model.specs.Spelled.{keyed, Tree, leaf}
use Rattle.json_spell.specs.Nodes.{key_span, tree_nodes}
use Rattle.json_spell.specs.Tokens.{gap, behind_gap}
use Rattle.json_spell.specs.Reading.{◌>>=◌, Read, cut, behind_byte, key_end, key_at, leaf_end, leaf_at, IsAt}
use Rattle.json_spell.proofs.Fronts.{gap_length, cut_is}
use Rattle.json_spell.proofs.Values.{fine, key_took, leaf_took, kind_opens}
use Rattle.json_spell.proofs.Again.{head_chain}

pub behind_short : (bytes : List ℕ) → length (behind_gap bytes) ≤ length bytes
behind_short bytes = omega (arith, gap_length bytes)

pub key_short : (bytes rest : List ℕ) → Ok rest ≡ key_end bytes → length rest ≤ length bytes
key_short bytes rest e = let t = key_took bytes rest (sym e) in omega (arith, ap (λ (l : List ℕ). length l) t.whole, length-append t.front rest)

cut_length : (bytes rest : List ℕ) → Ok rest ≡ key_end bytes → length (cut bytes rest) + length rest ≡ length bytes
cut_length bytes rest e =
    let t = key_took bytes rest (sym e) in
    let c : cut bytes rest ≡ t.front = cut_is bytes t.front rest t.whole in
    omega (arith, ap (λ (l : List ℕ). length l) t.whole, length-append t.front rest, ap (λ (l : List ℕ). length l) c)

same_span : (from to from2 to2 : ℕ) (rest : List ℕ) → from ≡ from2 → to ≡ to2 → fine {A = Span × List ℕ} (record { from = from; to = to }, rest) ≡ fine (record { from = from2; to = to2 }, rest)
same_span from to from2 to2 rest a b = rw (a, b) refl

pub key_at_is : (end : ℕ) (bytes key rest value : List ℕ) → length bytes ≤ end → key ≡ behind_gap bytes → Ok rest ≡ key_end key → Ok value ≡ behind_byte 0x3a (behind_gap rest)
    → fine {A = Span × List ℕ} (record { from = end - length key; to = end - length rest }, behind_gap value) ≡ key_at (end - length bytes) shapes.Object bytes
key_at_is end bytes key rest value room k r v =
    let e : Ok rest ≡ key_end (behind_gap bytes) = r ∙ ap key_end k in
    let one : key_at (end - length bytes) shapes.Object bytes ≡ fine {A = Span × List ℕ} (key_span (end - length bytes) (keyed (gap bytes) (cut (behind_gap bytes) rest) (gap rest) (gap value)), behind_gap value)
    = ap (λ h. h >>= λ x. fine {A = Span × List ℕ} (key_span (end - length bytes) x.0, x.1)) (head_chain bytes rest value (sym e) (sym v)) in
    let n : length key ≡ length (behind_gap bytes) = ap (λ (l : List ℕ). length l) k in
    same_span (end - length key) (end - length rest) (end - length bytes + length (gap bytes)) (end - length bytes + length (gap bytes) + length (cut (behind_gap bytes) rest)) (behind_gap value)
    (omega (arith, gap_length bytes)) (omega (arith, gap_length bytes, cut_length (behind_gap bytes) rest e)) ∙ sym one

-- ---- leaves

abbrev pub list_of : Node → List Node
list_of n = n ∷ []

-- what a reading that went well gives
abbrev pub Adds : {A : Type 0} → Read A → (A → List Node) → List Node → List Node → List ℕ → Type 0
Adds {A} read made old new rest = (x : A) × (read ≡ Ok (x, rest)) × (new ≡ old ++ made x)

leaf_cut : (kind : Kind) (bytes rest : List ℕ) → IsAt kind bytes → Ok rest ≡ leaf_end kind bytes → length (cut bytes rest) + length rest ≡ length bytes
leaf_cut kind bytes rest (byte, behind, e, k) h =
    let t = leaf_took kind byte behind rest (kind_opens byte kind k) (ap (leaf_end kind) (sym e) ∙ sym h) in
    let whole : bytes ≡ t.front ++ rest = e ∙ t.whole in
    let c : cut bytes rest ≡ t.front = cut_is bytes t.front rest whole in
    omega (arith, ap (λ (l : List ℕ). length l) whole, length-append t.front rest, ap (λ (l : List ℕ). length l) c)

pub leaf_short : (kind : Kind) (bytes rest : List ℕ) → IsAt kind bytes → Ok rest ≡ leaf_end kind bytes → length rest ≤ length bytes
leaf_short kind bytes rest at h = omega (arith, leaf_cut kind bytes rest at h)

same_node : (kind : Kind) (key : Span) (from to to2 after after2 : ℕ) → to ≡ to2 → after ≡ after2
    → list_of (record { kind = kind; from = from; to = to; key_from = key.from; key_to = key.to; children = 0; after = after })
    ≡ list_of (record { kind = kind; from = from; to = to2; key_from = key.from; key_to = key.to; children = 0; after = after2 })
same_node kind key from to to2 after after2 a b = rw (a, b) refl

-- the node that a leaf adds
pub leaf_adds : (end : ℕ) (kind : Kind) (key : Span) (bytes rest : List ℕ) (old new : List Node) (after : ℕ) → length bytes ≤ end → IsAt kind bytes → Ok rest ≡ leaf_end kind bytes
    → after ≡ length old + 1
    → new ≡ old ++ list_of (record { kind = kind; from = end - length bytes; to = end - length rest; key_from = key.from; key_to = key.to; children = 0; after = after })
    → Adds (leaf_at kind bytes) (λ t. tree_nodes (end - length bytes) (length old) key t) old new rest
leaf_adds end kind key bytes rest old new after room at h a n = (
  leaf kind (cut bytes rest),
  ap (λ r. r >>= λ l. fine {A = Tree × List ℕ} (leaf kind (cut bytes l), l)) (sym h),
  n ∙ ap (λ l. old ++ l) (same_node kind key (end - length bytes) (end - length rest) (end - length bytes + length (cut bytes rest)) after (length old + 1) (omega (arith, leaf_cut kind bytes rest at h)) a),
)
