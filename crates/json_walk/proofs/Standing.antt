-- From where a value stands to where its parts stand, and from part to part.
use Rattle.std.proofs.Common.{◌≡◌, ℕ, zero, suc, ◌+◌, ◌-◌, ◌<◌, ◌≤◌, List, [], ◌∷◌, ◌++◌, length, take, drop, Some, inl, inr, refl, sym, ap, subst, ◌∙◌, arith, append_assoc, length-append}
use Rattle.std.proofs.lemmas.List.{drop_at, take_at}
use Rattle.json_model.specs.declared.kinds.Shape.{Shape}
use Rattle.json_model.specs.declared.kinds.Shape.TheVariants as shapes
use Rattle.json_model.specs.Grammar.{AreBlanks, IsString}
use Rattle.json_model.specs.Moves.{gap_before}
use Rattle.json_model.specs.Spelled.{Head, plain, keyed, Tree, group, Parts, last, more, opening, closing, head_text, text, parts_text, HeadFits, Fits, PartsFit, Document, IsText}
use Rattle.json_model.specs.Follow.{child}
use Rattle.json_walk.specs.Places.{Ends, IsAt, ArePartsAt}
use Rattle.json_walk.specs.Telling.{tree_end, first_head, first_tree, key_of, part_at, end_at, parts_from}

-- ---- what ends a value

ends_closing : (shape : Shape) (rest : List ℕ) → Ends (closing shape ∷ rest)
ends_closing shapes.Object rest = inr (inr (inl refl))
ends_closing shapes.Array rest = inr (inr (inr refl))

ends_comma : (rest : List ℕ) → Ends (0x2c ∷ rest)
ends_comma rest = inr (inl refl)

ends_blanks : (gap rest : List ℕ) → AreBlanks gap → Ends rest → Ends (gap ++ rest)
ends_blanks [] rest f e = e
ends_blanks (x ∷ gap) rest f e = inl f.0

ends_only : (gap : List ℕ) → AreBlanks gap → Ends gap
ends_only [] f = tt
ends_only (x ∷ gap) f = inl f.0

-- ---- the bytes from a place on

-- a value stands within the text
pub value_within : (bytes : List ℕ) (at : ℕ) (t : Tree) → IsAt bytes at t → tree_end at t ≤ length bytes
value_within bytes at t s =
    omega (arith, s.at_is, ap (λ (l : List ℕ). length l) s.spelled, length-append s.front (text t ++ s.back), length-append (text t) s.back)

-- the bytes from a value's place on are its text and what stands behind it
pub value_left : (bytes : List ℕ) (at : ℕ) (t : Tree) (s : IsAt bytes at t) → drop at bytes ≡ text t ++ s.back
value_left bytes at t s = ap (drop at) s.spelled ∙ drop_at s.front (text t ++ s.back) at s.at_is

-- the bytes of a value are its text
pub value_text : (bytes : List ℕ) (at : ℕ) (t : Tree) → IsAt bytes at t → take (length (text t)) (drop at bytes) ≡ text t
value_text bytes at t s = ap (take (length (text t))) (value_left bytes at t s) ∙ take_at (text t) s.back (length (text t)) refl

pub parts_left : (bytes : List ℕ) (at : ℕ) (shape : Shape) (ps : Parts) (s : ArePartsAt bytes at shape ps) → drop at bytes ≡ parts_text ps ++ closing shape ∷ s.back
parts_left bytes at shape ps s = ap (drop at) s.spelled ∙ drop_at s.front (parts_text ps ++ closing shape ∷ s.back) at s.at_is

-- parts stand within the text
pub parts_within : (bytes : List ℕ) (at : ℕ) (shape : Shape) (ps : Parts) → ArePartsAt bytes at shape ps → at + length (parts_text ps) < length bytes
parts_within bytes at shape ps s =
    omega (arith, s.at_is, ap (λ (l : List ℕ). length l) s.spelled, length-append s.front (parts_text ps ++ closing shape ∷ s.back), length-append (parts_text ps) (closing shape ∷ s.back))

-- ---- the first of some parts

-- what the first of some parts is in its text: its head, its value, and what ends that
pub record Leads (shape : Shape) (ps : Parts) (behind : List ℕ) : Type 0 where
  pub tail : List ℕ
  pub split : parts_text ps ++ closing shape ∷ behind ≡ head_text (first_head ps) ++ (text (first_tree ps) ++ tail)
  pub head_fits : HeadFits shape (first_head ps)
  pub tree_fits : Fits (first_tree ps)
  pub ends : Ends tail

pub leads : (shape : Shape) (ps : Parts) (behind : List ℕ) → PartsFit shape ps → Leads shape ps behind
leads shape (last h t g) behind f = record {
  tail = g ++ closing shape ∷ behind;
  split = simp append_assoc;
  head_fits = f.0;
  tree_fits = f.1;
  ends = ends_blanks g (closing shape ∷ behind) f.2 (ends_closing shape behind);
}
leads shape (more h t g ps) behind f = record {
  tail = g ++ 0x2c ∷ (parts_text ps ++ closing shape ∷ behind);
  split = simp append_assoc;
  head_fits = f.0;
  tree_fits = f.1;
  ends = ends_blanks g (0x2c ∷ (parts_text ps ++ closing shape ∷ behind)) f.2 (ends_comma (parts_text ps ++ closing shape ∷ behind));
}

-- the value of the first part stands behind its head
pub first_value : (bytes : List ℕ) (at : ℕ) (shape : Shape) (ps : Parts) → ArePartsAt bytes at shape ps → IsAt bytes (part_at at ps).value (first_tree ps)
first_value bytes at shape ps s =
    let l = leads shape ps s.back s.fits in
    record {
      front = s.front ++ head_text (first_head ps);
      back = l.tail;
      spelled = s.spelled ∙ ap (λ m. s.front ++ m) l.split ∙ sym (append_assoc s.front (head_text (first_head ps)) (text (first_tree ps) ++ l.tail));
      at_is = omega (arith, s.at_is, length-append s.front (head_text (first_head ps)));
      fits = l.tree_fits;
      ends = l.ends;
    }

-- ---- from a value to its parts, and on

-- the parts of an object or an array stand behind its bracket
pub inside : (bytes : List ℕ) (at : ℕ) (shape : Shape) (ps : Parts) → IsAt bytes at (group shape ps) → ArePartsAt bytes (at + 1) shape ps
inside bytes at shape ps s =
    let split : s.front ++ (opening shape ∷ (parts_text ps ++ closing shape ∷ []) ++ s.back) ≡ (s.front ++ opening shape ∷ []) ++ (parts_text ps ++ closing shape ∷ s.back) = simp append_assoc in
    record {
      front = s.front ++ opening shape ∷ [];
      back = s.back;
      spelled = s.spelled ∙ split;
      at_is = omega (arith, s.at_is, length-append s.front (opening shape ∷ []));
      fits = s.fits;
    }

-- the parts behind the first one stand behind the comma
pub behind_comma : (bytes : List ℕ) (at : ℕ) (shape : Shape) (h : Head) (t : Tree) (g : List ℕ) (ps : Parts) → ArePartsAt bytes at shape (more h t g ps)
    → ArePartsAt bytes (end_at at (more h t g ps) + length g + 1) shape ps
behind_comma bytes at shape h t g ps s =
    let before : List ℕ = head_text h ++ (text t ++ (g ++ 0x2c ∷ [])) in
    let split : s.front ++ ((head_text h ++ (text t ++ (g ++ 0x2c ∷ parts_text ps))) ++ closing shape ∷ s.back) ≡ (s.front ++ before) ++ (parts_text ps ++ closing shape ∷ s.back) = simp append_assoc in
    record {
      front = s.front ++ before;
      back = s.back;
      spelled = s.spelled ∙ split;
      at_is = omega (arith, s.at_is, length-append s.front before, length-append (head_text h) (text t ++ (g ++ 0x2c ∷ [])), length-append (text t) (g ++ 0x2c ∷ []), length-append g (0x2c ∷ []));
      fits = s.fits.3;
    }

-- the value of a whole text stands behind the blanks at the front
pub root_at : (most : ℕ) (d : Document) (bytes : List ℕ) → IsText most d bytes → IsAt bytes (length d.before) d.tree
root_at most d bytes s = record { front = d.before; back = d.after; spelled = s.spelled; at_is = refl; fits = s.tree; ends = ends_only d.after s.after }

-- ---- the part of a number

-- parts from one of them on, where they stand
pub record Further (bytes : List ℕ) (shape : Shape) (k at : ℕ) (ps : Parts) (t : Tree) : Type 0 where
  pub from : ℕ
  pub left : Parts
  pub found : parts_from k at ps ≡ Some (from, left)
  pub there : ArePartsAt bytes from shape left
  pub first : first_tree left ≡ t

-- the part of a number that has a value is found, and stands in the text
pub child_at : (bytes : List ℕ) (shape : Shape) (k at : ℕ) (ps : Parts) (t : Tree) → ArePartsAt bytes at shape ps → child ps k ≡ Some t → Further bytes shape k at ps t
child_at bytes shape zero at (last h u g) t s e = let same : u ≡ t = cc in record { from = at; left = last h u g; found = refl; there = s; first = same }
child_at bytes shape (suc k) at (last h u g) t s e = cc
child_at bytes shape zero at (more h u g ps) t s e = let same : u ≡ t = cc in record { from = at; left = more h u g ps; found = refl; there = s; first = same }
child_at bytes shape (suc k) at (more h u g ps) t s e =
    let f = child_at bytes shape k (end_at at (more h u g ps) + length g + 1) ps t (behind_comma bytes at shape h u g ps s) e in
    record { from = f.from; left = f.left; found = f.found; there = f.there; first = f.first }

-- ---- keys

-- the bytes of a member's key are its text, and that is a string
pub record IsKey (bytes : List ℕ) (at : ℕ) (ps : Parts) : Type 0 where
  pub inside : take ((part_at at ps).key_to - (part_at at ps).start) (drop (part_at at ps).start bytes) ≡ key_of (first_head ps)
  pub string : IsString (key_of (first_head ps))

cut_out : (bytes front middle back : List ℕ) (from to : ℕ) → bytes ≡ front ++ (middle ++ back) → length front ≡ from → to ≡ from + length middle → take (to - from) (drop from bytes) ≡ middle
cut_out bytes front middle back from to e n m =
    ap (λ l. take (to - from) l) (ap (drop from) e ∙ drop_at front (middle ++ back) from n) ∙ take_at middle back (to - from) (omega arith)

keyed_at : (bytes : List ℕ) (at : ℕ) (ps : Parts) (h : Head) (front rest : List ℕ) → first_head ps ≡ h → HeadFits shapes.Object h → bytes ≡ front ++ (head_text h ++ rest) → length front ≡ at → IsKey bytes at ps
keyed_at bytes at ps (plain gap) front rest e f whole n = absurd f
keyed_at bytes at ps (keyed gap key behind before) front rest e f whole n =
    let more : List ℕ = (behind ++ 0x3a ∷ before) ++ rest in
    let split : front ++ ((gap ++ (key ++ (behind ++ 0x3a ∷ before))) ++ rest) ≡ (front ++ gap) ++ (key ++ more) = simp append_assoc in
    let g : length (gap_before (first_head ps)) ≡ length gap = ap (λ h. length (gap_before h)) e in
    let k : key_of (first_head ps) ≡ key = ap key_of e in
    record {
      inside =
          cut_out bytes (front ++ gap) key more (part_at at ps).start (part_at at ps).key_to (whole ∙ split) (omega (arith, n, g, length-append front gap)) (omega (arith, ap (λ (l : List ℕ). length l) k)) ∙ sym k;
      string = subst IsString (sym k) f.1;
    }

pub key_at : (bytes : List ℕ) (at : ℕ) (ps : Parts) → ArePartsAt bytes at shapes.Object ps → IsKey bytes at ps
key_at bytes at ps s =
    let l = leads shapes.Object ps s.back s.fits in
    keyed_at bytes at ps (first_head ps) s.front (text (first_tree ps) ++ l.tail) refl l.head_fits (s.spelled ∙ ap (λ m. s.front ++ m) l.split) s.at_is
