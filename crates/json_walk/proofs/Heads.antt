-- What is read at a place is what stands there.
use Rattle.std.proofs.Common.{◌≡◌, ℕ, ◌+◌, ◌-◌, ◌≤◌, List, [], ◌∷◌, ◌++◌, length, take, drop, get_or, Bool, true, false, cond, eqb, Some, None, Option, unwrap_or, ◌⊎◌, inl, inr, refl, sym, ap, subst, ◌∙◌, arith, append_assoc, length-append, length-drop}
use Rattle.std.specs.Prelude.{◌||◌}
use Rattle.std.proofs.lemmas.List.{take_all}
use Rattle.std.proofs.lemmas.Bool.Decides.{nat_tests}
use Rattle.json_model.specs.declared.kinds.Kind.{Kind}
use Rattle.json_model.specs.declared.kinds.Kind.TheVariants as kinds
use Rattle.json_model.specs.declared.kinds.Shape.{Shape}
use Rattle.json_model.specs.declared.kinds.Shape.TheVariants as shapes
use Rattle.json_model.specs.Moves.{gap_before}
use Rattle.json_model.specs.Spelled.{Head, plain, keyed, Tree, leaf, empty, group, Parts, opening, closing, head_text, text, parts_text, HeadFits, Fits, Document, IsText}
use Rattle.json_spell.specs.Tokens.{behind_gap, kind_at}
use Rattle.json_spell.proofs.Again.{Starts, behind_again, tree_starts, leaf_first, tree_first}
use Rattle.json_spell.proofs.Placed.{behind_short}
use Rattle.json_walk.specs.declared.places.PartAt.{PartAt}
use Rattle.json_walk.specs.Stepping.{opens, closes, behind_value, behind_key, behind_colon, is_closed, shape_told}
use Rattle.json_walk.specs.Places.{IsAt, ArePartsAt}
use Rattle.json_walk.specs.Telling.{tree_kind, tree_end, filled, first_head, first_tree, key_of, part_at, LiesWithin}
use Rattle.json_walk.proofs.Shorter.{value_short, key_short, colon_short}
use Rattle.json_walk.proofs.Strings.{Quoted, string_quoted}
use Rattle.json_walk.proofs.Words.{AreInner}
use Rattle.json_walk.proofs.Passing.{quoted_behind, value_behind, leaf_cases}
use Rattle.json_walk.proofs.Standing.{value_left, parts_left, leads}

-- ---- the root

pub root_is : (bytes rest : List ℕ) → rest ≡ behind_gap bytes → (most : ℕ) (d : Document) → IsText most d bytes → length bytes - length rest ≡ length d.before
root_is bytes rest e most d s =
    let left : List ℕ = text d.tree ++ d.after in
    let r : rest ≡ left = e ∙ ap behind_gap s.spelled ∙ behind_again d.before left s.before (tree_starts d.tree d.after s.tree) in
    omega (arith, ap (λ (l : List ℕ). length l) r, ap (λ (l : List ℕ). length l) s.spelled, length-append d.before left)

-- ---- the end of a value

pub record Bounds (bytes rest : List ℕ) (at : ℕ) : Type 0 where
  pub less : length rest ≤ length bytes
  pub low : at ≤ length bytes - length rest
  pub high : length bytes - length rest ≤ length bytes

pub value_bounds : (bytes left rest : List ℕ) (at : ℕ) → at ≤ length bytes → left ≡ drop at bytes → rest ≡ behind_value left → Bounds bytes rest at
value_bounds bytes left rest at within l r =
    let n : length left ≡ length bytes - at = ap (λ (m : List ℕ). length m) l ∙ length-drop at bytes in
    let short : length rest ≤ length left = omega (arith, ap (λ (m : List ℕ). length m) r, value_short left) in
    record { less = omega arith; low = omega arith; high = omega arith }

pub value_end_is : (bytes left rest : List ℕ) (at : ℕ) → left ≡ drop at bytes → rest ≡ behind_value left → (t : Tree) → IsAt bytes at t → length bytes - length rest ≡ tree_end at t
value_end_is bytes left rest at l r t s =
    let e : rest ≡ s.back = r ∙ ap behind_value (l ∙ value_left bytes at t s) ∙ value_behind t s.back s.fits s.ends in
    omega (arith, ap (λ (m : List ℕ). length m) e, s.at_is, ap (λ (m : List ℕ). length m) s.spelled, length-append s.front (text t ++ s.back), length-append (text t) s.back)

-- ---- the kind of a value

opening_told : (shape : Shape) → unwrap_or (kind_at (opening shape)) kinds.Null ≡ Rattle.json_spell.specs.Nodes.kind_of shape
opening_told shapes.Object = refl
opening_told shapes.Array = refl

kind_front : (t : Tree) (x : ℕ) (xs back : List ℕ) → Fits t → x ∷ xs ≡ text t ++ back → unwrap_or (kind_at x) kinds.Null ≡ tree_kind t
kind_front (leaf kind s) x xs back f e =
    let first = leaf_first kind s f in
    let same : x ≡ first.byte = ap (λ l. get_or l 0 0) (e ∙ ap (λ l. l ++ back) first.whole) in
    ap (λ n. unwrap_or (kind_at n) kinds.Null) same ∙ ap (λ k. unwrap_or k kinds.Null) first.kind_is
kind_front (empty shape gap) x xs back f e =
    let same : x ≡ opening shape = ap (λ l. get_or l 0 0) e in ap (λ n. unwrap_or (kind_at n) kinds.Null) same ∙ opening_told shape
kind_front (group shape ps) x xs back f e =
    let same : x ≡ opening shape = ap (λ l. get_or l 0 0) e in ap (λ n. unwrap_or (kind_at n) kinds.Null) same ∙ opening_told shape

pub kind_is : (bytes left : List ℕ) (at : ℕ) (kind : Kind) → left ≡ drop at bytes → 1 ≤ length left → kind ≡ unwrap_or (kind_at (get_or left 0 0)) kinds.Null → (t : Tree) → IsAt bytes at t → kind ≡ tree_kind t
kind_is bytes [] at kind l some k t s = absurd (omega arith)
kind_is bytes (x ∷ xs) at kind l some k t s = k ∙ kind_front t x xs s.back s.fits (l ∙ value_left bytes at t s)

-- ---- the head of a part

-- how a head is passed over
record Passed (h : Head) (all rest start key value : List ℕ) : Type 0 where
  begun : length start + length (gap_before h) ≡ length all
  called : length key + length (key_of h) ≡ length start
  valued : value ≡ rest

string_starts : (key rest : List ℕ) → Quoted key → Starts (key ++ rest)
string_starts key rest q = subst (λ (l : List ℕ). Starts (l ++ rest)) (sym q.whole) refl

head_passed : (shape : Shape) (h : Head) (rest start key value : List ℕ) → HeadFits shape h → Starts rest → start ≡ behind_gap (head_text h ++ rest) → key ≡ behind_key shape start → value ≡ behind_colon shape key
    → Passed h (head_text h ++ rest) rest start key value
head_passed shapes.Object (plain gap) rest start key value f st a b c = absurd f
head_passed shapes.Array (keyed gap k behind before) rest start key value f st a b c = absurd f
head_passed shapes.Array (plain gap) rest start key value f st a b c =
    let e : start ≡ rest = a ∙ behind_again gap rest f st in
    record { begun = omega (arith, ap (λ (l : List ℕ). length l) e, length-append gap rest); called = omega (arith, ap (λ (l : List ℕ). length l) b); valued = c ∙ b ∙ e }
head_passed shapes.Object (keyed gap k behind before) rest start key value f st a b c =
    let r2 : List ℕ = before ++ rest in
    let r1 : List ℕ = behind ++ 0x3a ∷ r2 in
    let q = string_quoted k f.1 in
    let split : (gap ++ (k ++ (behind ++ 0x3a ∷ before))) ++ rest ≡ gap ++ (k ++ r1) = simp append_assoc in
    let e1 : start ≡ k ++ r1 = a ∙ ap behind_gap split ∙ behind_again gap (k ++ r1) f.0 (string_starts k r1 q) in
    let e2 : key ≡ r1 = b ∙ ap behind_value e1 ∙ quoted_behind k r1 q in
    let e3 : behind_gap key ≡ 0x3a ∷ r2 = ap behind_gap e2 ∙ behind_again behind (0x3a ∷ r2) f.2 refl in
    let e4 : value ≡ rest = c ∙ ap (λ l. behind_gap (drop 1 l)) e3 ∙ behind_again before rest f.3 st in
    record {
      begun = omega (arith, ap (λ (l : List ℕ). length l) e1, ap (λ (l : List ℕ). length l) split, length-append gap (k ++ r1));
      called = omega (arith, ap (λ (l : List ℕ). length l) e1, ap (λ (l : List ℕ). length l) e2, length-append k r1);
      valued = e4;
    }

-- ---- a part

pub record Ordered (bytes start key value : List ℕ) (at : ℕ) : Type 0 where
  pub begun : length start + at ≤ length bytes
  pub called : length key ≤ length start
  pub valued : length value ≤ length key

pub ordered : (bytes left start key value : List ℕ) (at : ℕ) (shape : Shape) → at ≤ length bytes → left ≡ drop at bytes → start ≡ behind_gap left → key ≡ behind_key shape start → value ≡ behind_colon shape key
    → Ordered bytes start key value at
ordered bytes left start key value at shape within l a b c =
    let n : length left ≡ length bytes - at = ap (λ (m : List ℕ). length m) l ∙ length-drop at bytes in
    record {
      begun = omega (arith, n, ap (λ (m : List ℕ). length m) a, behind_short left);
      called = omega (arith, ap (λ (m : List ℕ). length m) b, key_short shape start);
      valued = omega (arith, ap (λ (m : List ℕ). length m) c, colon_short shape key);
    }

pub lies : (bytes start key value : List ℕ) (at : ℕ) → Ordered bytes start key value at
    → LiesWithin at (length bytes) (record { start = length bytes - length start; key_to = length bytes - length key; value = length bytes - length value })
lies bytes start key value at o = record { low = omega (arith, o.begun); keyed = omega (arith, o.called); valued = omega (arith, o.valued); high = omega arith }

same_part : (a b c d e f : ℕ) → a ≡ d → b ≡ e → c ≡ f → ◌≡◌ {A = PartAt} (record { start = a; key_to = b; value = c }) (record { start = d; key_to = e; value = f })
same_part a b c d e f p q r = rw (p, q, r) refl

pub part_is : (bytes left start key value : List ℕ) (at : ℕ) (shape : Shape) → left ≡ drop at bytes → start ≡ behind_gap left → key ≡ behind_key shape start → value ≡ behind_colon shape key
    → (ps : Parts) → ArePartsAt bytes at shape ps → ◌≡◌ {A = PartAt} (record { start = length bytes - length start; key_to = length bytes - length key; value = length bytes - length value }) (part_at at ps)
part_is bytes left start key value at shape l a b c ps s =
    let led = leads shape ps s.back s.fits in
    let h : Head = first_head ps in
    let rest : List ℕ = text (first_tree ps) ++ led.tail in
    let e : left ≡ head_text h ++ rest = l ∙ parts_left bytes at shape ps s ∙ led.split in
    let p = head_passed shape h rest start key value led.head_fits (tree_starts (first_tree ps) led.tail led.tree_fits) (a ∙ ap behind_gap e) b c in
    let whole : length bytes ≡ at + length (head_text h ++ rest) =
    omega (arith, s.at_is, ap (λ (m : List ℕ). length m) s.spelled, ap (λ (m : List ℕ). length m) led.split, length-append s.front (parts_text ps ++ closing shape ∷ s.back)) in
    let n : length value ≡ length rest = ap (λ (m : List ℕ). length m) p.valued in
    let m : length (head_text h ++ rest) ≡ length (head_text h) + length rest = length-append (head_text h) rest in
    let i : length start + length (gap_before h) ≡ length (head_text h ++ rest) = p.begun in
    let j : length key + length (key_of h) ≡ length start = p.called in
    same_part (length bytes - length start) (length bytes - length key) (length bytes - length value) (at + length (gap_before h)) (at + length (gap_before h) + length (key_of h)) (at + length (head_text h))
    (omega arith) (omega arith) (omega arith)

-- ---- a value that holds parts

not_opening : (x : ℕ) (xs : List ℕ) → opens x ≡ false → shape_told x xs ≡ None
not_opening x xs o = by_tests (is_closed (behind_gap xs)) (eqb x 0x7b) (eqb x 0x5b) o
  where
    by_tests : (b c d : Bool) → (c || d) ≡ false → cond b None (cond c (Some shapes.Object) (cond d (Some shapes.Array) None)) ≡ None
    by_tests true c d e = refl
    by_tests false true d e = cc
    by_tests false false true e = cc
    by_tests false false false e = refl

leaf_told : (x : ℕ) (xs s back : List ℕ) → Quoted s ⊎ AreInner s → 1 ≤ length s → x ∷ xs ≡ s ++ back → shape_told x xs ≡ None
leaf_told x xs s back (inl q) some e =
    let same : x ≡ 0x22 = ap (λ l. get_or l 0 0) (e ∙ ap (λ l. l ++ back) q.whole) in not_opening x xs (ap opens same)
leaf_told x xs [] back (inr f) some e = absurd (omega arith)
leaf_told x xs (y ∷ s) back (inr f) some e = let same : x ≡ y = ap (λ l. get_or l 0 0) e in not_opening x xs (ap opens same ∙ f.0.opening)

closing_closes : (shape : Shape) → closes (closing shape) ≡ true
closing_closes shapes.Object = refl
closing_closes shapes.Array = refl

opening_shape : (shape : Shape) (xs : List ℕ) → is_closed (behind_gap xs) ≡ false → shape_told (opening shape) xs ≡ Some shape
opening_shape shapes.Object xs e = ap (λ b. cond b None (Some shapes.Object)) e
opening_shape shapes.Array xs e = ap (λ b. cond b None (Some shapes.Array)) e

empty_shape : (shape : Shape) (xs : List ℕ) → is_closed (behind_gap xs) ≡ true → shape_told (opening shape) xs ≡ None
empty_shape shapes.Object xs e = ap (λ b. cond b None (Some shapes.Object)) e
empty_shape shapes.Array xs e = ap (λ b. cond b None (Some shapes.Array)) e

-- a byte that begins a value closes nothing
kind_opens : (x : ℕ) (k : Kind) → kind_at x ≡ Some k → closes x ≡ false
kind_opens x k e = not_true (closes x) (λ h. by_byte (closing_is x h))
  where
    closing_is : (x : ℕ) → closes x ≡ true → (x ≡ 0x7d) ⊎ (x ≡ 0x5d)
    closing_is x h = grind (arith, nat_tests)

    by_byte : (x ≡ 0x7d) ⊎ (x ≡ 0x5d) → ⊥
    by_byte (inl h) = let m : None ≡ Some k = sym (ap kind_at h) ∙ e in cc
    by_byte (inr h) = let m : None ≡ Some k = sym (ap kind_at h) ∙ e in cc

    not_true : (b : Bool) → (b ≡ true → ⊥) → b ≡ false
    not_true true h = absurd (h refl)
    not_true false h = refl

not_closed : (shape : Shape) (h : Head) (t : Tree) (tail : List ℕ) → HeadFits shape h → Fits t → is_closed (behind_gap (head_text h ++ (text t ++ tail))) ≡ false
not_closed shapes.Object (plain gap) t tail f ft = absurd f
not_closed shapes.Array (keyed gap k behind before) t tail f ft = absurd f
not_closed shapes.Array (plain gap) t tail f ft =
    let first = tree_first t ft in
    ap is_closed (behind_again gap (text t ++ tail) f (tree_starts t tail ft) ∙ ap (λ l. l ++ tail) first.whole) ∙ kind_opens first.byte _ first.kind_is
not_closed shapes.Object (keyed gap k behind before) t tail f ft =
    let q = string_quoted k f.1 in
    let r1 : List ℕ = behind ++ 0x3a ∷ (before ++ (text t ++ tail)) in
    let split : (gap ++ (k ++ (behind ++ 0x3a ∷ before))) ++ (text t ++ tail) ≡ gap ++ (k ++ r1) = simp append_assoc in
    ap (λ l. is_closed (behind_gap l)) split ∙ ap is_closed (behind_again gap (k ++ r1) f.0 (string_starts k r1 q) ∙ ap (λ l. l ++ r1) q.whole)

filled_front : (t : Tree) (x : ℕ) (xs back : List ℕ) → Fits t → x ∷ xs ≡ text t ++ back → shape_told x xs ≡ filled t
filled_front (leaf kind s) x xs back f e =
    let first = leaf_first kind s f in leaf_told x xs s back (leaf_cases kind s f) (omega (arith, ap (λ (l : List ℕ). length l) first.whole)) e
filled_front (empty shape gap) x xs back f e =
    let same : x ≡ opening shape = ap (λ l. get_or l 0 0) e in
    let behind : xs ≡ (gap ++ closing shape ∷ []) ++ back = ap (drop 1) e in
    let split : (gap ++ closing shape ∷ []) ++ back ≡ gap ++ closing shape ∷ back = append_assoc gap (closing shape ∷ []) back in
    let at : behind_gap xs ≡ closing shape ∷ back = ap behind_gap (behind ∙ split) ∙ behind_again gap (closing shape ∷ back) f (closing_starts shape back) in
    ap (λ n. shape_told n xs) same ∙ empty_shape shape xs (ap is_closed at ∙ closing_closes shape)
  where
    closing_starts : (shape : Shape) (rest : List ℕ) → Starts (closing shape ∷ rest)
    closing_starts shapes.Object rest = refl
    closing_starts shapes.Array rest = refl
filled_front (group shape ps) x xs back f e =
    let same : x ≡ opening shape = ap (λ l. get_or l 0 0) e in
    let led = leads shape ps back f in
    let behind : xs ≡ (parts_text ps ++ closing shape ∷ []) ++ back = ap (drop 1) e in
    let split : (parts_text ps ++ closing shape ∷ []) ++ back ≡ parts_text ps ++ closing shape ∷ back = append_assoc (parts_text ps) (closing shape ∷ []) back in
    ap (λ n. shape_told n xs) same ∙ opening_shape shape xs (ap (λ l. is_closed (behind_gap l)) (behind ∙ split ∙ led.split) ∙ not_closed shape (first_head ps) (first_tree ps) led.tail led.head_fits led.tree_fits)

pub filled_is : (bytes left behind : List ℕ) (at : ℕ) (shape : Option Shape) → left ≡ drop at bytes → 1 ≤ length left → behind ≡ take (length left - 1) (drop 1 left) → shape ≡ shape_told (get_or left 0 0) behind
    → (t : Tree) → IsAt bytes at t → shape ≡ filled t
filled_is bytes [] behind at shape l some b k t s = absurd (omega arith)
filled_is bytes (x ∷ xs) behind at shape l some b k t s =
    let tail : behind ≡ xs = b ∙ take_all (length (x ∷ xs) - 1) xs (omega arith) in
    k ∙ ap (shape_told x) tail ∙ filled_front t x xs s.back s.fits (l ∙ value_left bytes at t s)
