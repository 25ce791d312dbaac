-- From part to part.
use Rattle.std.proofs.Common.{◌≡◌, ◌≢◌, ℕ, zero, suc, ◌+◌, ◌-◌, ◌<◌, ◌≤◌, List, [], ◌∷◌, ◌++◌, length, take, drop, get_or, Some, None, Option, unwrap_or, refl, sym, ap, subst, ◌∙◌, arith, append_assoc, length-append, length-drop}
use Rattle.std.specs.Prelude.{IfSome}
use Rattle.std.proofs.lemmas.List.{take_all, drop_at}
use Rattle.json_model.specs.declared.kinds.Shape.{Shape}
use Rattle.json_model.specs.declared.kinds.Shape.TheVariants as shapes
use Rattle.json_model.specs.Spelled.{Head, Tree, leaf, empty, group, Parts, last, more, closing, head_text, text, parts_text, count}
use Rattle.json_spell.specs.Tokens.{behind_gap}
use Rattle.json_spell.proofs.Again.{Starts, behind_again}
use Rattle.json_spell.proofs.Placed.{behind_short}
use Rattle.json_walk.specs.declared.places.PartAt.{PartAt}
use Rattle.json_walk.specs.Places.{IsAt, ArePartsAt}
use Rattle.json_walk.specs.Telling.{tree_end, filled, first_tree, part_at, end_at, parts_behind, parts_from, told, part_of, last_end_at, last_end_of, many_of, LiesWithin}
use Rattle.json_walk.proofs.Standing.{first_value, inside, behind_comma}

-- ---- the bytes behind a part's value

closing_starts : (shape : Shape) (rest : List ℕ) → Starts (closing shape ∷ rest)
closing_starts shapes.Object rest = refl
closing_starts shapes.Array rest = refl

-- behind the value of one of several parts, and its blanks, stands the comma
comma_left : (bytes : List ℕ) (at : ℕ) (shape : Shape) (h : Head) (t : Tree) (g : List ℕ) (ps : Parts) (s : ArePartsAt bytes at shape (more h t g ps))
    → behind_gap (drop (end_at at (more h t g ps)) bytes) ≡ 0x2c ∷ (parts_text ps ++ closing shape ∷ s.back)
comma_left bytes at shape h t g ps s =
    let rest : List ℕ = parts_text ps ++ closing shape ∷ s.back in
    let front : List ℕ = s.front ++ (head_text h ++ text t) in
    let split : s.front ++ ((head_text h ++ (text t ++ (g ++ 0x2c ∷ parts_text ps))) ++ closing shape ∷ s.back) ≡ front ++ (g ++ 0x2c ∷ rest) = simp append_assoc in
    let n : length front ≡ end_at at (more h t g ps) = omega (arith, s.at_is, length-append s.front (head_text h ++ text t), length-append (head_text h) (text t)) in
    ap behind_gap (ap (drop (end_at at (more h t g ps))) (s.spelled ∙ split) ∙ drop_at front (g ++ 0x2c ∷ rest) (end_at at (more h t g ps)) n) ∙ behind_again g (0x2c ∷ rest) s.fits.2 refl

-- behind that of the last one the bracket
bracket_left : (bytes : List ℕ) (at : ℕ) (shape : Shape) (h : Head) (t : Tree) (g : List ℕ) (s : ArePartsAt bytes at shape (last h t g))
    → behind_gap (drop (end_at at (last h t g)) bytes) ≡ closing shape ∷ s.back
bracket_left bytes at shape h t g s =
    let front : List ℕ = s.front ++ (head_text h ++ text t) in
    let split : s.front ++ ((head_text h ++ (text t ++ g)) ++ closing shape ∷ s.back) ≡ front ++ (g ++ closing shape ∷ s.back) = simp append_assoc in
    let n : length front ≡ end_at at (last h t g) = omega (arith, s.at_is, length-append s.front (head_text h ++ text t), length-append (head_text h) (text t)) in
    ap behind_gap (ap (drop (end_at at (last h t g))) (s.spelled ∙ split) ∙ drop_at front (g ++ closing shape ∷ s.back) (end_at at (last h t g)) n) ∙ behind_again g (closing shape ∷ s.back) s.fits.2 (closing_starts shape s.back)

no_comma : (shape : Shape) → closing shape ≡ 0x2c → ⊥
no_comma shapes.Object e = absurd (omega (arith, e))
no_comma shapes.Array e = absurd (omega (arith, e))

-- ---- the next part

pub next_none : (bytes skipped : List ℕ) (shape : Shape) (end : ℕ) → skipped ≡ behind_gap (drop end bytes) → ((xs : List ℕ) → skipped ≡ 0x2c ∷ xs → ⊥)
    → (at : ℕ) (ps : Parts) → ArePartsAt bytes at shape ps → end ≡ end_at at ps → None ≡ told (parts_behind at ps)
next_none bytes skipped shape end k other at (last h t g) s e = refl
next_none bytes skipped shape end k other at (more h t g ps) s e =
    absurd (other (parts_text ps ++ closing shape ∷ s.back) (k ∙ ap (λ n. behind_gap (drop n bytes)) e ∙ comma_left bytes at shape h t g ps s))

pub none_first : (skipped : List ℕ) → length skipped < 1 → (xs : List ℕ) → skipped ≡ 0x2c ∷ xs → ⊥
none_first skipped h xs e = absurd (omega (arith, ap (λ (l : List ℕ). length l) e))

pub other_first : (skipped : List ℕ) → get_or skipped 0 0 ≢ 0x2c → (xs : List ℕ) → skipped ≡ 0x2c ∷ xs → ⊥
other_first skipped h xs e = h (ap (λ l. get_or l 0 0) e)

-- what is left behind a comma
pub record Comma (bytes skipped rest : List ℕ) (end : ℕ) : Type 0 where
  pub skipped_is : skipped ≡ 0x2c ∷ rest
  pub within : length rest + 1 + end ≤ length bytes

pub comma : (bytes left skipped rest : List ℕ) (end : ℕ) → end ≤ length bytes → left ≡ drop end bytes → skipped ≡ behind_gap left → 1 ≤ length skipped → get_or skipped 0 0 ≡ 0x2c → rest ≡ take (length skipped - 1) (drop 1 skipped)
    → Comma bytes skipped rest end
comma bytes left [] rest end room l k some first r = absurd (omega arith)
comma bytes left (x ∷ xs) rest end room l k some first r =
    let tail : rest ≡ xs = r ∙ take_all (length (x ∷ xs) - 1) xs (omega arith) in
    let n : length left ≡ length bytes - end = ap (λ (m : List ℕ). length m) l ∙ length-drop end bytes in
    record {
      skipped_is = ap (λ m. m ∷ xs) first ∙ ap (λ m. 0x2c ∷ m) (sym tail);
      within = omega (arith, n, ap (λ (m : List ℕ). length m) k, behind_short left, ap (λ (m : List ℕ). length m) tail);
    }

pub next_some : (bytes skipped rest : List ℕ) (shape : Shape) (end place : ℕ) (p : PartAt) → skipped ≡ behind_gap (drop end bytes) → Comma bytes skipped rest end → place ≡ length bytes - length rest
    → ((ps : Parts) → ArePartsAt bytes place shape ps → p ≡ part_at place ps)
    → (at : ℕ) (ps : Parts) → ArePartsAt bytes at shape ps → end ≡ end_at at ps → Some p ≡ told (parts_behind at ps)
next_some bytes skipped rest shape end place p k c here found at (last h t g) s e =
    let same : 0x2c ∷ rest ≡ closing shape ∷ s.back = sym c.skipped_is ∙ k ∙ ap (λ n. behind_gap (drop n bytes)) e ∙ bracket_left bytes at shape h t g s in
    absurd (no_comma shape (sym (ap (λ l. get_or l 0 0) same)))
next_some bytes skipped rest shape end place p k c here found at (more h t g ps) s e =
    let same : 0x2c ∷ rest ≡ 0x2c ∷ (parts_text ps ++ closing shape ∷ s.back) = sym c.skipped_is ∙ k ∙ ap (λ n. behind_gap (drop n bytes)) e ∙ comma_left bytes at shape h t g ps s in
    let b = behind_comma bytes at shape h t g ps s in
    let there : place ≡ end_at at (more h t g ps) + length g + 1 =
    omega (arith, here, b.at_is, ap (λ (l : List ℕ). length l) b.spelled, length-append b.front (parts_text ps ++ closing shape ∷ b.back), length-append (parts_text ps) (closing shape ∷ b.back), ap (λ (l : List ℕ). length l) same, length-append (parts_text ps) (closing shape ∷ s.back), ap (λ (l : List ℕ). length l) s.spelled, s.at_is, length-append s.front (parts_text (more h t g ps) ++ closing shape ∷ s.back), length-append (parts_text (more h t g ps)) (closing shape ∷ s.back), length-append (head_text h) (text t ++ (g ++ 0x2c ∷ parts_text ps)), length-append (text t) (g ++ 0x2c ∷ parts_text ps), length-append g (0x2c ∷ parts_text ps)) in
    ap Some (found ps (subst (λ n. ArePartsAt bytes n shape ps) (sym there) b) ∙ ap (λ n. part_at n ps) there)

-- the places of a part that begins there lie behind the comma
pub next_lies : (bytes skipped rest : List ℕ) (end place : ℕ) (p : PartAt) → Comma bytes skipped rest end → place ≡ length bytes - length rest → LiesWithin place (length bytes) p → LiesWithin (end + 1) (length bytes) p
next_lies bytes skipped rest end place p c here l = record { low = omega (arith, l.low, c.within, here); keyed = l.keyed; valued = l.valued; high = l.high }

-- ---- the first part

pub none_of : (t : Tree) (at k : ℕ) → None ≡ filled t → None ≡ part_of k at t
none_of (leaf kind s) at k e = refl
none_of (empty shape gap) at k e = refl
none_of (group shape ps) at k e = cc

-- a value of which a shape is told holds parts of that shape
pub record Holds (bytes : List ℕ) (at : ℕ) (shape : Shape) (t : Tree) : Type 0 where
  pub parts : Parts
  pub tree_is : t ≡ group shape parts
  pub there : ArePartsAt bytes (at + 1) shape parts

pub holds : (bytes : List ℕ) (at : ℕ) (shape : Shape) (t : Tree) → IsAt bytes at t → Some shape ≡ filled t → Holds bytes at shape t
holds bytes at shape (leaf kind s) i e = cc
holds bytes at shape (empty other gap) i e = cc
holds bytes at shape (group other ps) i e =
    let same : shape ≡ other = cc in
    record { parts = ps; tree_is = ap (λ x. group x ps) (sym same); there = subst (λ x. ArePartsAt bytes (at + 1) x ps) (sym same) (inside bytes at other ps i) }

-- ---- the part of a number

-- parts of a number, where there are some, stand in the text
pub there_from : (bytes : List ℕ) (shape : Shape) (k at : ℕ) (ps : Parts) (from : ℕ) (left : Parts) → ArePartsAt bytes at shape ps → parts_from k at ps ≡ Some (from, left) → ArePartsAt bytes from shape left
there_from bytes shape zero at ps from left s e =
    let same : at ≡ from = ap (λ (o : Option (ℕ × Parts)). (unwrap_or o (at, ps)).0) e in
    let same2 : ps ≡ left = ap (λ (o : Option (ℕ × Parts)). (unwrap_or o (at, ps)).1) e in
    subst (λ n. ArePartsAt bytes n shape left) same (subst (λ l. ArePartsAt bytes at shape l) same2 s)
there_from bytes shape (suc k) at (last h t g) from left s e = cc
there_from bytes shape (suc k) at (more h t g ps) from left s e = there_from bytes shape k (end_at at (more h t g ps) + length g + 1) ps from left (behind_comma bytes at shape h t g ps s) e

pub from_some : (k at : ℕ) (ps : Parts) (from : ℕ) (left : Parts) → parts_from k at ps ≡ Some (from, left) → parts_from (suc k) at ps ≡ parts_behind from left
from_some zero at (last h t g) from left e =
    let same : at ≡ from = ap (λ (o : Option (ℕ × Parts)). (unwrap_or o (at, last h t g)).0) e in
    let same2 : last h t g ≡ left = ap (λ (o : Option (ℕ × Parts)). (unwrap_or o (at, last h t g)).1) e in
    ap (λ n. parts_behind n (last h t g)) same ∙ ap (parts_behind from) same2
from_some zero at (more h t g ps) from left e =
    let same : at ≡ from = ap (λ (o : Option (ℕ × Parts)). (unwrap_or o (at, more h t g ps)).0) e in
    let same2 : more h t g ps ≡ left = ap (λ (o : Option (ℕ × Parts)). (unwrap_or o (at, more h t g ps)).1) e in
    ap (λ n. parts_behind n (more h t g ps)) same ∙ ap (parts_behind from) same2
from_some (suc k) at (last h t g) from left e = cc
from_some (suc k) at (more h t g ps) from left e = from_some k (end_at at (more h t g ps) + length g + 1) ps from left e

from_none : (k at : ℕ) (ps : Parts) → parts_from k at ps ≡ None → parts_from (suc k) at ps ≡ None
from_none zero at ps e = cc
from_none (suc k) at (last h t g) e = refl
from_none (suc k) at (more h t g ps) e = from_none k (end_at at (more h t g ps) + length g + 1) ps e

none_later : (n k at : ℕ) (ps : Parts) → parts_from k at ps ≡ None → parts_from (n + k) at ps ≡ None
none_later zero k at ps e = let same : 0 + k ≡ k = omega arith in ap (λ m. parts_from m at ps) same ∙ e
none_later (suc n) k at ps e = let same : suc n + k ≡ suc (n + k) = omega arith in ap (λ m. parts_from m at ps) same ∙ from_none (n + k) at ps (none_later n k at ps e)

none_told : (found : Option (ℕ × Parts)) → None ≡ told found → found ≡ None
none_told None e = refl
none_told (Some x) e = cc

pub none_beyond : (k n at : ℕ) (ps : Parts) → k ≤ n → None ≡ told (parts_from k at ps) → None ≡ told (parts_from n at ps)
none_beyond k n at ps less e =
    let same : n - k + k ≡ n = omega arith in
    ap told (sym (ap (λ m. parts_from m at ps) (sym same) ∙ none_later (n - k) k at ps (none_told (parts_from k at ps) e)))

-- from the part of a number to the next
pub more_told : (bytes : List ℕ) (shape : Shape) (k at : ℕ) (ps : Parts) (p : PartAt) (end : ℕ) (next : Option PartAt) → ArePartsAt bytes at shape ps → Some p ≡ told (parts_from k at ps)
    → ((t : Tree) → IsAt bytes p.value t → end ≡ tree_end p.value t)
    → ((from : ℕ) (left : Parts) → ArePartsAt bytes from shape left → end ≡ end_at from left → next ≡ told (parts_behind from left))
    → next ≡ told (parts_from (k + 1) at ps)
more_told bytes shape k at ps p end next s e ended step = by_found (parts_from k at ps) refl e
  where
    by_found : (found : Option (ℕ × Parts)) → parts_from k at ps ≡ found → Some p ≡ told found → next ≡ told (parts_from (k + 1) at ps)
    by_found None f e = cc
    by_found (Some x) f e =
        let same : p ≡ part_at x.0 x.1 = cc in
        let there : ArePartsAt bytes x.0 shape x.1 = there_from bytes shape k at ps x.0 x.1 s f in
        let value : p.value ≡ (part_at x.0 x.1).value = ap (λ (q : PartAt). q.value) same in
        let stands : IsAt bytes p.value (first_tree x.1) = subst (λ n. IsAt bytes n (first_tree x.1)) (sym value) (first_value bytes x.0 shape x.1 there) in
        let last_is : end ≡ end_at x.0 x.1 = ended (first_tree x.1) stands ∙ ap (λ n. tree_end n (first_tree x.1)) value in
        let one : suc k ≡ k + 1 = omega arith in
        step x.0 x.1 there last_is ∙ ap told (sym (from_some k at ps x.0 x.1 f) ∙ ap (λ m. parts_from m at ps) one)

-- ---- all parts

-- so many parts have been counted; the last of them ends here, and these are left
pub record Going (bytes : List ℕ) (shape : Shape) (from : ℕ) (ps : Parts) (number end : ℕ) : Type 0 where
  pub at : ℕ
  pub left : Parts
  pub there : ArePartsAt bytes at shape left
  pub end_is : end ≡ end_at at left
  pub counted : number + count left ≡ count ps + 1
  pub last_is : last_end_at at left ≡ last_end_at from ps

pub going_first : (bytes : List ℕ) (shape : Shape) (from : ℕ) (ps : Parts) (p : PartAt) (end : ℕ) → ArePartsAt bytes from shape ps → p ≡ part_at from ps → ((t : Tree) → IsAt bytes p.value t → end ≡ tree_end p.value t)
    → Going bytes shape from ps 1 end
going_first bytes shape from ps p end s e ended =
    let value : p.value ≡ (part_at from ps).value = ap (λ (q : PartAt). q.value) e in
    let stands : IsAt bytes p.value (first_tree ps) = subst (λ n. IsAt bytes n (first_tree ps)) (sym value) (first_value bytes from shape ps s) in
    record { at = from; left = ps; there = s; end_is = ended (first_tree ps) stands ∙ ap (λ n. tree_end n (first_tree ps)) value; counted = omega arith; last_is = refl }

pub going_more : (bytes : List ℕ) (shape : Shape) (from : ℕ) (ps : Parts) (number end next_end : ℕ) (p : PartAt) → Going bytes shape from ps number end
    → ((at : ℕ) (left : Parts) → ArePartsAt bytes at shape left → end ≡ end_at at left → Some p ≡ told (parts_behind at left))
    → ((t : Tree) → IsAt bytes p.value t → next_end ≡ tree_end p.value t)
    → Going bytes shape from ps (number + 1) next_end
going_more bytes shape from ps number end next_end p g step ended = by_left g.left g.there g.counted g.last_is (step g.at g.left g.there g.end_is)
  where
    by_left : (left : Parts) → ArePartsAt bytes g.at shape left → number + count left ≡ count ps + 1 → last_end_at g.at left ≡ last_end_at from ps → Some p ≡ told (parts_behind g.at left) → Going bytes shape from ps (number + 1) next_end
    by_left (last h t gap) s counted last_is e = cc
    by_left (more h t gap rest) s counted last_is e =
        let at : ℕ = end_at g.at (more h t gap rest) + length gap + 1 in
        let same : p ≡ part_at at rest = cc in
        let there : ArePartsAt bytes at shape rest = behind_comma bytes g.at shape h t gap rest s in
        let value : p.value ≡ (part_at at rest).value = ap (λ (q : PartAt). q.value) same in
        let stands : IsAt bytes p.value (first_tree rest) = subst (λ n. IsAt bytes n (first_tree rest)) (sym value) (first_value bytes at shape rest there) in
        record { at = at; left = rest; there = there; end_is = ended (first_tree rest) stands ∙ ap (λ n. tree_end n (first_tree rest)) value; counted = omega (arith, counted); last_is = last_is }

pub going_done : (bytes : List ℕ) (shape : Shape) (from : ℕ) (ps : Parts) (number end : ℕ) → Going bytes shape from ps number end
    → ((at : ℕ) (left : Parts) → ArePartsAt bytes at shape left → end ≡ end_at at left → None ≡ told (parts_behind at left))
    → (number ≡ count ps) × (end ≡ last_end_at from ps)
going_done bytes shape from ps number end g step = by_left g.left g.end_is g.counted g.last_is (step g.at g.left g.there g.end_is)
  where
    by_left : (left : Parts) → end ≡ end_at g.at left → number + count left ≡ count ps + 1 → last_end_at g.at left ≡ last_end_at from ps → None ≡ told (parts_behind g.at left) → (number ≡ count ps) × (end ≡ last_end_at from ps)
    by_left (last h t gap) end_is counted last_is e = (omega (arith, counted), end_is ∙ last_is)
    by_left (more h t gap rest) end_is counted last_is e = cc

-- ---- where nothing is held

pub no_children : (t : Tree) → None ≡ filled t → 0 ≡ many_of t
no_children (leaf kind s) e = refl
no_children (empty shape gap) e = refl
no_children (group shape ps) e = cc

pub no_last : (t : Tree) (at : ℕ) → None ≡ filled t → None ≡ last_end_of at t
no_last (leaf kind s) at e = refl
no_last (empty shape gap) at e = refl
no_last (group shape ps) at e = cc

-- ---- bounds of a part that may be there

pub lies_of : (found : Option PartAt) (p : PartAt) (least most : ℕ) → found ≡ Some p → IfSome found (λ q. LiesWithin least most q) → LiesWithin least most p
lies_of None p least most e h = cc
lies_of (Some q) p least most e h = let same : q ≡ p = cc in subst (λ x. LiesWithin least most x) same h

pub lies_lower : (found : Option PartAt) (least lower most : ℕ) → lower ≤ least → IfSome found (λ q. LiesWithin least most q) → IfSome found (λ q. LiesWithin lower most q)
lies_lower None least lower most l h = h
lies_lower (Some q) least lower most l h = record { low = omega (arith, h.low); keyed = h.keyed; valued = h.valued; high = h.high }
