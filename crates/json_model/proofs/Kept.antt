-- A change of JSON with JSON is JSON.
use Rattle.std.proofs.Common.{◌≡◌, ℕ, zero, suc, List, [], ◌∷◌, ◌++◌, Some, refl, subst}
use Rattle.std.specs.List.{AllByRecursion}
use Rattle.json_model.specs.declared.kinds.Shape.{Shape}
use Rattle.json_model.specs.declared.kinds.Shape.TheVariants as shapes
use Rattle.json_model.specs.Grammar.{AreBlanks}
use Rattle.json_model.specs.Spelled.{Head, plain, keyed, Tree, leaf, empty, group, Parts, last, more, HeadFits, Fits, PartsFit}
use Rattle.json_model.specs.Follow.{child}
use Rattle.json_model.specs.Moves.{at_part, at_trail, gap_before, led_head, led, ended, joined, pushed, inserted, without, Change, put, push, insert, remove, changed, ChangeFits}
use Rattle.json_model.specs.Splices.{Reaches, here, there}

-- ---- heads and blanks

blanks_join : (a b : List ℕ) → AreBlanks a → AreBlanks b → AreBlanks (a ++ b)
blanks_join [] b f g = g
blanks_join (x ∷ a) b f g = (f.0, blanks_join a b f.1 g)

gap_fits : (shape : Shape) (h : Head) → HeadFits shape h → AreBlanks (gap_before h)
gap_fits shapes.Object (plain gap) f = absurd f
gap_fits shapes.Object (keyed gap key behind before) f = f.0
gap_fits shapes.Array (plain gap) f = f
gap_fits shapes.Array (keyed gap key behind before) f = absurd f

led_head_fits : (shape : Shape) (gap : List ℕ) (h : Head) → AreBlanks gap → HeadFits shape h → HeadFits shape (led_head gap h)
led_head_fits shapes.Object gap (plain old) b f = absurd f
led_head_fits shapes.Object gap (keyed old key behind before) b f = (b, f.1, f.2, f.3)
led_head_fits shapes.Array gap (plain old) b f = b
led_head_fits shapes.Array gap (keyed old key behind before) b f = absurd f

led_fits : (shape : Shape) (gap : List ℕ) (ps : Parts) → AreBlanks gap → PartsFit shape ps → PartsFit shape (led gap ps)
led_fits shape gap (last h t g) b f = (led_head_fits shape gap h b f.0, f.1, f.2)
led_fits shape gap (more h t g ps) b f = (led_head_fits shape gap h b f.0, f.1, f.2, f.3)

ended_fits : (shape : Shape) (gap : List ℕ) (ps : Parts) → AreBlanks gap → PartsFit shape ps → PartsFit shape (ended gap ps)
ended_fits shape gap (last h t g) b f = (f.0, f.1, b)
ended_fits shape gap (more h t g ps) b f = (f.0, f.1, f.2, ended_fits shape gap ps b f.3)

-- ---- new parts, and parts that go

joined_fits : (shape : Shape) (ps qs : Parts) → PartsFit shape ps → PartsFit shape qs → PartsFit shape (joined ps qs)
joined_fits shape (last h t g) qs f w = (f.0, f.1, f.2, w)
joined_fits shape (more h t g ps) qs f w = (f.0, f.1, f.2, joined_fits shape ps qs f.3 w)

pushed_fits : (shape : Shape) (new ps : Parts) → PartsFit shape new → PartsFit shape ps → PartsFit shape (pushed new ps)
pushed_fits shape new (last h t g) w f = (f.0, f.1, tt, ended_fits shape g new f.2 w)
pushed_fits shape new (more h t g ps) w f = (f.0, f.1, f.2, pushed_fits shape new ps w f.3)

inserted_fits : (shape : Shape) (k : ℕ) (new ps : Parts) → PartsFit shape new → PartsFit shape ps → PartsFit shape (inserted k new ps)
inserted_fits shape zero new (last h t g) w f =
    joined_fits shape (led (gap_before h) new) (last (led_head [] h) t g) (led_fits shape (gap_before h) new (gap_fits shape h f.0) w) (led_head_fits shape [] h tt f.0, f.1, f.2)
inserted_fits shape zero new (more h t g ps) w f =
    joined_fits shape (led (gap_before h) new) (more (led_head [] h) t g ps) (led_fits shape (gap_before h) new (gap_fits shape h f.0) w) (led_head_fits shape [] h tt f.0, f.1, f.2, f.3)
inserted_fits shape (suc k) new (last h t g) w f = (f.0, f.1, tt, ended_fits shape g new f.2 w)
inserted_fits shape (suc k) new (more h t g ps) w f = (f.0, f.1, f.2, inserted_fits shape k new ps w f.3)

without_fits : (shape : Shape) (k : ℕ) (h : Head) (t : Tree) (g : List ℕ) (ps : Parts) → HeadFits shape h → Fits t → AreBlanks g → PartsFit shape ps → PartsFit shape (without k h t g ps)
without_fits shape zero h t g ps a b c f = led_fits shape (gap_before h) ps (gap_fits shape h a) f
without_fits shape (suc k) h t g (last h2 t2 g2) a b c f = (a, b, f.2)
without_fits shape (suc k) h t g (more h2 t2 g2 ps) a b c f = (a, b, c, without_fits shape k h2 t2 g2 ps f.0 f.1 f.2 f.3)

-- ---- one change

pub changed_fits : (c : Change) (t : Tree) → Fits t → ChangeFits c t → Fits (changed c t)
changed_fits (put new) t f w = w
changed_fits (push new) (leaf kind s) f w = f
changed_fits (push new) (empty shape gap) f w = ended_fits shape gap new f w
changed_fits (push new) (group shape ps) f w = pushed_fits shape new ps w f
changed_fits (insert k new) (leaf kind s) f w = f
changed_fits (insert k new) (empty shape gap) f w = ended_fits shape gap new f w
changed_fits (insert k new) (group shape ps) f w = inserted_fits shape k new ps w f
changed_fits (remove k) (leaf kind s) f w = f
changed_fits (remove k) (empty shape gap) f w = f
changed_fits (remove k) (group shape (last h t g)) f w = blanks_join (gap_before h) g (gap_fits shape h f.0) f.2
changed_fits (remove k) (group shape (more h t g ps)) f w = without_fits shape k h t g ps f.0 f.1 f.2 f.3

-- ---- at the end of a trail

child_fits : (shape : Shape) (k : ℕ) (ps : Parts) (u : Tree) → child ps k ≡ Some u → PartsFit shape ps → Fits u
child_fits shape zero (last h t g) u e f = let same : t ≡ u = cc in subst Fits same f.1
child_fits shape (suc k) (last h t g) u e f = cc
child_fits shape zero (more h t g ps) u e f = let same : t ≡ u = cc in subst Fits same f.1
child_fits shape (suc k) (more h t g ps) u e f = child_fits shape k ps u e f.3

at_part_fits : (shape : Shape) (k : ℕ) (ps : Parts) (f : Tree → Tree) → PartsFit shape ps → ((u : Tree) → child ps k ≡ Some u → Fits (f u)) → PartsFit shape (at_part k f ps)
at_part_fits shape zero (last h t g) f a law = (a.0, law t refl, a.2)
at_part_fits shape (suc k) (last h t g) f a law = a
at_part_fits shape zero (more h t g ps) f a law = (a.0, law t refl, a.2, a.3)
at_part_fits shape (suc k) (more h t g ps) f a law = (a.0, a.1, a.2, at_part_fits shape k ps f a.3 law)

at_trail_fits : (trail : List ℕ) (root : Tree) (f : Tree → Tree) → Fits root → ((t : Tree) → Reaches trail root t → Fits t → Fits (f t)) → Fits (at_trail trail f root)
at_trail_fits [] root f a law = law root (here root) a
at_trail_fits (k ∷ ks) (leaf kind s) f a law = a
at_trail_fits (k ∷ ks) (empty shape gap) f a law = a
at_trail_fits (k ∷ ks) (group shape ps) f a law =
    at_part_fits shape k ps (at_trail ks f) a (λ u e. at_trail_fits ks u f (child_fits shape k ps u e a) (λ t r b. law t (there k ks shape ps u t e r) b))

pub edit_fits : (trail : List ℕ) (c : Change) (root : Tree) → Fits root → ((t : Tree) → Reaches trail root t → ChangeFits c t) → Fits (at_trail trail (changed c) root)
edit_fits trail c root a law = at_trail_fits trail root (changed c) a (λ t r b. changed_fits c t b (law t r))
