-- A change of the spelled tree is that change of the plain tree.
use Rattle.std.proofs.Common.{◌≡◌, ℕ, zero, suc, List, [], ◌∷◌, refl, ap, ◌∙◌}
use Rattle.json_model.specs.Spelled.{Head, plain, keyed, Tree, leaf, empty, group, Parts, last, more}
use Rattle.json_model.specs.Plain.{Value, list, Values, none, one, name, value, values}
use Rattle.json_model.specs.Moves.{at_part, at_trail, gap_before, led_head, led, ended, joined, pushed, inserted, without, Change, put, push, insert, remove, changed}
use Rattle.json_model.specs.PlainMoves.{chained, placed, left_over, plain_changed, plain_at_part, plain_at_trail}

-- ---- blanks don't count

name_led : (gap : List ℕ) (h : Head) → name (led_head gap h) ≡ name h
name_led gap (plain old) = refl
name_led gap (keyed old key behind before) = refl

pub values_led : (gap : List ℕ) (ps : Parts) → values (led gap ps) ≡ values ps
values_led gap (last h t g) = ap (λ n. one n (value t) none) (name_led gap h)
values_led gap (more h t g ps) = ap (λ n. one n (value t) (values ps)) (name_led gap h)

pub values_ended : (gap : List ℕ) (ps : Parts) → values (ended gap ps) ≡ values ps
values_ended gap (last h t old) = refl
values_ended gap (more h t old ps) = ap (one (name h) (value t)) (values_ended gap ps)

-- ---- new parts, and parts that go

pub values_joined : (ps qs : Parts) → values (joined ps qs) ≡ chained (values ps) (values qs)
values_joined (last h t g) qs = refl
values_joined (more h t g ps) qs = ap (one (name h) (value t)) (values_joined ps qs)

pub values_pushed : (new ps : Parts) → values (pushed new ps) ≡ chained (values ps) (values new)
values_pushed new (last h t g) = ap (one (name h) (value t)) (values_ended g new)
values_pushed new (more h t g ps) = ap (one (name h) (value t)) (values_pushed new ps)

-- new parts before one whose blanks they take
before_one : (new : Parts) (h : Head) (qs : Parts) (t : Tree) (vs : Values) → values qs ≡ one (name (led_head [] h)) (value t) vs
    → values (joined (led (gap_before h) new) qs) ≡ chained (values new) (one (name h) (value t) vs)
before_one new h qs t vs e =
    values_joined (led (gap_before h) new) qs
    ∙ ap (λ l. chained l (values qs)) (values_led (gap_before h) new)
    ∙ ap (chained (values new)) (e ∙ ap (λ n. one n (value t) vs) (name_led [] h))

pub values_inserted : (k : ℕ) (new ps : Parts) → values (inserted k new ps) ≡ placed k (values new) (values ps)
values_inserted zero new (last h t g) = before_one new h (last (led_head [] h) t g) t none refl
values_inserted zero new (more h t g ps) = before_one new h (more (led_head [] h) t g ps) t (values ps) refl
values_inserted (suc k) new (last h t g) = ap (one (name h) (value t)) (values_ended g new)
values_inserted (suc k) new (more h t g ps) = ap (one (name h) (value t)) (values_inserted k new ps)

-- of two parts the second gone, whatever the number
last_over : (k : ℕ) (h : Head) (t : Tree) (h2 : Head) (t2 : Tree) → one (name h) (value t) none ≡ left_over (suc k) (one (name h) (value t) (one (name h2) (value t2) none))
last_over zero h t h2 t2 = refl
last_over (suc k) h t h2 t2 = refl

pub values_without : (k : ℕ) (h : Head) (t : Tree) (g : List ℕ) (ps : Parts) → values (without k h t g ps) ≡ left_over k (one (name h) (value t) (values ps))
values_without zero h t g (last h2 t2 g2) = values_led (gap_before h) (last h2 t2 g2)
values_without zero h t g (more h2 t2 g2 ps) = values_led (gap_before h) (more h2 t2 g2 ps)
values_without (suc k) h t g (last h2 t2 g2) = last_over k h t h2 t2
values_without (suc k) h t g (more h2 t2 g2 ps) = ap (one (name h) (value t)) (values_without k h2 t2 g2 ps)

-- ---- one change

pub value_changed : (c : Change) (t : Tree) → value (changed c t) ≡ plain_changed c (value t)
value_changed (put new) t = refl
value_changed (push new) (leaf kind s) = refl
value_changed (push new) (empty shape gap) = ap (list shape) (values_ended gap new)
value_changed (push new) (group shape ps) = ap (list shape) (values_pushed new ps)
value_changed (insert k new) (leaf kind s) = refl
value_changed (insert k new) (empty shape gap) = ap (list shape) (values_ended gap new)
value_changed (insert k new) (group shape ps) = ap (list shape) (values_inserted k new ps)
value_changed (remove k) (leaf kind s) = refl
value_changed (remove k) (empty shape gap) = refl
value_changed (remove k) (group shape (last h t g)) = refl
value_changed (remove k) (group shape (more h t g ps)) = ap (list shape) (values_without k h t g ps)

-- ---- at the end of a trail

pub values_at_part : (k : ℕ) (f : Tree → Tree) (g : Value → Value) → ((t : Tree) → value (f t) ≡ g (value t)) → (ps : Parts) → values (at_part k f ps) ≡ plain_at_part k g (values ps)
values_at_part zero f g same (last h t gap) = ap (λ v. one (name h) v none) (same t)
values_at_part (suc k) f g same (last h t gap) = refl
values_at_part zero f g same (more h t gap ps) = ap (λ v. one (name h) v (values ps)) (same t)
values_at_part (suc k) f g same (more h t gap ps) = ap (one (name h) (value t)) (values_at_part k f g same ps)

pub value_at_trail : (trail : List ℕ) (f : Tree → Tree) (g : Value → Value) → ((t : Tree) → value (f t) ≡ g (value t)) → (t : Tree) → value (at_trail trail f t) ≡ plain_at_trail trail g (value t)
value_at_trail [] f g same t = same t
value_at_trail (k ∷ ks) f g same (leaf kind s) = refl
value_at_trail (k ∷ ks) f g same (empty shape gap) = refl
value_at_trail (k ∷ ks) f g same (group shape ps) = ap (list shape) (values_at_part k (at_trail ks f) (plain_at_trail ks g) (value_at_trail ks f g same) ps)
