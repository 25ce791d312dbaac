-- How deep a changed tree is.
use Rattle.std.proofs.Common.{◌≡◌, ℕ, zero, suc, ◌+◌, ◌-◌, ◌≤◌, max, List, [], length, Some, refl, sym, ap, subst, arith}
use Rattle.json_model.specs.Spelled.{Tree, Parts, last, more, depth, parts_depth}
use Rattle.json_model.specs.Follow.{child}
use Rattle.json_model.specs.Moves.{at_part, at_trail, gap_before, led_head, led, ended, joined, pushed, inserted}
use Rattle.json_model.specs.Splices.{Reaches, here, there}

-- ---- new parts

pub led_depth : (gap : List ℕ) (ps : Parts) → parts_depth (led gap ps) ≡ parts_depth ps
led_depth gap (last h t g) = refl
led_depth gap (more h t g ps) = refl

pub ended_depth : (gap : List ℕ) (ps : Parts) → parts_depth (ended gap ps) ≡ parts_depth ps
ended_depth gap (last h t g) = refl
ended_depth gap (more h t g ps) = ap (λ n. max (depth t) n) (ended_depth gap ps)

pub joined_depth : (ps qs : Parts) → parts_depth (joined ps qs) ≡ max (parts_depth ps) (parts_depth qs)
joined_depth (last h t g) qs = refl
joined_depth (more h t g ps) qs = omega (arith, joined_depth ps qs)

pub pushed_depth : (new ps : Parts) → parts_depth (pushed new ps) ≡ max (parts_depth ps) (parts_depth new)
pushed_depth new (last h t g) = omega (arith, ended_depth g new)
pushed_depth new (more h t g ps) = omega (arith, pushed_depth new ps)

pub inserted_depth : (k : ℕ) (new ps : Parts) → parts_depth (inserted k new ps) ≡ max (parts_depth ps) (parts_depth new)
inserted_depth zero new (last h t g) = omega (arith, joined_depth (led (gap_before h) new) (last (led_head [] h) t g), led_depth (gap_before h) new)
inserted_depth zero new (more h t g ps) = omega (arith, joined_depth (led (gap_before h) new) (more (led_head [] h) t g ps), led_depth (gap_before h) new)
inserted_depth (suc k) new (last h t g) = omega (arith, ended_depth g new)
inserted_depth (suc k) new (more h t g ps) = omega (arith, inserted_depth k new ps)

-- ---- at the end of a trail

-- each fact gives the other
pub record Both (A B : Type 0) : Type 0 where
  pub forth : A → B
  pub back : B → A

part_depth : (k : ℕ) (ps : Parts) (u : Tree) (g : Tree → Tree) (most : ℕ) → child ps k ≡ Some u → parts_depth ps ≤ most → Both (parts_depth (at_part k g ps) ≤ most) (depth (g u) ≤ most)
part_depth zero (last h t gap) u g most e within =
    let same : t ≡ u = cc in
    record { forth = λ d. subst (λ v. depth (g v) ≤ most) same d; back = λ d. subst (λ v. depth (g v) ≤ most) (sym same) d }
part_depth (suc k) (last h t gap) u g most e within = cc
part_depth zero (more h t gap ps) u g most e within =
    let same : depth (g t) ≡ depth (g u) = let eq : t ≡ u = cc in ap (λ v. depth (g v)) eq in
    record { forth = λ d. omega (arith, d, same); back = λ d. omega (arith, d, same, within) }
part_depth (suc k) (more h t gap ps) u g most e within =
    let inner = part_depth k ps u g most e (omega (arith, within)) in
    record { forth = λ d. inner.forth (omega (arith, d)); back = λ d. omega (arith, inner.back d, within) }

child_depth : (k : ℕ) (ps : Parts) (u : Tree) → child ps k ≡ Some u → depth u ≤ parts_depth ps
child_depth zero (last h t g) u e = let same : t ≡ u = cc in omega (arith, ap depth same)
child_depth (suc k) (last h t g) u e = cc
child_depth zero (more h t g ps) u e = let same : t ≡ u = cc in omega (arith, ap depth same)
child_depth (suc k) (more h t g ps) u e = omega (arith, child_depth k ps u e)

-- where a tree isn't too deep, it stays so where what is changed, below its trail, isn't
pub trail_depth : (trail : List ℕ) (root t : Tree) (f : Tree → Tree) (most : ℕ) → Reaches trail root t → depth root ≤ most → Both (depth (at_trail trail f root) ≤ most) (length trail + depth (f t) ≤ most)
trail_depth trail root t f most (here u) within = record { forth = λ d. omega (arith, d); back = λ d. omega (arith, d) }
trail_depth trail root t f most (there k ks shape ps u v e r) within =
    let inner = trail_depth ks u v f (most - 1) r (omega (arith, child_depth k ps u e, within)) in
    let part = part_depth k ps u (at_trail ks f) (most - 1) e (omega (arith, within)) in
    record {
      forth = λ d. let below = inner.forth (part.forth (omega (arith, d))) in omega (arith, below, within);
      back = λ d. let below = part.back (inner.back (omega (arith, d))) in omega (arith, below, within);
    }
