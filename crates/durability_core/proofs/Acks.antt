-- Laws of trackers.
use Rattle.std.specs.Prelude.{max, set, take_while}
use Rattle.std.specs.List.{list_all}
use Rattle.std.proofs.Common.{◌≡◌, ℕ, zero, suc, ◌≤◌, Bool, true, false, cond, List, [], ◌∷◌, ◌++◌}
use Rattle.std.proofs.Common.{Option, Some, None, refl, sym, ◌∙◌, ap, arith}
use Rattle.std.proofs.lemmas.List.Sums.{take_while-cons}
use Rattle.durability_core.specs.declared.waiting.Waiting.{Waiting}
use Rattle.durability_core.specs.Ready.{Known, KnowsMore}
use Rattle.durability_core.specs.Tracking.{Tracked, known_at, raised, told, is_inherited, has_come, is_due, still_waiting}

-- ---- what is known

max_twice : (a b : ℕ) → max (max a b) b ≡ max a b
max_twice a b = omega arith

raised_twice : (mem disk : ℕ) (k : Known) → raised mem disk (raised mem disk k) ≡ raised mem disk k
raised_twice mem disk k =
    let m = max_twice k.mem mem in
    let d = max_twice k.disk disk in
    cc

told_twice : (known : List Known) (place mem disk : ℕ)
    → set (set known place (raised mem disk (known_at known place))) place
    (raised mem disk (known_at (set known place (raised mem disk (known_at known place))) place))
    ≡ set known place (raised mem disk (known_at known place))
told_twice [] place mem disk = refl
told_twice (k ∷ ks) zero mem disk = ap (λ (x : Known). x ∷ ks) (raised_twice mem disk k)
told_twice (k ∷ ks) (suc place) mem disk = ap (λ (xs : List Known). k ∷ xs) (told_twice ks place mem disk)

pub once : (t : Tracked) (place mem disk : ℕ)
    → told place mem disk (told place mem disk t) ≡ told place mem disk t
once t place mem disk =
    ap (λ (known : List Known). record t { known = known }) (told_twice t.known place mem disk)

mem_more : (known : List Known) (place mem disk other : ℕ)
    → (known_at known other).mem
    ≤ (known_at (set known place (raised mem disk (known_at known place))) other).mem
mem_more [] place mem disk other = omega arith
mem_more (k ∷ ks) zero mem disk zero = omega arith
mem_more (k ∷ ks) zero mem disk (suc other) = omega arith
mem_more (k ∷ ks) (suc place) mem disk zero = omega arith
mem_more (k ∷ ks) (suc place) mem disk (suc other) = mem_more ks place mem disk other

disk_more : (known : List Known) (place mem disk other : ℕ)
    → (known_at known other).disk
    ≤ (known_at (set known place (raised mem disk (known_at known place))) other).disk
disk_more [] place mem disk other = omega arith
disk_more (k ∷ ks) zero mem disk zero = omega arith
disk_more (k ∷ ks) zero mem disk (suc other) = omega arith
disk_more (k ∷ ks) (suc place) mem disk zero = omega arith
disk_more (k ∷ ks) (suc place) mem disk (suc other) = disk_more ks place mem disk other

pub more : (t : Tracked) (place mem disk : ℕ)
    → KnowsMore (known_at t.known) (known_at (told place mem disk t).known)
more t place mem disk = record {
  mem = λ other. mem_more t.known place mem disk other;
  disk = λ other. disk_more t.known place mem disk other;
}

-- ---- what is committed

pub all_ready : (ready : Waiting → Bool) (ws : List Waiting)
    → list_all ready (take_while ready ws) ≡ true
all_ready ready [] = refl
all_ready ready (w ∷ ws) = rw (take_while-cons ready w ws) (go (ready w) refl (all_ready ready ws))
  where
    go : (b : Bool) → ready w ≡ b → list_all ready (take_while ready ws) ≡ true
        → list_all ready (cond b (w ∷ take_while ready ws) []) ≡ true
    go true e others = rw e others
    go false e others = refl

pub first_ones : (ready : Waiting → Bool) (ws : List Waiting)
    → take_while ready ws ++ still_waiting ready ws ≡ ws
first_ones ready [] = refl
first_ones ready (w ∷ ws) = rw (take_while-cons ready w ws) (go (ready w) (first_ones ready ws))
  where
    go : (b : Bool) → take_while ready ws ++ still_waiting ready ws ≡ ws
        → cond b (w ∷ take_while ready ws) [] ++ (cond b (still_waiting ready ws) (w ∷ ws)) ≡ w ∷ ws
    go true others = ap (λ (xs : List Waiting). w ∷ xs) others
    go false others = refl

pub next_unready : (ready : Waiting → Bool) (ws others : List Waiting) (next : Waiting)
    → still_waiting ready ws ≡ next ∷ others → ready next ≡ false
next_unready ready [] others next e = absurd (cc)
next_unready ready (w ∷ ws) others next e =
    go (ready w) refl e (next_unready ready ws others next)
  where
    go : (b : Bool) → ready w ≡ b → cond b (still_waiting ready ws) (w ∷ ws) ≡ next ∷ others
        → (still_waiting ready ws ≡ next ∷ others → ready next ≡ false) → ready next ≡ false
    go true f g further = further g
    go false f g further =
        let same : w ≡ next = cc in
        ap ready (sym same) ∙ f

-- ---- what is given up

pub never_due : (now : ℕ) (w : Waiting) → is_inherited w ≡ true → is_due now w ≡ false
never_due now w e = go w.deadline refl e
  where
    go : (deadline : Option ℕ) → w.deadline ≡ deadline → is_inherited w ≡ true
        → is_due now w ≡ false
    go None f e = ap (has_come now) f
    go (Some deadline) f e = absurd (cc)
