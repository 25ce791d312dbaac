-- What holds of all of a list by what holds of the rest.
use Rattle.std.specs.Prelude.{◌≡◌, ℕ, zero, suc, ◌+◌, ◌<◌, ◌≤◌, List, [], ◌∷◌, length, get_or, drop, refl}
use Rattle.std.specs.List.{AllByRecursion}
use Rattle.std.proofs.Common.{sym, ap, ◌∙◌, subst, arith}
use Rattle.vb_log.specs.declared.bounds.Bounds.{Bounds}
use Rattle.vb_log.specs.declared.entry.Pending.{Pending}
use Rattle.vb_log.specs.Prepares.{IsWaiting, AreWaiting}

-- the element at a place, and those behind it
pub dropped : {X : Type 0} (xs : List X) (i : ℕ) (x : X) → i < length xs → x ≡ get_or xs i x → drop i xs ≡ x ∷ drop (i + 1) xs
dropped [] i x low is = absurd (omega arith)
dropped (y ∷ ys) zero x low is = λ j. sym is j ∷ ys
dropped (y ∷ ys) (suc i) x low is = dropped ys i x (omega arith) is ∙ ap (λ n. x ∷ drop n (y ∷ ys)) (more i)
  where
    more : (i : ℕ) → suc (i + 1) ≡ suc i + 1
    more i = omega arith

pub none_dropped : {X : Type 0} (xs : List X) (i : ℕ) → length xs ≤ i → drop i xs ≡ []
none_dropped [] zero low = refl
none_dropped [] (suc i) low = refl
none_dropped (y ∷ ys) zero low = absurd (omega arith)
none_dropped (y ∷ ys) (suc i) low = none_dropped ys i (omega arith)

-- all keep something just if the rest does
pub record AllIf {X : Type 0} (P : X → Type 0) (all left : List X) : Type 0 where
  pub there : AllByRecursion P left → AllByRecursion P all
  pub back : AllByRecursion P all → AllByRecursion P left

pub all_if : {X : Type 0} (P : X → Type 0) (all : List X) → AllIf P all (drop 0 all)
all_if P all = record { there = λ h. h; back = λ h. h }

pub all_more : {X : Type 0} (P : X → Type 0) (xs : List X) (i : ℕ) (x : X) → i < length xs → x ≡ get_or xs i x → P x → AllIf P xs (drop i xs) → AllIf P xs (drop (i + 1) xs)
all_more P xs i x low is p h =
    let rest = dropped xs i x low is in
    record { there = λ a. h.there (subst (AllByRecursion P) (sym rest) (p, a)); back = λ a. (subst (AllByRecursion P) rest (h.back a)).1 }

pub not_all : {X : Type 0} (P : X → Type 0) (xs : List X) (i : ℕ) (x : X) → i < length xs → x ≡ get_or xs i x → (P x → ⊥) → AllIf P xs (drop i xs) → AllByRecursion P xs → ⊥
not_all P xs i x low is p h a = p (subst (AllByRecursion P) (dropped xs i x low is) (h.back a)).0

pub all_all : {X : Type 0} (P : X → Type 0) (xs : List X) (i : ℕ) → length xs ≤ i → AllIf P xs (drop i xs) → AllByRecursion P xs
all_all P xs i low h = h.there (subst (AllByRecursion P) (sym (none_dropped xs i low)) tt)

-- changes wait one behind the other just if those do that are left
pub record WaitIf (bounds : Bounds) (all : List Pending) (before : ℕ) (left : List Pending) : Type 0 where
  pub there : AreWaiting bounds before left → AreWaiting bounds 0 all
  pub back : AreWaiting bounds 0 all → AreWaiting bounds before left

pub wait_if : (bounds : Bounds) (all : List Pending) → WaitIf bounds all 0 (drop 0 all)
wait_if bounds all = record { there = λ h. h; back = λ h. h }

pub wait_more : (bounds : Bounds) (ps : List Pending) (i before : ℕ) (p : Pending) → i < length ps → p ≡ get_or ps i p → IsWaiting bounds before p → WaitIf bounds ps before (drop i ps) → WaitIf bounds ps p.position (drop (i + 1) ps)
wait_more bounds ps i before p low is w h =
    let rest = dropped ps i p low is in
    record { there = λ a. h.there (subst (AreWaiting bounds before) (sym rest) (w, a)); back = λ a. (subst (AreWaiting bounds before) rest (h.back a)).1 }

pub not_waiting : (bounds : Bounds) (ps : List Pending) (i before : ℕ) (p : Pending) → i < length ps → p ≡ get_or ps i p → (IsWaiting bounds before p → ⊥) → WaitIf bounds ps before (drop i ps) → AreWaiting bounds 0 ps → ⊥
not_waiting bounds ps i before p low is w h a = w (subst (AreWaiting bounds before) (dropped ps i p low is) (h.back a)).0

pub all_wait : (bounds : Bounds) (ps : List Pending) (i before : ℕ) → length ps ≤ i → WaitIf bounds ps before (drop i ps) → AreWaiting bounds 0 ps
all_wait bounds ps i before low h = h.there (subst (AreWaiting bounds before) (sym (none_dropped ps i low)) tt)
