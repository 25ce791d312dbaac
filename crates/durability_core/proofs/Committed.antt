-- The first prepares that are ready are committed, and what a tracker keeps holds afterwards.
use Rattle.std.specs.Prelude.{filter, not, drop, slice_get, take_while, if◌then◌else◌}
use Rattle.std.specs.List.{AllByRecursion}
use Rattle.std.proofs.Common.{zero, suc, is_some, ◌≡◌, ℕ, ◌+◌, ◌<◌, ◌≤◌, Bool, true, false, cond, List, [], ◌∷◌, ◌++◌, length}
use Rattle.std.proofs.Common.{Option, Some, None, refl, sym, ◌∙◌, ap, append_assoc, append-nil, length-append, arith}
use Rattle.std.proofs.lemmas.Bool.Decides.{nat_tests}
use Rattle.std.proofs.lemmas.List.{drop-drop, drop_all}
use Rattle.std.proofs.lemmas.List.Sums.{take_while-cons}
use Rattle.durability_core.specs.declared.waiting.Waiting.{Waiting}
use Rattle.durability_core.specs.Tracking.{has_come, is_due, positions, IsLater, IsRising, still_waiting}
use Rattle.durability_core.specs.Kept.{IsNotBefore, NoneBefore, earlier_of, first_ready, IsKept}
use Rattle.durability_core.proofs.Swept.{stays, none_before_more}

-- ---- commits, one after the other

-- Of prepares those up to the rest are committed, and the rest goes on as all of them do.
pub record Commits (ready : Waiting → Bool) (all rest : List Waiting) (first settled : List ℕ)
    : Type 0 where
  pub left : still_waiting ready rest ≡ still_waiting ready all
  pub settle : settled ++ positions (take_while ready rest)
      ≡ first ++ positions (take_while ready all)

module _ (ready : Waiting → Bool) (all : List Waiting) (first settled : List ℕ) where
  pub commits_more : (rest : List Waiting) (p : ℕ) → first_ready ready rest ≡ Some p
      → Commits ready all rest first settled
      → Commits ready all (drop 1 rest) first (settled ++ p ∷ [])
  commits_more [] p e s = absurd (cc)
  commits_more (w ∷ ws) p e s = go (ready w) refl e
    where
      go : (b : Bool) → ready w ≡ b → (if b then Some w.position else None) ≡ Some p
          → Commits ready all ws first (settled ++ p ∷ [])
      go false f g = absurd (cc)
      go true f g =
          let own : w.position ≡ p = cc in
          record {
            left =
                sym (ap (λ (b : Bool). if b then still_waiting ready ws else w ∷ ws) f) ∙ s.left;
            settle =
                append_assoc settled (p ∷ []) (positions (take_while ready ws))
                ∙ ap (λ (q : ℕ). settled ++ q ∷ positions (take_while ready ws)) (sym own)
                ∙ ap (λ (ds : List Waiting). settled ++ positions ds)
                (sym (take_while-cons ready w ws
                ∙ ap (λ (b : Bool). cond b (w ∷ take_while ready ws) []) f))
                ∙ s.settle;
          }

  pub commits_end : (rest : List Waiting) → first_ready ready rest ≡ None
      → Commits ready all rest first settled
      → (rest ≡ still_waiting ready all) × (settled ≡ first ++ positions (take_while ready all))
  commits_end [] e s = (s.left, sym (append-nil settled) ∙ s.settle)
  commits_end (w ∷ ws) e s = go (ready w) refl e
    where
      go : (b : Bool) → ready w ≡ b → (if b then Some w.position else None) ≡ None
          → (w ∷ ws ≡ still_waiting ready all)
          × (settled ≡ first ++ positions (take_while ready all))
      go true f g = absurd (cc)
      go false f g = (
        sym (ap (λ (b : Bool). if b then still_waiting ready ws else w ∷ ws) f) ∙ s.left,
        sym (append-nil settled)
            ∙ ap (λ (ds : List Waiting). settled ++ positions ds)
            (sym (take_while-cons ready w ws
            ∙ ap (λ (b : Bool). cond b (w ∷ take_while ready ws) []) f))
            ∙ s.settle,
      )

-- one that is ready waits
pub ready_waits : (ready : Waiting → Bool) (rest : List Waiting) (p : ℕ)
    → first_ready ready rest ≡ Some p → length (drop 1 rest) + 1 ≡ length rest
ready_waits ready [] p e = absurd (cc)
ready_waits ready (w ∷ ws) p e = omega arith

-- ---- positions rise

above_filter : (p : Waiting → Bool) (n : ℕ) (ws : List Waiting)
    → AllByRecursion (λ (m : ℕ). n < m) (positions ws)
    → AllByRecursion (λ (m : ℕ). n < m) (positions (filter p ws))
above_filter p n [] h = tt
above_filter p n (w ∷ ws) h = go (p w) (above_filter p n ws h.1)
  where
    go : (b : Bool) → AllByRecursion (λ (m : ℕ). n < m) (positions (filter p ws))
        → AllByRecursion (λ (m : ℕ). n < m) (positions (cond b (w ∷ filter p ws) (filter p ws)))
    go true more = (h.0, more)
    go false more = more

pub rise_filter : (p : Waiting → Bool) (ws : List Waiting) → IsRising (positions ws)
    → IsRising (positions (filter p ws))
rise_filter p [] h = tt
rise_filter p (w ∷ ws) h = go (p w) (rise_filter p ws h.1)
  where
    go : (b : Bool) → IsRising (positions (filter p ws))
        → IsRising (positions (cond b (w ∷ filter p ws) (filter p ws)))
    go true more = (above_filter p w.position ws h.0, more)
    go false more = more

-- the first of prepares up to one that fails a test
firsts : (Waiting → Bool) → List Waiting → List Waiting
firsts p [] = []
firsts p (w ∷ ws) = cond (p w) (w ∷ firsts p ws) []

firsts_are : (p : Waiting → Bool) (ws : List Waiting) → take_while p ws ≡ firsts p ws
unfolding firsts
firsts_are p [] = refl
firsts_are p (w ∷ ws) =
    take_while-cons p w ws ∙ ap (λ (ds : List Waiting). cond (p w) (w ∷ ds) []) (firsts_are p ws)

above_firsts : (p : Waiting → Bool) (n : ℕ) (ws : List Waiting)
    → AllByRecursion (λ (m : ℕ). n < m) (positions ws)
    → AllByRecursion (λ (m : ℕ). n < m) (positions (firsts p ws))
unfolding firsts
above_firsts p n [] h = tt
above_firsts p n (w ∷ ws) h = go (p w) (above_firsts p n ws h.1)
  where
    go : (b : Bool) → AllByRecursion (λ (m : ℕ). n < m) (positions (firsts p ws))
        → AllByRecursion (λ (m : ℕ). n < m) (positions (cond b (w ∷ firsts p ws) []))
    go true more = (h.0, more)
    go false more = tt

rise_firsts : (p : Waiting → Bool) (ws : List Waiting) → IsRising (positions ws)
    → IsRising (positions (firsts p ws))
unfolding firsts
rise_firsts p [] h = tt
rise_firsts p (w ∷ ws) h = go (p w) (rise_firsts p ws h.1)
  where
    go : (b : Bool) → IsRising (positions (firsts p ws))
        → IsRising (positions (cond b (w ∷ firsts p ws) []))
    go true more = (above_firsts p w.position ws h.0, more)
    go false more = tt

pub rise_taken : (p : Waiting → Bool) (ws : List Waiting) → IsRising (positions ws)
    → IsRising (positions (take_while p ws))
rise_taken p ws h = rw (firsts_are p ws) (rise_firsts p ws h)

pub rise_left : (p : Waiting → Bool) (ws : List Waiting) → IsRising (positions ws)
    → IsRising (positions (still_waiting p ws))
rise_left p [] h = tt
rise_left p (w ∷ ws) h = go (p w) (rise_left p ws h.1)
  where
    go : (b : Bool) → IsRising (positions (still_waiting p ws))
        → IsRising (positions (if b then still_waiting p ws else w ∷ ws))
    go true more = more
    go false more = h

above_last : (n : ℕ) (w : Waiting) (ws : List Waiting) → n < w.position
    → AllByRecursion (λ (m : ℕ). n < m) (positions ws)
    → AllByRecursion (λ (m : ℕ). n < m) (positions (ws ++ w ∷ []))
above_last n w [] l h = (l, tt)
above_last n w (x ∷ xs) l h = (h.0, above_last n w xs l h.1)

pub rise_more : (w : Waiting) (ws : List Waiting) → IsLater w.position ws → IsRising (positions ws)
    → IsRising (positions (ws ++ w ∷ []))
rise_more w [] l h = (tt, tt)
rise_more w (x ∷ xs) l h = (above_last x.position w xs l.0 h.0, rise_more w xs l.1 h.1)

-- ---- what is left

pub few_left : (p : Waiting → Bool) (ws : List Waiting)
    → length (still_waiting p ws) ≤ length ws
few_left p [] = omega arith
few_left p (w ∷ ws) = go (p w) (few_left p ws)
  where
    go : (b : Bool) → length (still_waiting p ws) ≤ length ws
        → length (if b then still_waiting p ws else w ∷ ws) ≤ length (w ∷ ws)
    go true l = omega arith
    go false l = omega arith

pub few_kept : (p : Waiting → Bool) (ws : List Waiting) → length (filter p ws) ≤ length ws
few_kept p [] = omega arith
few_kept p (w ∷ ws) = go (p w) (few_kept p ws)
  where
    go : (b : Bool) → length (filter p ws) ≤ length ws
        → length (cond b (w ∷ filter p ws) (filter p ws)) ≤ length (w ∷ ws)
    go true l = omega arith
    go false l = omega arith

pub none_before_left : (moment : ℕ) (p : Waiting → Bool) (ws : List Waiting)
    → NoneBefore moment ws → NoneBefore moment (still_waiting p ws)
none_before_left moment p [] h = tt
none_before_left moment p (w ∷ ws) h = go (p w) (none_before_left moment p ws h.1)
  where
    go : (b : Bool) → NoneBefore moment (still_waiting p ws)
        → NoneBefore moment (if b then still_waiting p ws else w ∷ ws)
    go true more = more
    go false more = h

-- ---- nothing is due

not_come : (moment now : ℕ) (deadline : Option ℕ) → now < moment → IsNotBefore moment deadline
    → has_come now deadline ≡ false
not_come moment now None l h = refl
not_come moment now (Some deadline) l h = grind (arith, nat_tests)

pub none_due : (moment now : ℕ) (ws : List Waiting) → now < moment → NoneBefore moment ws
    → (ws ≡ filter (stays now) ws) × (filter (is_due now) ws ≡ [])
none_due moment now [] l h = (refl, refl)
none_due moment now (w ∷ ws) l h =
    let no : is_due now w ≡ false = not_come moment now w.deadline l h.0 in
    let more = none_due moment now ws l h.1 in (
      ap (λ (ds : List Waiting). w ∷ ds) more.0
          ∙ sym (ap (λ (b : Bool). cond (not b) (w ∷ filter (stays now) ws) (filter (stays now) ws)) no),
      ap (λ (b : Bool). cond b (w ∷ filter (is_due now) ws) (filter (is_due now) ws)) no ∙ more.1,
    )

-- ---- what a tracker keeps

-- nothing is settled, and nothing waits
pub none_kept : (moment room : ℕ) → IsKept moment [] [] room
none_kept moment room = record { in_room = omega arith; none_before = tt; waiting_rise = tt; settled_rise = tt }

-- one more prepare waits
pub more_kept : (moment room : ℕ) (ws : List Waiting) (settled : List ℕ) (w : Waiting) (more : ℕ)
    → IsLater w.position ws → length ws + 1 ≤ more → IsKept moment ws settled room
    → IsKept (earlier_of moment w.deadline) (ws ++ w ∷ []) settled more
more_kept moment room ws settled w more later l k = record {
  in_room = omega (arith, l, length-append ws (w ∷ []));
  none_before = none_before_more moment w ws k.none_before;
  waiting_rise = rise_more w ws later k.waiting_rise;
  settled_rise = k.settled_rise;
}

-- the first that are ready are committed
pub committed_kept : (moment room : ℕ) (ws : List Waiting) (settled : List ℕ) (p : Waiting → Bool)
    → IsKept moment ws settled room
    → IsKept moment (still_waiting p ws) (positions (take_while p ws)) room
committed_kept moment room ws settled p k = record {
  in_room = omega (arith, k.in_room, few_left p ws);
  none_before = none_before_left moment p ws k.none_before;
  waiting_rise = rise_left p ws k.waiting_rise;
  settled_rise = rise_taken p ws k.waiting_rise;
}

-- what is due is given up
pub given_up_kept : (moment room : ℕ) (ws : List Waiting) (settled : List ℕ) (now earliest : ℕ)
    → NoneBefore earliest (filter (stays now) ws) → IsKept moment ws settled room
    → IsKept earliest (filter (stays now) ws) (positions (filter (is_due now) ws)) room
given_up_kept moment room ws settled now earliest h k = record {
  in_room = omega (arith, k.in_room, few_kept (stays now) ws);
  none_before = h;
  waiting_rise = rise_filter (stays now) ws k.waiting_rise;
  settled_rise = rise_filter (is_due now) ws k.waiting_rise;
}

-- ---- the first prepare

-- a first prepare that is ready, and one that isn't
pub first_is_ready : (ready : Waiting → Bool) (ws : List Waiting) (w : Waiting)
    → Some w ≡ slice_get ws 0 → ready w ≡ true → Some w.position ≡ first_ready ready ws
first_is_ready ready [] w e f = absurd (cc)
first_is_ready ready (x ∷ xs) w e f =
    let same : w ≡ x = cc in
    ap (λ (y : Waiting). Some y.position) same
    ∙ sym (ap (λ (b : Bool). if b then Some x.position else None) (ap ready (sym same) ∙ f))

pub first_is_not : (ready : Waiting → Bool) (ws : List Waiting) (w : Waiting)
    → Some w ≡ slice_get ws 0 → ready w ≡ false → None ≡ first_ready ready ws
first_is_not ready [] w e f = absurd (cc)
first_is_not ready (x ∷ xs) w e f =
    let same : w ≡ x = cc in
    sym (ap (λ (b : Bool). if b then Some x.position else None) (ap ready (sym same) ∙ f))

-- ---- the first that are ready are counted

-- so many prepares are ready, and the rest goes on as all of them do
pub record ReadyTo (ready : Waiting → Bool) (all : List Waiting) (count : ℕ) : Type 0 where
  pub within : count ≤ length all
  pub more : count + length (take_while ready (drop count all)) ≡ length (take_while ready all)

module _ (ready : Waiting → Bool) where
  none_ready : (rest : List Waiting) → is_some (first_ready ready rest) ≡ false
      → length (take_while ready rest) ≡ 0
  none_ready [] e = refl
  none_ready (w ∷ ws) e = go (ready w) refl e
    where
      go : (b : Bool) → ready w ≡ b → is_some (if b then Some w.position else None) ≡ false
          → length (take_while ready (w ∷ ws)) ≡ 0
      go true f g = absurd (cc)
      go false f g =
          ap length (take_while-cons ready w ws ∙ ap (λ (b : Bool). cond b (w ∷ take_while ready ws) []) f)

  one_ready : (rest : List Waiting) → is_some (first_ready ready rest) ≡ true
      → length (take_while ready (drop 1 rest)) + 1 ≡ length (take_while ready rest)
  one_ready [] e = absurd (cc)
  one_ready (w ∷ ws) e = go (ready w) refl e
    where
      go : (b : Bool) → ready w ≡ b → is_some (if b then Some w.position else None) ≡ true
          → length (take_while ready ws) + 1 ≡ length (take_while ready (w ∷ ws))
      go false f g = absurd (cc)
      go true f g =
          let all = ap length (take_while-cons ready w ws ∙ ap (λ (b : Bool). cond b (w ∷ take_while ready ws) []) f) in
          omega (arith, all)

  -- none is counted
  pub counts_from : (all : List Waiting) → ReadyTo ready all 0
  counts_from all = record { within = omega arith; more = omega arith }

  -- one more is
  pub counts_more : (all : List Waiting) (count : ℕ) → count < length all
      → is_some (first_ready ready (drop count all)) ≡ true → ReadyTo ready all count
      → ReadyTo ready all (count + 1)
  counts_more all count l e h =
      let one = one_ready (drop count all) e in
      let next = ap (λ (ws : List Waiting). length (take_while ready ws)) (drop-drop 1 count all) in
      record { within = omega arith; more = omega (arith, one, next, h.more) }

  -- the next isn't ready
  pub counts_end : (all : List Waiting) (count : ℕ)
      → is_some (first_ready ready (drop count all)) ≡ false → ReadyTo ready all count
      → count ≡ length (take_while ready all)
  counts_end all count e h =
      let none = none_ready (drop count all) e in omega (arith, none, h.more)

  -- there is no next
  pub counts_all : (all : List Waiting) (count : ℕ) → length all ≤ count → ReadyTo ready all count
      → count ≡ length (take_while ready all)
  counts_all all count l h =
      let none = ap (λ (ws : List Waiting). length (take_while ready ws)) (drop_all count all l) in
      omega (arith, none, h.more)

  -- the prepare at a place is ready
  pub ready_there : (ws : List Waiting) (i : ℕ) (w : Waiting) → slice_get ws i ≡ Some w
      → ready w ≡ is_some (first_ready ready (drop i ws))
  ready_there [] i w e = absurd (cc)
  ready_there (v ∷ vs) zero w e =
      let same : v ≡ w = cc in
      ap ready (sym same) ∙ go (ready v)
    where
      go : (b : Bool) → b ≡ is_some (if b then Some v.position else None)
      go true = refl
      go false = refl
  ready_there (v ∷ vs) (suc i) w e = ready_there vs i w e

  -- or there is none
  pub none_there : (ws : List Waiting) (i : ℕ) → slice_get ws i ≡ None
      → false ≡ is_some (first_ready ready (drop i ws))
  none_there [] zero e = refl
  none_there [] (suc i) e = refl
  none_there (v ∷ vs) zero e = absurd (cc)
  none_there (v ∷ vs) (suc i) e = none_there vs i e
