-- Prepares are given up, or committed, one after the other.
use Rattle.std.specs.Prelude.{filter, not}
use Rattle.std.proofs.Common.{◌≡◌, ℕ, ◌+◌, ◌<◌, ◌≤◌, Bool, true, false, cond, List, [], ◌∷◌, ◌++◌, length}
use Rattle.std.proofs.Common.{Option, Some, None, refl, sym, ◌∙◌, ap, append_assoc, append-nil, length-append, arith}
use Rattle.durability_core.specs.declared.waiting.Waiting.{Waiting}
use Rattle.durability_core.specs.Tracking.{is_due, positions}
use Rattle.durability_core.specs.Kept.{IsNotBefore, NoneBefore, earlier_of}

-- whether a prepare isn't given up at a moment
abbrev pub stays : ℕ → Waiting → Bool
stays now w = not (is_due now w)

-- ---- no deadline comes before a moment

not_before_less : (moment less : ℕ) (deadline : Option ℕ) → less ≤ moment
    → IsNotBefore moment deadline → IsNotBefore less deadline
not_before_less moment less None l h = tt
not_before_less moment less (Some deadline) l h = omega arith

none_before_less : (moment less : ℕ) (ws : List Waiting) → less ≤ moment → NoneBefore moment ws
    → NoneBefore less ws
none_before_less moment less [] l h = tt
none_before_less moment less (w ∷ ws) l h =
    (not_before_less moment less w.deadline l h.0, none_before_less moment less ws l h.1)

earlier_less : (moment : ℕ) (deadline : Option ℕ) → earlier_of moment deadline ≤ moment
earlier_less moment None = omega arith
earlier_less moment (Some deadline) = omega arith

earlier_own : (moment : ℕ) (deadline : Option ℕ) → IsNotBefore (earlier_of moment deadline) deadline
earlier_own moment None = tt
earlier_own moment (Some deadline) = omega arith

none_before_last : (moment : ℕ) (w : Waiting) (ws : List Waiting) → NoneBefore moment ws
    → IsNotBefore moment w.deadline → NoneBefore moment (ws ++ w ∷ [])
none_before_last moment w [] h l = (l, tt)
none_before_last moment w (x ∷ xs) h l = (h.0, none_before_last moment w xs h.1 l)

pub none_before_more : (moment : ℕ) (w : Waiting) (ws : List Waiting) → NoneBefore moment ws
    → NoneBefore (earlier_of moment w.deadline) (ws ++ w ∷ [])
none_before_more moment w ws h =
    none_before_last (earlier_of moment w.deadline) w ws
    (none_before_less moment (earlier_of moment w.deadline) ws (earlier_less moment w.deadline) h)
    (earlier_own moment w.deadline)

-- ---- what passes a test, with one more in front

filter_in : (p : Waiting → Bool) (w : Waiting) (ws : List Waiting) → p w ≡ true
    → filter p (w ∷ ws) ≡ w ∷ filter p ws
filter_in p w ws e = ap (λ (b : Bool). cond b (w ∷ filter p ws) (filter p ws)) e

filter_out : (p : Waiting → Bool) (w : Waiting) (ws : List Waiting) → p w ≡ false
    → filter p (w ∷ ws) ≡ filter p ws
filter_out p w ws e = ap (λ (b : Bool). cond b (w ∷ filter p ws) (filter p ws)) e

-- ---- the sweep

-- So many turns into a sweep over prepares: the rest is still to come, and what stays of those
-- before it stands behind it.
pub record Sweeps (now : ℕ) (all queue : List Waiting) (first settled : List ℕ)
    (earliest turns : ℕ) : Type 0 where
  pub rest : List Waiting
  pub kept : List Waiting
  pub stands : queue ≡ rest ++ kept
  pub counted : turns + length rest ≡ length all
  pub stay : kept ++ filter (stays now) rest ≡ filter (stays now) all
  pub settle : settled ++ positions (filter (is_due now) rest)
      ≡ first ++ positions (filter (is_due now) all)
  pub none_before : NoneBefore earliest kept

pub sweep_begins : (now : ℕ) (all : List Waiting) (first : List ℕ) (earliest : ℕ)
    → Sweeps now all all first first earliest 0
sweep_begins now all first earliest = record {
  rest = all;
  kept = [];
  stands = sym (append-nil all);
  counted = omega arith;
  stay = refl;
  settle = refl;
  none_before = tt;
}

module _ (now : ℕ) (all queue : List Waiting) (first settled : List ℕ) (earliest turns : ℕ)
    (w : Waiting) (others : List Waiting) where
  -- the prepare in front is the first of the rest
  record Front (s : Sweeps now all queue first settled earliest turns) : Type 0 where
    more : List Waiting
    is : s.rest ≡ w ∷ more
    behind : others ≡ more ++ s.kept

  front : (s : Sweeps now all queue first settled earliest turns) → queue ≡ w ∷ others
      → turns < length all → Front s
  front s e l = go s.rest refl
    where
      go : (rest : List Waiting) → s.rest ≡ rest → Front s
      go [] f = absurd (omega (arith, s.counted, ap length f))
      go (x ∷ xs) f =
          let heads : w ∷ others ≡ x ∷ xs ++ s.kept =
          sym e ∙ s.stands ∙ ap (λ (r : List Waiting). r ++ s.kept) f in
          let same : w ≡ x = cc in
          record {
            more = xs;
            is = f ∙ ap (λ (y : Waiting). y ∷ xs) (sym same);
            behind = cc;
          }

  pub sweep_settles : Sweeps now all queue first settled earliest turns → queue ≡ w ∷ others
      → turns < length all → is_due now w ≡ true
      → Sweeps now all others first (settled ++ w.position ∷ []) earliest (turns + 1)
  sweep_settles s e l d =
      let f = front s e l in
      record {
        rest = f.more;
        kept = s.kept;
        stands = f.behind;
        counted = omega (arith, s.counted, ap length f.is);
        stay =
            ap (λ (ws : List Waiting). s.kept ++ ws)
            (sym (ap (filter (stays now)) f.is ∙ filter_out (stays now) w f.more (ap not d)))
            ∙ s.stay;
        settle =
            append_assoc settled (w.position ∷ []) (positions (filter (is_due now) f.more))
            ∙ ap (λ (ws : List Waiting). settled ++ positions ws)
            (sym (ap (filter (is_due now)) f.is ∙ filter_in (is_due now) w f.more d))
            ∙ s.settle;
        none_before = s.none_before;
      }

  pub sweep_keeps : Sweeps now all queue first settled earliest turns → queue ≡ w ∷ others
      → turns < length all → is_due now w ≡ false
      → Sweeps now all (others ++ w ∷ []) first settled (earlier_of earliest w.deadline) (turns + 1)
  sweep_keeps s e l d =
      let f = front s e l in
      record {
        rest = f.more;
        kept = s.kept ++ w ∷ [];
        stands = ap (λ (ws : List Waiting). ws ++ w ∷ []) f.behind ∙ append_assoc f.more s.kept (w ∷ []);
        counted = omega (arith, s.counted, ap length f.is);
        stay =
            append_assoc s.kept (w ∷ []) (filter (stays now) f.more)
            ∙ ap (λ (ws : List Waiting). s.kept ++ ws)
            (sym (ap (filter (stays now)) f.is ∙ filter_in (stays now) w f.more (ap not d)))
            ∙ s.stay;
        settle =
            ap (λ (ws : List Waiting). settled ++ positions ws)
            (sym (ap (filter (is_due now)) f.is ∙ filter_out (is_due now) w f.more d))
            ∙ s.settle;
        none_before = none_before_more earliest w s.kept s.none_before;
      }

-- there is a prepare for each turn
pub sweep_has : (now : ℕ) (all queue : List Waiting) (first settled : List ℕ) (earliest turns : ℕ)
    → Sweeps now all queue first settled earliest turns → turns < length all
    → length queue ≡ 0 → ⊥
sweep_has now all queue first settled earliest turns s l e =
    omega (arith, s.counted, ap length s.stands, length-append s.rest s.kept)

-- at the end of a sweep nothing is left to come
pub record Swept (now : ℕ) (all queue : List Waiting) (first settled : List ℕ) (earliest : ℕ)
    : Type 0 where
  pub stay : queue ≡ filter (stays now) all
  pub settle : settled ≡ first ++ positions (filter (is_due now) all)
  pub none_before : NoneBefore earliest queue

pub sweep_ends : (now : ℕ) (all queue : List Waiting) (first settled : List ℕ) (earliest turns : ℕ)
    → Sweeps now all queue first settled earliest turns → length all ≤ turns
    → Swept now all queue first settled earliest
sweep_ends now all queue first settled earliest turns s l = go s.rest refl
  where
    go : (rest : List Waiting) → s.rest ≡ rest → Swept now all queue first settled earliest
    go (x ∷ xs) f = absurd (omega (arith, s.counted, ap length f))
    go [] f =
        let queue_is : queue ≡ s.kept =
        s.stands ∙ ap (λ (r : List Waiting). r ++ s.kept) f in
        let kept_is : s.kept ≡ filter (stays now) all =
        sym (append-nil s.kept)
        ∙ sym (ap (λ (r : List Waiting). s.kept ++ filter (stays now) r) f)
        ∙ s.stay in
        record {
          stay = queue_is ∙ kept_is;
          settle =
              sym (append-nil settled)
              ∙ sym (ap (λ (r : List Waiting). settled ++ positions (filter (is_due now) r)) f)
              ∙ s.settle;
          none_before = rw queue_is s.none_before;
        }
