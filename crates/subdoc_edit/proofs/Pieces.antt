-- The text of a value as a slice of the whole.
use Rattle.std.proofs.Common.{◌≡◌, ℕ, ◌+◌, ◌-◌, ◌≤◌, List, ◌++◌, length, take, drop, refl, sym, ap, ◌∙◌, arith, length-append}
use Rattle.std.proofs.lemmas.List.{take_at, drop_at}
use Rattle.json_model.specs.Spelled.{Tree, text}
use Rattle.json_walk.specs.Places.{IsAt}
use Rattle.json_walk.specs.Telling.{tree_end}
use Rattle.subdoc_edit.specs.Splicing.{IsStanding}

-- a value's text as a slice of the whole
pub record Slice (bytes : List ℕ) (from to : ℕ) (t : Tree) : Type 0 where
  pub ordered : from ≤ to
  pub within : to ≤ length bytes
  pub slice : take (to - from) (drop from bytes) ≡ text t

cut_out : (a k r bytes : List ℕ) (from to : ℕ) (t : Tree) → k ≡ text t → bytes ≡ a ++ (k ++ r) → from ≡ length a → to ≡ length a + length k → Slice bytes from to t
cut_out a k r bytes from to t same e f l =
    let n : to - from ≡ length k = omega (arith, f, l) in
    let d : drop from bytes ≡ k ++ r = ap (λ (x : List ℕ). drop from x) e ∙ drop_at a (k ++ r) from (sym f) in
    record {
      ordered = omega (arith, f, l);
      within = omega (arith, l, ap (λ (x : List ℕ). length x) e, length-append a (k ++ r), length-append k r);
      slice = ap (λ x. take (to - from) x) d ∙ take_at k r (to - from) (sym n) ∙ same;
    }

pub slice_of : (bytes : List ℕ) (at end : ℕ) (t : Tree) → IsAt bytes at t → end ≡ tree_end at t → Slice bytes at end t
slice_of bytes at end t s e = cut_out s.front (text t) s.back bytes at end t refl s.spelled (sym s.at_is) (omega (arith, e, s.at_is))

-- a value stands within the bytes
pub at_within : (bytes : List ℕ) (at : ℕ) (t : Tree) → IsAt bytes at t → at ≤ length bytes
at_within bytes at t s = omega (arith, s.at_is, ap (λ (l : List ℕ). length l) s.spelled, length-append s.front (text t ++ s.back))

pub standing_within : (bytes : List ℕ) (at : ℕ) → IsStanding bytes at → at ≤ length bytes
standing_within bytes at (t, s) = at_within bytes at t s
