-- What keys count in two maps, one by one and together.
use Rattle.std.specs.Prelude.{◌≡◌, ℕ, cond, Bool, true, false, List, [], ◌∷◌, Some, None, refl}
use Rattle.std.specs.Ordering.{eq_by_cmp}
use Rattle.std.specs.FinMap as map
use Rattle.std.specs.FinMap.Entries.{find}
use Rattle.std.proofs.Common.{sym, ◌∙◌, ap, arith}
use Rattle.doc_model.specs.declared.key.DocKey.{DocKey}
use Rattle.doc_model.specs.Keys.{key_cmp}
use Rattle.doc_model.specs.Values.{weight_of}
use Rattle.doc_model.proofs.Entries.{exact_keys, keys_total}
use Rattle.doc_model.proofs.Weights.{counted_of, weight_none, weight_remove}

-- a map has nothing but at the keys of these entries
abbrev AreAmong : {X Y : Type 0} → List (DocKey × Y) → map.FinMap key_cmp X → Type 0
AreAmong es m = (q : DocKey) → find key_cmp q es ≡ None → map.get m q ≡ None

-- without the key of the first, it has nothing but at those of the others
left_among : {X Y : Type 0} (e : DocKey × Y) (es : List (DocKey × Y)) (m : map.FinMap key_cmp X) → AreAmong (e ∷ es) m
    → AreAmong es (map.remove m e.0)
left_among {X} e es m among q none = map.get-remove keys_total m e.0 q ∙ go (eq_by_cmp key_cmp q e.0) refl
  where
    go : (b : Bool) → eq_by_cmp key_cmp q e.0 ≡ b → cond b None (map.get m q) ≡ None
    go true t = refl
    go false t = among q (ap (λ b. cond b (Some e.1) (find key_cmp q es)) t ∙ none)

none_among : {X Y : Type 0} (m : map.FinMap key_cmp X) → AreAmong {Y = Y} [] m → m ≡ map.empty
none_among m among = map.same_map keys_total exact_keys m map.empty (λ q. among q refl ∙ sym (map.get-empty key_cmp q))

-- a key that is taken away counts nothing more, the others what they did
count_left : {X : Type 0} (f : X → ℕ) (m : map.FinMap key_cmp X) (k q : DocKey)
    → counted_of f (map.get (map.remove m k) q) ≡ cond (eq_by_cmp key_cmp q k) 0 (counted_of f (map.get m q))
count_left {X} f m k q = ap (counted_of f) (map.get-remove keys_total m k q) ∙ go (eq_by_cmp key_cmp q k)
  where
    go : (b : Bool) → counted_of f (cond b None (map.get m q)) ≡ cond b 0 (counted_of f (map.get m q))
    go true = refl
    go false = refl

zero_kept : (b : Bool) (n : ℕ) → n ≡ 0 → cond b 0 n ≡ 0
zero_kept true n e = refl
zero_kept false n e = e

-- where no key counts anything, all count nothing
none_count : {X : Type 0} (f : X → ℕ) (es : List (DocKey × X)) (m : map.FinMap key_cmp X) → AreAmong es m
    → ((q : DocKey) → counted_of f (map.get m q) ≡ 0) → weight_of f m ≡ 0
none_count f [] m among zero = ap (weight_of f) (none_among m among) ∙ weight_none f
none_count f (e ∷ es) m among zero =
    let rest = none_count f es (map.remove m e.0) (left_among e es m among)
    (λ q. count_left f m e.0 q ∙ zero_kept (eq_by_cmp key_cmp q e.0) (counted_of f (map.get m q)) (zero q)) in
    let one = weight_remove f m e.0 in
    let none = zero e.0 in
    omega arith

count_among : {X Y : Type 0} (f : X → ℕ) (g : Y → ℕ) (es : List (DocKey × X)) (m : map.FinMap key_cmp X) (n : map.FinMap key_cmp Y)
    → AreAmong es m → ((q : DocKey) → counted_of f (map.get m q) ≡ counted_of g (map.get n q)) → weight_of f m ≡ weight_of g n
count_among f g [] m n among same =
    ap (weight_of f) (none_among m among) ∙ weight_none f
    ∙ sym (none_count g (map.entries n) n (λ q none. map.get-entries n q ∙ none) (λ q. sym (same q) ∙ ap (counted_of f) (among q refl)))
count_among f g (e ∷ es) m n among same =
    let rest = count_among f g es (map.remove m e.0) (map.remove n e.0) (left_among e es m among)
    (λ q. count_left f m e.0 q ∙ ap (λ k. cond (eq_by_cmp key_cmp q e.0) 0 k) (same q) ∙ sym (count_left g n e.0 q)) in
    let one = weight_remove f m e.0 in
    let other = weight_remove g n e.0 in
    let here = same e.0 in
    omega arith

-- where each key counts the same in two maps, all count the same
pub same_count : {X Y : Type 0} (f : X → ℕ) (g : Y → ℕ) (m : map.FinMap key_cmp X) (n : map.FinMap key_cmp Y)
    → ((q : DocKey) → counted_of f (map.get m q) ≡ counted_of g (map.get n q)) → weight_of f m ≡ weight_of g n
same_count f g m n same = count_among f g (map.entries m) m n (λ q none. map.get-entries m q ∙ none) same
