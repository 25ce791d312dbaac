-- Lists whose elements are gone through one after another.
use Rattle.std.proofs.Common.{◌≡◌, ℕ, zero, suc, nat_eq, arith, ◌≤◌, Bool, true, false, cond, not, ◌&&◌, ◌||◌, ◌<◌, ◌+◌, List, [], ◌∷◌, ◌++◌, map, length, get_or, take, drop, refl, sym, ap, ap₂, ◌∙◌, subst, le-leb, true≢false}
use Rattle.std.proofs.lemmas.Bool.{and_right}
use Rattle.std.proofs.lemmas.List.{take-append-drop, take_more, map-append, map-id}
use Rattle.std.proofs.lemmas.List.Folds.{list_any-append}
use Rattle.std.specs.Cmp.{nat_eq_equiv}
use Rattle.std.specs.List.{list_all, list_any}
use Rattle.manifest_rules.specs.declared.types.Scope.{Scope}
use Rattle.manifest_rules.specs.declared.types.TheConstants.{NAME_LIMIT}
use Rattle.manifest_rules.specs.Catalog.{collections_in}
use Rattle.manifest_rules.specs.Rules.{is_name, is_name_byte, are_distinct, names_formed}
use Rattle.manifest_rules.proofs.Fits.{list_all-flat_map}

-- one element more
are_distinct-push : {A : Type 0} (same : A → A → Bool) (xs : List A) (y : A) → are_distinct same (xs ++ y ∷ []) ≡ (are_distinct same xs && not (list_any (λ x. same x y) xs))
are_distinct-push same [] y = refl
are_distinct-push same (x ∷ xs) y =
    ap₂ (λ a b. not a && b) (list_any-append (same x) xs (y ∷ [])) (are_distinct-push same xs y)
    ∙ apart (list_any (same x) xs) (same x y) (are_distinct same xs) (list_any (λ z. same z y) xs)
  where
    apart : (a b c d : Bool) → (not (a || (b || false)) && (c && not d)) ≡ ((not a && c) && not (b || d))
    apart true b c d = refl
    apart false true true d = refl
    apart false true false d = refl
    apart false false c d = refl

-- what comes twice in the first elements comes twice
pub twice_before : {A : Type 0} (same : A → A → Bool) (xs ys : List A) → are_distinct same xs ≡ false → are_distinct same (xs ++ ys) ≡ false
twice_before same [] ys h = absurd (true≢false h)
twice_before same (x ∷ xs) ys h = by (list_any (same x) xs) refl (twice_before same xs ys)
  where
    by : (b : Bool) → list_any (same x) xs ≡ b → (are_distinct same xs ≡ false → are_distinct same (xs ++ ys) ≡ false) → (not (list_any (same x) (xs ++ ys)) && are_distinct same (xs ++ ys)) ≡ false
    by true e rest = ap (λ b. not b && are_distinct same (xs ++ ys)) (list_any-append (same x) xs ys ∙ ap (λ b. b || list_any (same x) ys) e)
    by false e rest = ap (λ b. not (list_any (same x) (xs ++ ys)) && b) (rest (sym (ap (λ b. not b && are_distinct same xs) e) ∙ h)) ∙ and_right (not (list_any (same x) (xs ++ ys))) false refl

-- none of these elements comes twice, and a set has them
pub record NoneTwice {A : Type 0} (same : A → A → Bool) (xs : List A) (has : A → Bool) : Type 0 where
  pub distinct : are_distinct same xs ≡ true
  pub there : (q : A) → has q ≡ list_any (same q) xs

flipped : {A : Type 0} (same : A → A → Bool) → ((x y : A) → same x y ≡ same y x) → (xs : List A) (y : A) → list_any (λ x. same x y) xs ≡ list_any (same y) xs
flipped same flips [] y = refl
flipped same flips (x ∷ xs) y = ap₂ (λ a b. a || b) (flips x y) (flipped same flips xs y)

-- one that the set has comes twice
pub one_twice : {A : Type 0} (same : A → A → Bool) → ((x y : A) → same x y ≡ same y x) → (xs : List A) (has : A → Bool) (y : A) → NoneTwice same xs has → has y ≡ true → are_distinct same (xs ++ y ∷ []) ≡ false
one_twice same flips xs has y h here =
    are_distinct-push same xs y
    ∙ ap₂ (λ a b. a && not b) h.distinct (flipped same flips xs y ∙ sym (h.there y) ∙ here)

-- one that it hasn't is put into it
pub one_seen : {A : Type 0} (same : A → A → Bool) → ((x y : A) → same x y ≡ same y x) → (xs : List A) (has now : A → Bool) (y : A) → NoneTwice same xs has → has y ≡ false
    → ((q : A) → now q ≡ cond (same y q) true (has q)) → NoneTwice same (xs ++ y ∷ []) now
one_seen same flips xs has now y h new updates = record {
  distinct = are_distinct-push same xs y ∙ ap₂ (λ a b. a && not b) h.distinct (flipped same flips xs y ∙ sym (h.there y) ∙ new);
  there = λ q.
      updates q ∙ ap₂ (λ a b. cond a true b) (flips y q) (h.there q) ∙ swapped (same q y) (list_any (same q) xs)
      ∙ sym (list_any-append (same q) xs (y ∷ []));
}
  where
    swapped : (a b : Bool) → cond a true b ≡ (b || (a || false))
    swapped true true = refl
    swapped true false = refl
    swapped false true = refl
    swapped false false = refl

-- ---- the next element of a list

not_not : (b : Bool) → not (not b) ≡ b
not_not true = refl
not_not false = refl

more_is : {A B : Type 0} (f : A → B) (xs : List A) (i : ℕ) (x : A) (y : B) → i < length xs → x ≡ get_or xs i x → y ≡ f x → map f (take (i + 1) xs) ≡ map f (take i xs) ++ y ∷ []
more_is f xs i x y within at is =
    ap (map f) (take_more xs i x within) ∙ map-append f (take i xs) (get_or xs i x ∷ []) ∙ ap (λ z. map f (take i xs) ++ z ∷ []) (ap f (sym at) ∙ sym is)

-- it comes twice
pub next_twice : {A B : Type 0} (same : B → B → Bool) → ((x y : B) → same x y ≡ same y x) → (f : A → B) (xs : List A) (i : ℕ) (x : A) (y : B) (has : B → Bool) (added : Bool) → NoneTwice same (map f (take i xs)) has → i < length xs → x ≡ get_or xs i x → y ≡ f x
    → added ≡ not (has y) → added ≡ false → false ≡ are_distinct same (map f xs)
next_twice same flips f xs i x y has added h within at is told not_added =
    sym (
    ap (are_distinct same) (sym (ap (map f) (take-append-drop (i + 1) xs)) ∙ map-append f (take (i + 1) xs) (drop (i + 1) xs))
    ∙ twice_before same (map f (take (i + 1) xs)) (map f (drop (i + 1) xs))
    (ap (are_distinct same) (more_is f xs i x y within at is) ∙ one_twice same flips (map f (take i xs)) has y h (sym (not_not (has y)) ∙ ap not (sym told ∙ not_added)))
    )

-- it doesn't
pub next_seen : {A B : Type 0} (same : B → B → Bool) → ((x y : B) → same x y ≡ same y x) → (f : A → B) (xs : List A) (i : ℕ) (x : A) (y : B) (has now : B → Bool) (added : Bool) → NoneTwice same (map f (take i xs)) has → i < length xs → x ≡ get_or xs i x → y ≡ f x
    → added ≡ not (has y) → added ≡ true → ((q : B) → now q ≡ cond (same y q) true (has q)) → NoneTwice same (map f (take (i + 1) xs)) now
next_seen same flips f xs i x y has now added h within at is told was_added updates =
    subst (λ l. NoneTwice same l now) (sym (more_is f xs i x y within at is)) (one_seen same flips (map f (take i xs)) has now y h (sym (not_not (has y)) ∙ ap not (sym told ∙ was_added)) updates)

same_default : (xs : List ℕ) (i d e : ℕ) → i < length xs → get_or xs i d ≡ get_or xs i e
same_default [] i d e within = absurd (omega arith)
same_default (x ∷ xs) zero d e within = refl
same_default (x ∷ xs) (suc i) d e within = same_default xs i d e (omega arith)

-- the same of the next id
pub next_id_twice : (ids : List ℕ) (i : ℕ) (has : ℕ → Bool) (added : Bool) → NoneTwice nat_eq (take i ids) has → i < length ids → added ≡ not (has (get_or ids i 0)) → added ≡ false → false ≡ are_distinct nat_eq ids
next_id_twice ids i has added h within told not_added =
    next_twice nat_eq nat_eq_equiv.symm (λ (x : ℕ). x) ids i (get_or ids i 0) (get_or ids i 0) has added (subst (λ l. NoneTwice nat_eq l has) (sym (map-id (take i ids))) h) within (same_default ids i 0 (get_or ids i 0) within) refl told not_added
    ∙ ap (are_distinct nat_eq) (map-id ids)

pub next_id_seen : (ids : List ℕ) (i : ℕ) (has now : ℕ → Bool) (added : Bool) → NoneTwice nat_eq (take i ids) has → i < length ids → added ≡ not (has (get_or ids i 0)) → added ≡ true
    → ((q : ℕ) → now q ≡ cond (nat_eq (get_or ids i 0) q) true (has q)) → NoneTwice nat_eq (take (i + 1) ids) now
next_id_seen ids i has now added h within told was_added updates =
    subst (λ l. NoneTwice nat_eq l now) (map-id (take (i + 1) ids))
    (next_seen nat_eq nat_eq_equiv.symm (λ (x : ℕ). x) ids i (get_or ids i 0) (get_or ids i 0) has now added (subst (λ l. NoneTwice nat_eq l has) (sym (map-id (take i ids))) h) within (same_default ids i 0 (get_or ids i 0) within) refl told was_added updates)

pub is_name-within : (name : List ℕ) → 1 ≤ length name → length name ≤ NAME_LIMIT → is_name name ≡ list_all is_name_byte name
is_name-within name some short = rw (le-leb 1 (length name) some, le-leb (length name) NAME_LIMIT short) refl

-- names of scopes are formed, so names of collections decide
pub then_collections : (scopes : List Scope) (a b : Bool) → a ≡ list_all (λ s. is_name s.name) scopes → a ≡ true → b ≡ list_all (λ s. list_all (λ c. is_name c.name) s.collections) scopes → b ≡ names_formed scopes
then_collections scopes a b first holds second =
    second ∙ sym (list_all-flat_map (λ c. is_name c.name) (λ s. s.collections) scopes) ∙ ap (λ c. c && list_all (λ c. is_name c.name) (collections_in scopes)) (sym holds ∙ first)
