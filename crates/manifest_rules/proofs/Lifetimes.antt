-- Lifetimes of collections that are gone through one after another.
use Rattle.std.proofs.Common.{◌≡◌, ℕ, ◌+◌, ◌<◌, nat_eq, List, [], ◌∷◌, ◌++◌, length, get_or, take, find, Option, Some, None, option_map, refl, sym, ap, ◌∙◌, append-nil}
use Rattle.std.specs.Option.{option_or}
use Rattle.std.proofs.lemmas.List.{take_more}
use Rattle.std.proofs.lemmas.List.Folds.{find-append}
use Rattle.std.proofs.lemmas.List.Concat.{flat_map-append}
use Rattle.manifest_rules.specs.declared.types.Scope.{Scope}
use Rattle.manifest_rules.specs.declared.types.Collection.{Collection}
use Rattle.manifest_rules.specs.Catalog.{collections_in}
use Rattle.manifest_rules.specs.Lifetimes.{ttl_in}

option_or_map : {A B : Type 0} (f : A → B) (a b : Option A) → option_map f (option_or a b) ≡ option_or (option_map f a) (option_map f b)
option_or_map f None b = refl
option_or_map f (Some x) b = refl

option_or_assoc : {A : Type 0} (a b c : Option A) → option_or (option_or a b) c ≡ option_or a (option_or b c)
option_or_assoc None b c = refl
option_or_assoc (Some x) b c = refl

pub ttl_in-append : (xs ys : List Collection) (id : ℕ) → ttl_in (xs ++ ys) id ≡ option_or (ttl_in xs id) (ttl_in ys id)
ttl_in-append xs ys id = ap (option_map (λ c. c.max_ttl)) (find-append (λ c. nat_eq c.id id) xs ys) ∙ option_or_map (λ c. c.max_ttl) (find (λ c. nat_eq c.id id) xs) (find (λ c. nat_eq c.id id) ys)

joined : (xs ys : List Collection) (id : ℕ) (old mid new : Option ℕ) → mid ≡ option_or old (ttl_in xs id) → new ≡ option_or mid (ttl_in ys id) → new ≡ option_or old (ttl_in (xs ++ ys) id)
joined xs ys id old mid new p q = q ∙ ap (λ o. option_or o (ttl_in ys id)) p ∙ option_or_assoc old (ttl_in xs id) (ttl_in ys id) ∙ ap (option_or old) (sym (ttl_in-append xs ys id))

-- one collection more
pub one_more : (cs : List Collection) (i : ℕ) (x : Collection) (id : ℕ) (old mid new : Option ℕ) → x ≡ get_or cs i x → i < length cs
    → mid ≡ option_or old (ttl_in (take i cs) id) → new ≡ option_or mid (ttl_in (x ∷ []) id) → new ≡ option_or old (ttl_in (take (i + 1) cs) id)
one_more cs i x id old mid new at within p q =
    joined (take i cs) (x ∷ []) id old mid new p q ∙ ap (λ xs. option_or old (ttl_in xs id)) (ap (λ y. take i cs ++ y ∷ []) at ∙ sym (take_more cs i x within))

-- one scope more
pub scope_more : (ss : List Scope) (i : ℕ) (x : Scope) (id : ℕ) (mid new : Option ℕ) → x ≡ get_or ss i x → i < length ss
    → mid ≡ ttl_in (collections_in (take i ss)) id → new ≡ option_or mid (ttl_in x.collections id) → new ≡ ttl_in (collections_in (take (i + 1) ss)) id
scope_more ss i x id mid new at within p q =
    joined (collections_in (take i ss)) (collections_in (x ∷ [])) id None mid new p
    (q ∙ ap (λ cs. option_or mid (ttl_in cs id)) (sym (append-nil x.collections)))
    ∙ ap (λ xs. ttl_in xs id) (sym (flat_map-append (λ s. s.collections) (take i ss) (x ∷ [])) ∙ ap collections_in (ap (λ y. take i ss ++ y ∷ []) at ∙ sym (take_more ss i x within)))
