-- Collections with the scopes that they are in, gone through scope by scope.
use Rattle.std.proofs.Common.{◌≡◌, ℕ, nat_eq, not, ◌&&◌, ◌||◌, Bool, List, [], ◌∷◌, map, refl, ap₂, ◌∙◌}
use Rattle.std.proofs.lemmas.List.Folds.{list_all-map}
use Rattle.std.specs.List.{list_all}
use Rattle.manifest_rules.specs.declared.types.Scope.{Scope}
use Rattle.manifest_rules.specs.declared.types.Collection.{Collection}
use Rattle.manifest_rules.specs.Rules.{same_name, placed, collections_stay}
use Rattle.manifest_rules.proofs.Fits.{list_all-flat_map}

list_all-cong : {A : Type 0} (p q : A → Bool) → ((x : A) → p x ≡ q x) → (xs : List A) → list_all p xs ≡ list_all q xs
list_all-cong p q h [] = refl
list_all-cong p q h (x ∷ xs) = ap₂ (λ a b. a && b) (h x) (list_all-cong p q h xs)

-- a test of placed collections, scope by scope
list_all-placed : (p : ℕ → Collection → Bool) (scopes : List Scope) → list_all (λ x. p x.0 x.1) (placed scopes) ≡ list_all (λ s. list_all (p s.id) s.collections) scopes
list_all-placed p scopes =
    list_all-flat_map (λ x. p x.0 x.1) (λ s. map (λ c. (s.id, c)) s.collections) scopes
    ∙ list_all-cong _ _ (λ s. list_all-map (λ x. p x.0 x.1) (λ c. (s.id, c)) s.collections) scopes

pub stay-nested : (old new : List Scope) → collections_stay old new
    ≡ list_all (λ s. list_all (λ c. list_all (λ t. list_all (λ d. not (nat_eq c.id d.id) || (nat_eq s.id t.id && same_name c.name d.name)) t.collections) old) s.collections) new
stay-nested old new =
    let apart = λ (s : ℕ) (c : Collection) (t : ℕ) (d : Collection). not (nat_eq c.id d.id) || (nat_eq s t && same_name c.name d.name) in
    list_all-placed (λ s c. list_all (λ y. apart s c y.0 y.1) (placed old)) new
    ∙ list_all-cong _ _ (λ s. list_all-cong _ _ (λ c. list_all-placed (apart s.id c) old) s.collections) new
