-- Scopes are equal to themselves.
use Rattle.std.proofs.Common.{◌≡◌, ℕ, true, false, nat_eq, List, [], ◌∷◌, Ok, refl, ap, ◌∙◌, eq-eqb}
use Rattle.std.proofs.lemmas.Bool.{and_from}
use Rattle.std.specs.Cmp.Lexicographic.{pointwise}
use Rattle.manifest_rules.specs.declared.types.Scope.{Scope}
use Rattle.manifest_rules.specs.declared.types.Collection.{Collection}
use Rattle.manifest_rules.specs.Catalog.{Catalog}
use Rattle.manifest_rules.specs.Rules.{same_name, same_collection, same_scope, manifest_step}
use Rattle.manifest_rules.proofs.Outcomes.{at_equal, equal_step}

pub same_name-refl : (name : List ℕ) → same_name name name ≡ true
same_name-refl [] = refl
same_name-refl (x ∷ xs) = and_from (nat_eq x x) _ (eq-eqb x x refl) (same_name-refl xs)

collections-refl : (cs : List Collection) → pointwise same_collection cs cs ≡ true
collections-refl [] = refl
collections-refl (c ∷ cs) =
    and_from (same_collection c c) _ (and_from _ _ (and_from _ _ (same_name-refl c.name) (eq-eqb c.id c.id refl)) (eq-eqb c.max_ttl c.max_ttl refl)) (collections-refl cs)

scopes-refl : (ss : List Scope) → pointwise same_scope ss ss ≡ true
scopes-refl [] = refl
scopes-refl (s ∷ ss) = and_from (same_scope s s) _ (and_from _ _ (and_from _ _ (same_name-refl s.name) (eq-eqb s.id s.id refl)) (collections-refl s.collections)) (scopes-refl ss)

pub equal_step_same : (m new : Catalog) → new.uid ≡ m.uid → new.scopes ≡ m.scopes → manifest_step m new ≡ Ok (record { after = m; dropped = []; changed = false })
equal_step_same m new level same = equal_step m new level ∙ ap (at_equal m) (ap (pointwise same_scope m.scopes) same ∙ scopes-refl m.scopes)
