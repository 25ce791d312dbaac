-- The collections of a manifest, of which the first manifest has one.
use Rattle.std.specs.Prelude.{◌≡◌, ℕ, nat_eq, Bool, true, false, not, ◌&&◌, ◌||◌, List, [], ◌∷◌, ◌++◌, refl}
use Rattle.std.specs.List.{list_any}
use Rattle.std.proofs.Common.{sym, ap, ◌∙◌}
use Rattle.std.proofs.lemmas.Bool.Decides.{nat_tests}
use Rattle.std.proofs.lemmas.List.Folds.{list_any-append}
use Rattle.std.proofs.Common.{arith}
use Rattle.manifest_rules.specs.Catalog.{Catalog, collection_ids}
use Rattle.manifest_rules.specs.Rules.{first_catalog, lost}
use Rattle.vb_log.specs.Content.{has_collection}
use Rattle.vb_log.proofs.Collections.{has_listed, lost_listed}

-- the ids that would be lost if the first manifest came next
abbrev pub others : Catalog → List ℕ
others m = lost (collection_ids m.scopes) (collection_ids first_catalog.scopes)

same_number : (a b : ℕ) → nat_eq a b ≡ true → a ≡ b
same_number a b e = grind (arith, nat_tests)

-- whether an id is among them
others_listed : (m : Catalog) (id : ℕ) → list_any (nat_eq id) (others m) ≡ (not (nat_eq id 0 || false) && has_collection m id)
others_listed m id = lost_listed id (collection_ids m.scopes) (collection_ids first_catalog.scopes) ∙ ap (λ b. not (nat_eq id 0 || false) && b) (sym (has_listed m id))

-- with that of the first manifest, where it is there, they are all
pub with_default : (m : Catalog) (id : ℕ) → has_collection m 0 ≡ true → list_any (nat_eq id) (others m ++ 0 ∷ []) ≡ has_collection m id
with_default m id there =
    list_any-append (nat_eq id) (others m) (0 ∷ [])
    ∙ ap (λ b. b || list_any (nat_eq id) (0 ∷ [])) (others_listed m id)
    ∙ go (nat_eq id 0) refl (has_collection m id) refl
  where
    go : (b : Bool) → nat_eq id 0 ≡ b → (h : Bool) → has_collection m id ≡ h → ((not (b || false) && h) || (b || false)) ≡ h
    go true e h is = sym (sym is ∙ ap (has_collection m) (same_number id 0 e) ∙ there)
    go false e true is = refl
    go false e false is = refl

-- where it isn't there, they are all by themselves
pub without_default : (m : Catalog) (id : ℕ) → has_collection m 0 ≡ false → list_any (nat_eq id) (others m) ≡ has_collection m id
without_default m id gone = others_listed m id ∙ go (nat_eq id 0) refl (has_collection m id) refl
  where
    go : (b : Bool) → nat_eq id 0 ≡ b → (h : Bool) → has_collection m id ≡ h → (not (b || false) && h) ≡ h
    go true e h is = sym (sym is ∙ ap (has_collection m) (same_number id 0 e) ∙ gone)
    go false e h is = refl
