-- Whether two chains are one.
use Rattle.std.specs.Prelude.{◌≡◌, ℕ, nat_eq, Bool, true, List, [], ◌∷◌, Option, Some, None, refl}
use Rattle.std.specs.Option.{option_eq}
use Rattle.std.specs.Cmp.Lexicographic.{pointwise}
use Rattle.std.proofs.Common.{ap, ap₂}
use Rattle.std.proofs.lemmas.Bool.{and_parts, and_from, eqb-true, eq-eqb}

abbrev pub same_names : List (Option (List ℕ)) → List (Option (List ℕ)) → Bool
same_names = pointwise (option_eq (pointwise nat_eq))

bytes_same : (a b : List ℕ) → pointwise nat_eq a b ≡ true → a ≡ b
bytes_same [] [] e = refl
bytes_same [] (y ∷ b) e = absurd (cc)
bytes_same (x ∷ a) [] e = absurd (cc)
bytes_same (x ∷ a) (y ∷ b) e =
    let parts = and_parts (nat_eq x y) (pointwise nat_eq a b) e in
    ap₂ (λ h t. h ∷ t) (eqb-true x y parts.0) (bytes_same a b parts.1)

bytes_refl : (a : List ℕ) → pointwise nat_eq a a ≡ true
bytes_refl [] = refl
bytes_refl (x ∷ a) = and_from (nat_eq x x) (pointwise nat_eq a a) (eq-eqb x x refl) (bytes_refl a)

name_same : (a b : Option (List ℕ)) → option_eq (pointwise nat_eq) a b ≡ true → a ≡ b
name_same None None e = refl
name_same None (Some y) e = absurd (cc)
name_same (Some x) None e = absurd (cc)
name_same (Some x) (Some y) e = ap Some (bytes_same x y e)

name_refl : (a : Option (List ℕ)) → option_eq (pointwise nat_eq) a a ≡ true
name_refl None = refl
name_refl (Some x) = bytes_refl x

pub names_same : (a b : List (Option (List ℕ))) → same_names a b ≡ true → a ≡ b
names_same [] [] e = refl
names_same [] (y ∷ b) e = absurd (cc)
names_same (x ∷ a) [] e = absurd (cc)
names_same (x ∷ a) (y ∷ b) e =
    let parts = and_parts (option_eq (pointwise nat_eq) x y) (same_names a b) e in
    ap₂ (λ h t. h ∷ t) (name_same x y parts.0) (names_same a b parts.1)

pub names_refl : (a : List (Option (List ℕ))) → same_names a a ≡ true
names_refl [] = refl
names_refl (x ∷ a) = and_from (option_eq (pointwise nat_eq) x x) (same_names a a) (name_refl x) (names_refl a)
