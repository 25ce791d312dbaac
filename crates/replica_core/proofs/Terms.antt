-- Terms have one owner.
use Rattle.std.specs.Prelude.{◌%◌, ◌^◌, nat_eq, nat_le, nat_lt}
use Rattle.std.proofs.Common.{◌≡◌, ℕ, ◌<◌, ◌≤◌, true, false, sym, ◌∙◌, arith}
use Rattle.std.proofs.lemmas.Bool.{and_parts, and_from, and_left, and_right, eqb-true, le-leb, lt-ltb}
use Rattle.std.proofs.lemmas.Bool.Decides.{nat_tests}
use Rattle.replica_core.specs.Terms.{is_term, owner, owns}

owner_is : (place term : ℕ) → owns place term ≡ true → owner term ≡ place
owner_is place term e = eqb-true (owner term) place (and_parts _ _ e).1

pub one_owner : (first second term : ℕ) → owns first term ≡ true → owns second term ≡ true
    → first ≡ second
one_owner first second term e f = sym (owner_is first term e) ∙ owner_is second term f

pub owner_below : (place term : ℕ) → owns place term ≡ true → place < 4
owner_below place term e = omega (arith, owner_is place term e)

low : (n : ℕ) → n < 4 → nat_le 4 n ≡ false
low n l = grind (arith, nat_tests)

pub least_term : (place number : ℕ) → number < 4 → owns place number ≡ false
least_term place number l =
    and_left (is_term number) (nat_eq (owner number) place)
    (and_left (nat_le 4 number) (nat_lt number (2 ^ 48)) (low number l))

high : (bound n : ℕ) → bound ≤ n → nat_lt n bound ≡ false
high bound n l = grind (arith, nat_tests)

pub most_term : (place number : ℕ) → 2 ^ 48 ≤ number → owns place number ≡ false
most_term place number l =
    and_left (is_term number) (nat_eq (owner number) place)
    (and_right (nat_le 4 number) (nat_lt number (2 ^ 48)) (high (2 ^ 48) number l))

same : (n : ℕ) → nat_eq n n ≡ true
same n = grind (arith, nat_tests)

pub each_owned : (term : ℕ) → 4 ≤ term → term < 2 ^ 48 → owns (term % 4) term ≡ true
each_owned term l m =
    and_from (is_term term) (nat_eq (owner term) (term % 4))
    (and_from (nat_le 4 term) (nat_lt term (2 ^ 48)) (le-leb 4 term l) (lt-ltb term (2 ^ 48) m))
    (same (term % 4))
