-- When tickets' names are the same.
use Rattle.std.specs.Prelude.{◌≡◌, ℕ, nat_eq, Bool, true, false, refl}
use Rattle.std.specs.declared.cmp.Ordering.TheVariants.{Equal}
use Rattle.std.specs.Ordering.{nat_cmp, is_eq, ordering_then, eq_by_cmp}
use Rattle.std.specs.Cmp.{nat_cmp_is}
use Rattle.std.proofs.Common.{sym, ◌∙◌, ap, arith}
use Rattle.std.proofs.lemmas.Bool.{eqb-true}
use Rattle.std.proofs.lemmas.Bool.Decides.{nat_tests}
use Rattle.copy_memory.specs.declared.tickets.TicketName.{TicketName}
use Rattle.copy_memory.specs.Tickets.{name_cmp}
use Rattle.copy_memory.proofs.Names.{same_name}

-- a name is itself
pub name_own : (a : TicketName) → eq_by_cmp name_cmp a a ≡ true
name_own a =
    ap (λ o. is_eq (ordering_then o (nat_cmp a.prepare a.prepare))) (sym (nat_cmp_is a.term a.term Equal refl))
    ∙ ap is_eq (sym (nat_cmp_is a.prepare a.prepare Equal refl))

same_number : (n : ℕ) → nat_eq n n ≡ true
same_number n = grind (arith, nat_tests)

-- names of other prepares, or other terms, are others
pub other_prepare : (a b : TicketName) → nat_eq a.prepare b.prepare ≡ false → eq_by_cmp name_cmp a b ≡ false
other_prepare a b e = by (eq_by_cmp name_cmp a b) refl
  where
    by : (t : Bool) → eq_by_cmp name_cmp a b ≡ t → t ≡ false
    by false h = refl
    by true h =
        let same : nat_eq a.prepare b.prepare ≡ true = ap (λ (n : TicketName). nat_eq n.prepare b.prepare) (same_name a b h) ∙ same_number b.prepare in
        absurd (let z : true ≡ false = sym same ∙ e in cc)

pub other_term : (a b : TicketName) → nat_eq b.term a.term ≡ false → eq_by_cmp name_cmp a b ≡ false
other_term a b e = by (eq_by_cmp name_cmp a b) refl
  where
    by : (t : Bool) → eq_by_cmp name_cmp a b ≡ t → t ≡ false
    by false h = refl
    by true h =
        let same : nat_eq b.term a.term ≡ true = ap (λ (n : TicketName). nat_eq b.term n.term) (same_name a b h) ∙ same_number b.term in
        absurd (let z : true ≡ false = sym same ∙ e in cc)

-- and of the same of both the same
pub both_same : (a b : TicketName) → nat_eq a.prepare b.prepare ≡ true → nat_eq b.term a.term ≡ true → a ≡ b
both_same a b p t =
    ap (λ n. record { term = n; prepare = a.prepare }) (sym (eqb-true b.term a.term t))
    ∙ ap (λ n. record { term = b.term; prepare = n }) (eqb-true a.prepare b.prepare p)
