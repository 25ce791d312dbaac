-- When two attributes are equal.
use Rattle.std.specs.Prelude.{nat_eq, Bool, ◌&&◌}
use Rattle.std.specs.Cmp.{IsEquivalence, and_equiv, on_equiv}
use Rattle.std.specs.Cmp.Lexicographic.{pointwise, nat_list_eq_equiv}
use Rattle.xattr_body.specs.Section.{Pair}

-- whether two pairs have one name and one text
abbrev pub same_pair : Pair → Pair → Bool
same_pair a b = pointwise nat_eq a.0 b.0 && pointwise nat_eq a.1 b.1

-- that is reflexive, symmetric and transitive
pub same_pair_equiv : IsEquivalence same_pair
same_pair_equiv = and_equiv (on_equiv (λ pair. pair.0) nat_list_eq_equiv) (on_equiv (λ pair. pair.1) nat_list_eq_equiv)
