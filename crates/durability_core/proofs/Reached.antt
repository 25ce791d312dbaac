-- What is known of places, and what is ready by it.
use Rattle.std.specs.Prelude.{nat_eq, nat_le, nat_lt, get_or, set, max, map as list_map, count_by, ◌/◌, ◌&&◌, ◌||◌, if◌then◌else◌}
use Rattle.std.proofs.Common.{◌≡◌, ℕ, ◌+◌, ◌<◌, ◌≤◌, Bool, true, false, List, refl, sym, ◌∙◌, ap, arith}
use Rattle.std.proofs.lemmas.List.{map-set, set-set, set-get_or}
use Rattle.std.proofs.Math.ListN.{get_or-map}
use Rattle.std.proofs.lemmas.Bool.{lt-ltb}
use Rattle.std.proofs.lemmas.Bool.Decides.{nat_tests}
use Rattle.durability_core.specs.declared.chain.Chain.{Chain}
use Rattle.durability_core.specs.declared.places.Reach.{Reach}
use Rattle.durability_core.specs.Chains.{majority, named_places, place_count}
use Rattle.durability_core.specs.Ready.{Known, unknown, most_have, most_keep, is_ready}
use Rattle.durability_core.specs.Tracking.{known_at, raised}
use Rattle.durability_core.specs.Reaches.{known_of, has_reached, raised_in}

-- a place of which nothing is known
abbrev pub none : Reach
none = record { mem = 0; disk = 0 }

pub raised_there : (known : List Reach) (place mem disk : ℕ) (after : Reach)
    → after.mem ≡ max (get_or known place none).mem mem
    → after.disk ≡ max (get_or known place none).disk disk
    → list_map known_of (set known place after) ≡ raised_in (list_map known_of known) place mem disk
raised_there known place mem disk after f g =
    let was : known_at (list_map known_of known) place ≡ known_of (get_or known place none) =
    get_or-map known_of known place none in
    let now : known_of after ≡ raised mem disk (known_of (get_or known place none)) = cc in
    map-set known_of known place after
    ∙ ap (λ (k : Known). set (list_map known_of known) place k)
    (now ∙ ap (raised mem disk) (sym was))

more_than_half : (n count : ℕ) → nat_lt (n / 2) count ≡ nat_le (n / 2 + 1) count
more_than_half n count = grind (arith, nat_tests)

-- a prepare is ready where more than half the places have reached it, and its own disk
ready_by_count : (chain : Chain) (own : ℕ) (known : ℕ → Known) (level position count : ℕ)
    → count ≡ count_by (has_reached known (nat_eq level 3) position) (named_places chain)
    → (nat_lt (place_count chain / 2) count && (nat_eq level 1 || nat_le position (known own).disk))
    ≡ is_ready chain own known level position
ready_by_count chain own known level position count e =
    ap (λ (b : Bool). b && (nat_eq level 1 || nat_le position (known own).disk))
    (more_than_half (place_count chain) count ∙ go (nat_eq level 3) e)
  where
    go : (b : Bool) → count ≡ count_by (has_reached known b position) (named_places chain)
        → nat_le (majority (place_count chain)) count
        ≡ (if b then most_keep chain known position else most_have chain known position)
    go true e = ap (nat_le (majority (place_count chain))) e
    go false e = ap (nat_le (majority (place_count chain))) e

first_is : (b x : Bool) → b ≡ true → b ≡ (b || x)
first_is true x e = refl
first_is false x e = absurd (cc)

second_is : (b x y : Bool) → b ≡ false → x ≡ y → x ≡ (b || y)
second_is true x y e f = absurd (cc)
second_is false x y e f = f

module _ (chain : Chain) (own : ℕ) (known : ℕ → Known) (level position count : ℕ)
    (e : count ≡ count_by (has_reached known (nat_eq level 3) position) (named_places chain)) where
  where_most : (b : Bool) → place_count chain / 2 < count
      → b ≡ (nat_eq level 1 || nat_le position (known own).disk)
      → b ≡ is_ready chain own known level position
  where_most b l f =
      f ∙ sym (ap (λ (m : Bool). m && (nat_eq level 1 || nat_le position (known own).disk))
      (lt-ltb (place_count chain / 2) count l))
      ∙ ready_by_count chain own known level position count e

  -- at level 1 a majority is enough
  pub ready_at_one : place_count chain / 2 < count → level ≡ 1
      → nat_eq level 1 ≡ is_ready chain own known level position
  ready_at_one l one =
      let yes : nat_eq level 1 ≡ true = grind (arith, nat_tests) in
      where_most (nat_eq level 1) l
      (first_is (nat_eq level 1) (nat_le position (known own).disk) yes)

  -- above, its own disk has it too
  pub ready_above : (reach : Reach) → place_count chain / 2 < count → (level ≡ 1 → ⊥)
      → known_of reach ≡ known own
      → nat_le position reach.disk ≡ is_ready chain own known level position
  ready_above reach l more r =
      let no : nat_eq level 1 ≡ false = grind (arith, nat_tests) in
      where_most (nat_le position reach.disk) l
      (second_is (nat_eq level 1) (nat_le position reach.disk) (nat_le position (known own).disk) no
      (ap (λ (k : Known). nat_le position k.disk) r))

  -- a prepare that fewer have isn't ready
  pub unready : count ≤ place_count chain / 2
      → nat_lt (place_count chain / 2) count ≡ is_ready chain own known level position
  unready l =
      let few : nat_lt (place_count chain / 2) count ≡ false = grind (arith, nat_tests) in
      few
      ∙ sym (ap (λ (m : Bool). m && (nat_eq level 1 || nat_le position (known own).disk)) few)
      ∙ ready_by_count chain own known level position count e

-- what was known of a place is put back
pub put_back_there : (known there after : List Reach) (place mem disk : ℕ) (before : Reach)
    → list_map known_of there ≡ raised_in (list_map known_of known) place mem disk
    → known_of before ≡ known_at (list_map known_of known) place → after ≡ set there place before
    → list_map known_of after ≡ list_map known_of known
put_back_there known there after place mem disk before up was back =
    let all = list_map known_of known in
    ap (list_map known_of) back
    ∙ map-set known_of there place before
    ∙ ap (λ (ks : List Known). set ks place (known_of before)) up
    ∙ set-set all place (raised mem disk (known_at all place)) (known_of before)
    ∙ ap (λ (k : Known). set all place k) was
    ∙ set-get_or all place unknown
