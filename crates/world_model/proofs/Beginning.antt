-- The copies of a world that just begins.
use Rattle.std.specs.Prelude.{◌≡◌, ℕ, ◌+◌, get_or, List, [], ◌∷◌, Option, Some, None}
use Rattle.std.proofs.Common.{zero, suc, sym, ap, subst, arith}
use Rattle.vb_log.specs.Logs.{LogKind}
use Rattle.durability_core.specs.declared.chain.Chain.{Chain}
use Rattle.copy_model.specs.Copies.{Copy}
use Rattle.copy_model.specs.Openings.{new_copy}
use Rattle.world_model.specs.Worlds.{Up, Nobody, first_seats, IsFirstAt}

up_is : {L Y : Type 0} (a b : Copy L Y) → Up a ≡ Up b → a ≡ b
up_is a b e = cc

nobody_is_up : {L Y : Type 0} (c : Copy L Y) → Nobody ≡ Up c → ⊥
nobody_is_up c e = cc

-- each stands at its place
pub first_at : {L Y : Type 0} (k : LogKind L) (layout : Y) (chain : Chain) (number : ℕ)
    (names : List (Option (List ℕ))) (at x : ℕ) (c : Copy L Y)
    → get_or (first_seats k layout chain number at names) x Nobody ≡ Up c
    → IsFirstAt k chain number (at + x) c
first_at k layout chain number [] at x c e = absurd (nobody_is_up c e)
first_at k layout chain number (None ∷ names) at zero c e = absurd (nobody_is_up c e)
first_at {L} {Y} k layout chain number (Some name ∷ names) at zero c e =
    let is : c ≡ new_copy k chain at number layout =
    sym (up_is (new_copy k chain at number layout) c e) in
    record {
      chain_own = ap (λ (d : Copy L Y). d.chain) is;
      place_own = let own = ap (λ (d : Copy L Y). d.place) is in omega arith;
      number_own = ap (λ (d : Copy L Y). d.number) is;
      log = ap (λ (d : Copy L Y). d.log) is;
      opened = ap (λ (d : Copy L Y). d.incarnation) is;
    }
first_at k layout chain number (None ∷ names) at (suc x) c e =
    let rest = first_at k layout chain number names (at + 1) x c e in
    subst (λ n. IsFirstAt k chain number n c) (omega arith) rest
first_at k layout chain number (Some name ∷ names) at (suc x) c e =
    let rest = first_at k layout chain number names (at + 1) x c e in
    subst (λ n. IsFirstAt k chain number n c) (omega arith) rest
