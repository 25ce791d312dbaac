-- What a promotion that isn't refused has.
use Rattle.std.specs.Prelude.{nat_eq, nat_le, nat_lt, not, ◌&&◌, ◌||◌}
use Rattle.std.specs.List.{list_all, list_any}
use Rattle.std.proofs.Common.{◌≡◌, ℕ, ◌<◌, Bool, true, false, List, [], ◌∷◌}
use Rattle.std.proofs.Common.{None, refl, arith}
use Rattle.std.proofs.lemmas.Bool.{and_parts, and_from, eqb-true, ltb-true, leb-true, lt-ltb, le-leb, not-true}
use Rattle.durability_core.specs.Chains.{named_places}
use Rattle.durability_core.specs.Ready.{most_pass}
use Rattle.durability_core.proofs.Counts.{Shared, meet, most, few_named}
use Rattle.replica_core.specs.declared.copy.CopyCore.{CopyCore}
use Rattle.replica_core.specs.declared.fences.FenceAnswer.{FenceAnswer}
use Rattle.replica_core.specs.declared.fences.PromoteFault.{PromoteFault}
use Rattle.replica_core.specs.Terms.{owns}
use Rattle.replica_core.specs.Promotion.{answer_at, same_answer, is_behind, has_answered, are_many}
use Rattle.replica_core.specs.Promotion.{is_own, none_foreign}
use Rattle.replica_core.specs.Promotion.{promotion_checks, first_fault, promote_fault}

-- where no check fails, each holds
all_hold : (checks : List (Bool × PromoteFault)) → first_fault checks ≡ None
    → list_all (λ (check : Bool × PromoteFault). check.0) checks ≡ true
all_hold [] e = refl
all_hold ((true, fault) ∷ others) e = all_hold others e
all_hold ((false, fault) ∷ others) e = absurd (cc)

-- what the checks of a promotion come to where none fails
record Passed (core : CopyCore) (term : ℕ) (answers : List FenceAnswer) (weak : Bool)
    : Type 0 where
  owner : owns core.place term ≡ true
  later : nat_lt core.accepted term ≡ true
  many : are_many core term answers ≡ true
  foreign : none_foreign core term answers ≡ true
  longest : not (list_any (is_behind core) answers) ≡ true
  whole : (weak || list_all (λ (a : FenceAnswer). a.whole) answers) ≡ true

module _ (core : CopyCore) (term : ℕ) (answers : List FenceAnswer) (weak : Bool) where
  all_passed : promote_fault core term answers weak ≡ None → Passed core term answers weak
  all_passed e =
      let owner = and_parts _ _ (all_hold (promotion_checks core term answers weak) e) in
      let later = and_parts _ _ owner.1 in
      let many = and_parts _ _ later.1 in
      let own = and_parts _ _ many.1 in
      let longest = and_parts _ _ own.1 in
      record {
        owner = owner.0;
        later = (and_parts _ _ later.0).0;
        many = many.0;
        foreign = own.0;
        longest = longest.0;
        whole = (and_parts _ _ longest.1).0;
      }

  pub owner_promoted : promote_fault core term answers weak ≡ None → owns core.place term ≡ true
  owner_promoted e = (all_passed e).owner

  pub later_term : promote_fault core term answers weak ≡ None → core.accepted < term
  later_term e = ltb-true core.accepted term (all_passed e).later

  pub many_answered : promote_fault core term answers weak ≡ None
      → are_many core term answers ≡ true
  many_answered e = (all_passed e).many

  pub none_ahead : promote_fault core term answers weak ≡ None
      → list_any (is_behind core) answers ≡ false
  none_ahead e = not-true (list_any (is_behind core) answers) (all_passed e).longest

  pub answers_meet : (test : ℕ → Bool) → promote_fault core term answers weak ≡ None
      → most_pass core.chain test ≡ true
      → Shared (has_answered term answers) test (named_places core.chain)
  answers_meet test e f =
      let many = leb-true _ _ (many_answered e) in
      meet (has_answered term answers) test (named_places core.chain)
      (omega (arith, many, most core.chain test f, few_named core.chain))

  abbrev mine : Bool
  mine = list_any (same_answer (answer_at term core)) answers

  abbrev ours : Bool
  ours = list_all (is_own core term answers) answers

  pub promised_before : promote_fault core term answers weak ≡ None → core.promise ≡ term
  promised_before e =
      eqb-true core.promise term
      (and_parts (ours && mine) (nat_eq core.promise term) (all_passed e).foreign).1

  pub own_answered : promote_fault core term answers weak ≡ None
      → list_any (same_answer (answer_at term core)) answers ≡ true
  own_answered e =
      (and_parts ours mine
      (and_parts (ours && mine) (nat_eq core.promise term) (all_passed e).foreign).0).1

  pub whole_or_weak : promote_fault core term answers weak ≡ None
      → (weak || list_all (λ (a : FenceAnswer). a.whole) answers) ≡ true
  whole_or_weak e = (all_passed e).whole

-- where each check holds, none fails
none_fails : (checks : List (Bool × PromoteFault))
    → list_all (λ (check : Bool × PromoteFault). check.0) checks ≡ true
    → first_fault checks ≡ None
none_fails [] e = refl
none_fails ((true, fault) ∷ others) e = none_fails others e
none_fails ((false, fault) ∷ others) e = absurd (cc)

not_from : (b : Bool) → b ≡ false → not b ≡ true
not_from true e = absurd (cc)
not_from false e = refl

module _ (core : CopyCore) (term : ℕ) (answers : List FenceAnswer) (weak : Bool) where
  pub made_by_right : owns core.place term ≡ true → core.accepted < term → core.promise ≡ term
      → are_many core term answers ≡ true → none_foreign core term answers ≡ true
      → list_any (is_behind core) answers ≡ false
      → (weak || list_all (λ (a : FenceAnswer). a.whole) answers) ≡ true
      → promote_fault core term answers weak ≡ None
  made_by_right owner later promised many foreign longest whole =
      none_fails (promotion_checks core term answers weak)
      (and_from (owns core.place term) _ owner
      (and_from (nat_lt core.accepted term && nat_le core.promise term) _
      (and_from (nat_lt core.accepted term) (nat_le core.promise term)
      (lt-ltb core.accepted term later)
      (le-leb core.promise term (omega (arith, promised))))
      (and_from (are_many core term answers) _ many
      (and_from (none_foreign core term answers) _ foreign
      (and_from (not (list_any (is_behind core) answers)) _
      (not_from (list_any (is_behind core) answers) longest)
      (and_from (weak || list_all (λ (a : FenceAnswer). a.whole) answers) true whole refl))))))
