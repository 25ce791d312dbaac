-- What fences, promotions and messages leave of a copy's numbers.
use Rattle.std.specs.Prelude.{nat_eq, nat_le, nat_lt, ◌&&◌, Ok, Err, if◌then◌else◌}
use Rattle.std.specs.List.{list_any}
use Rattle.std.proofs.Common.{◌≡◌, ℕ, ◌+◌, ◌<◌, ◌≤◌, Bool, true, false, ◌⊎◌, inl, inr, Option, Some, None, refl, arith}
use Rattle.std.proofs.lemmas.Bool.{and_parts, ltb-true, leb-true}
use Rattle.std.proofs.lemmas.Bool.Decides.{nat_tests}
use Rattle.durability_core.specs.Chains.{named_places}
use Rattle.replica_core.specs.declared.copy.CopyCore.{CopyCore}
use Rattle.replica_core.specs.declared.copy.Role.{Role}
use Rattle.replica_core.specs.declared.copy.Role.TheVariants as roles
use Rattle.replica_core.specs.declared.fences.FenceAnswer.{FenceAnswer}
use Rattle.replica_core.specs.declared.fences.PromoteFault.{PromoteFault}
use Rattle.replica_core.specs.declared.fences.PromoteFault.TheVariants as faults
use Rattle.replica_core.specs.declared.messages.MessageHead.{MessageHead}
use Rattle.replica_core.specs.declared.messages.Heard.{Heard}
use Rattle.replica_core.specs.declared.messages.Heard.TheVariants as hearing
use Rattle.replica_core.specs.declared.messages.TheConstants.{ENTRY, ACK, REJOIN, ADOPT}
use Rattle.replica_core.specs.Terms.{owns}
use Rattle.replica_core.specs.Promotion.{answer_at, is_old}
use Rattle.replica_core.specs.Hearing.{heard_entry, heard_ack, heard_all, heard_adopt, heard_kind, heard_passive, heard_active, heard_as, heard}
use Rattle.replica_core.specs.Moving.{promising, fenced, fence_answer, after_promotion, with_all}

-- ---- promises

pub fenced_up : (core : CopyCore) (term : ℕ) → core.promise ≤ (fenced term core).promise
fenced_up core term = go (nat_lt core.promise term) refl
  where
    go : (b : Bool) → nat_lt core.promise term ≡ b
        → core.promise ≤ (if b then promising term core else core).promise
    go true e = omega (arith, ltb-true core.promise term e)
    go false e = omega arith

pub promotion_keeps : (core : CopyCore) (term : ℕ) (fault : Option PromoteFault)
    → (after_promotion term fault core).promise ≡ core.promise
promotion_keeps core term None = refl
promotion_keeps core term (Some fault) = refl

pub taken_up : (core : CopyCore) (head : MessageHead) → core.promise ≤ (with_all head core).promise
taken_up core head = omega arith

-- a fence that isn't too old is at the promise or above it
promised_then : (core : CopyCore) (term : ℕ) → is_old term core ≡ false
    → (fenced term core).promise ≡ term
promised_then core term e = go (nat_lt core.promise term) refl
  where
    go : (b : Bool) → nat_lt core.promise term ≡ b
        → (if b then promising term core else core).promise ≡ term
    go true f = refl
    go false f = grind (arith, nat_tests)

pub answered_promised : (core : CopyCore) (term : ℕ) (answer : FenceAnswer)
    → fence_answer term core ≡ Ok answer → (fenced term core).promise ≡ term
answered_promised core term answer e = go (is_old term core) refl e
  where
    go : (b : Bool) → is_old term core ≡ b
        → (if b then Err faults.Old else Ok (answer_at term (fenced term core))) ≡ Ok answer
        → (fenced term core).promise ≡ term
    go true f g = absurd (cc)
    go false f g = promised_then core term f

-- ---- what is taken

-- what holds where a copy takes all that a message brings
pub record Takes (core : CopyCore) (head : MessageHead) : Type 0 where
  pub owner : owns head.from head.term ≡ true
  pub promise : core.promise ≤ head.term
  pub more : (core.accepted < head.term) ⊎ ((core.accepted ≡ head.term) × (core.length < head.second))

-- an answer that isn't to take all
abbrev IsOther : Heard → Type 0
IsOther h = h ≡ hearing.TakeAll → ⊥

module _ (core : CopyCore) (head : MessageHead) where
  entry_other : IsOther (heard_entry core head)
  entry_other = go (nat_eq head.term core.accepted) (nat_le head.first core.length) (nat_eq head.first (core.length + 1))
    where
      go : (a b c : Bool)
          → IsOther (if a then (if b then hearing.Acknowledge else (if c then hearing.Append else hearing.AskRejoin)) else hearing.AskRejoin)
      go true true c e = cc
      go true false true e = cc
      go true false false e = cc
      go false b c e = cc

  ack_other : IsOther (heard_ack core head)
  ack_other = go (nat_eq head.term core.accepted && nat_le head.first core.length && core.whole)
    where
      go : (b : Bool) → IsOther (if b then hearing.Ignore else hearing.AskRejoin)
      go true e = cc
      go false e = cc

  active_other : IsOther (heard_active core head)
  active_other = go (nat_eq head.term core.accepted) (nat_eq head.kind ACK) (nat_eq head.kind REJOIN)
    where
      go : (a b c : Bool)
          → IsOther (if a then (if b then hearing.Count else (if c then hearing.GiveAdopt else hearing.Ignore)) else hearing.Ignore)
      go true true c e = cc
      go true false true e = cc
      go true false false e = cc
      go false b c e = cc

  -- what is more of an Adopt that is taken
  abbrev pub More : Type 0
  More = (core.accepted < head.term) ⊎ ((core.accepted ≡ head.term) × (core.length < head.second))

  all_more : heard_all core head ≡ hearing.TakeAll → More
  all_more e = go (nat_lt core.accepted head.term) (nat_lt head.term core.accepted) (nat_lt core.length head.second) refl refl refl e
    where
      go : (a b c : Bool) → nat_lt core.accepted head.term ≡ a → nat_lt head.term core.accepted ≡ b
          → nat_lt core.length head.second ≡ c
          → (if a then hearing.TakeAll else (if b then hearing.Ignore else (if c then hearing.TakeAll else hearing.MarkWhole))) ≡ hearing.TakeAll
          → More
      go true b c f g h e = inl (ltb-true core.accepted head.term f)
      go false true c f g h e = absurd (cc)
      go false false true f g h e =
          let same : core.accepted ≡ head.term = grind (arith, nat_tests) in
          inr (same, ltb-true core.length head.second h)
      go false false false f g h e = absurd (cc)

  adopt_more : heard_adopt core head ≡ hearing.TakeAll → More
  adopt_more e = go (nat_eq head.first core.incarnation) e
    where
      go : (b : Bool) → (if b then heard_all core head else hearing.Ignore) ≡ hearing.TakeAll → More
      go true e = all_more e
      go false e = absurd (cc)

  kind_more : heard_kind core head ≡ hearing.TakeAll → More
  kind_more e = go (nat_eq head.kind ENTRY) (nat_eq head.kind ACK) (nat_eq head.kind ADOPT) e
    where
      go : (a b c : Bool)
          → (if a then heard_entry core head else (if b then heard_ack core head else (if c then heard_adopt core head else hearing.Ignore))) ≡ hearing.TakeAll
          → More
      go true b c e = absurd (entry_other e)
      go false true c e = absurd (ack_other e)
      go false false true e = adopt_more e
      go false false false e = absurd (cc)

  passive_takes : heard_passive core head ≡ hearing.TakeAll → Takes core head
  passive_takes e = go (owns head.from head.term && nat_le core.promise head.term) refl e
    where
      go : (b : Bool) → (owns head.from head.term && nat_le core.promise head.term) ≡ b
          → (if b then heard_kind core head else hearing.Ignore) ≡ hearing.TakeAll → Takes core head
      go true f e =
          let both = and_parts (owns head.from head.term) (nat_le core.promise head.term) f in
          record {
            owner = both.0;
            promise = leb-true core.promise head.term both.1;
            more = kind_more e;
          }
      go false f e = absurd (cc)

  as_takes : (role : Role) → heard_as role core head ≡ hearing.TakeAll → Takes core head
  as_takes roles.Active e = absurd (active_other e)
  as_takes roles.Replica e = passive_takes e
  as_takes roles.Pending e = passive_takes e
  as_takes roles.Dead e = absurd (cc)

  pub heard_takes : heard core head ≡ hearing.TakeAll → Takes core head
  heard_takes e = go (list_any (nat_eq head.from) (named_places core.chain)) e
    where
      go : (b : Bool) → (if b then heard_as core.role core head else hearing.Ignore) ≡ hearing.TakeAll
          → Takes core head
      go true e = as_takes core.role e
      go false e = absurd (cc)

  pub taken_owner : heard core head ≡ hearing.TakeAll → owns head.from head.term ≡ true
  taken_owner e = (heard_takes e).owner

  pub taken_promise : heard core head ≡ hearing.TakeAll → (with_all head core).promise ≡ head.term
  taken_promise e = omega (arith, (heard_takes e).promise)

  pub taken_more : heard core head ≡ hearing.TakeAll → More
  taken_more e = (heard_takes e).more
