-- The term that a copy has accepted never falls.
use Rattle.std.specs.Prelude.{◌≡◌, ℕ, ◌+◌, ◌≤◌, nat_eq, nat_le, nat_lt, Bool, true, false, ◌&&◌, List, [], ◌∷◌, None, refl}
use Rattle.std.specs.List.{list_any}
use Rattle.std.proofs.Common.{arith}
use Rattle.std.proofs.Math.Nat.{le_refl}
use Rattle.durability_core.specs.Chains.{named_places}
use Rattle.vb_log.specs.Logs.{LogKind}
use Rattle.replica_core.specs.declared.copy.CopyCore.{CopyCore}
use Rattle.replica_core.specs.declared.copy.Role.{Role}
use Rattle.replica_core.specs.declared.copy.Role.TheVariants as roles
use Rattle.replica_core.specs.declared.fences.FenceAnswer.{FenceAnswer}
use Rattle.replica_core.specs.declared.fences.PromoteFault.{PromoteFault}
use Rattle.replica_core.specs.declared.messages.TheConstants.{ENTRY, ACK, REJOIN, ADOPT}
use Rattle.replica_core.specs.declared.messages.MessageHead.{MessageHead}
use Rattle.replica_core.specs.declared.messages.Heard.{Heard}
use Rattle.replica_core.specs.declared.messages.Heard.TheVariants as hearing
use Rattle.replica_core.specs.Terms.{owns}
use Rattle.replica_core.specs.Hearing.{heard_next, heard_all, heard_kind, heard_passive, heard_active, heard_as, heard}
use Rattle.replica_core.specs.Promotion.{promotion_checks, first_fault, promote_fault}
use Rattle.copy_model.specs.Copies.{Message, EntrySent, AckSent, RejoinSent, AdoptSent, Copy, LayoutKind, Luck}
use Rattle.copy_model.specs.Entries.{core_of}
use Rattle.copy_model.specs.Hearing.{head_of}
use Rattle.copy_model.specs.Events.{Event, Requests, Polls, Forgets, Hears, Speaks, TellsChange, Ticks, Flushes, Cleans, Fences, Promotes, SetsState, step}
use Rattle.copy_model.proofs.Moves.{Few, by_either, by_test, Keeps, TakesAll, Besides, step_moves}

below : (a b : ℕ) → nat_lt a b ≡ true → a ≤ b
below a b h = grind (arith)

above : (a b : ℕ) → nat_lt b a ≡ false → a ≤ b
above a b h = grind (arith)

-- ---- what is heard

-- all of a log is taken only at a term that isn't lower
module _ (core : CopyCore) (head : MessageHead) where
  abbrev TakesHigher : Heard → Type 0
  TakesHigher what = what ≡ hearing.TakeAll → core.accepted ≤ head.term

  all_higher : TakesHigher (heard_all core head)
  all_higher =
      by_test TakesHigher (nat_lt core.accepted head.term) _ _
      (λ less all. below core.accepted head.term less)
      (λ other. by_test TakesHigher (nat_lt head.term core.accepted) _ _ (λ less all. absurd (cc))
      (λ same all. above core.accepted head.term same))

  next_higher : TakesHigher (heard_next core head)
  next_higher =
      by_either TakesHigher (nat_le head.first core.length) _ _ (λ all. absurd (cc))
      (by_either TakesHigher (nat_eq head.first (core.length + 1)) _ _ (λ all. absurd (cc))
      (λ all. absurd (cc)))

  kind_higher : TakesHigher (heard_kind core head)
  kind_higher =
      by_either TakesHigher (nat_eq head.kind ENTRY) _ _
      (by_either TakesHigher (nat_eq head.term core.accepted) _ _ next_higher (λ all. absurd (cc)))
      (by_either TakesHigher (nat_eq head.kind ACK) _ _
      (by_either TakesHigher (nat_eq head.term core.accepted && nat_le head.first core.length &&
      core.whole) _ _ (λ all. absurd (cc)) (λ all. absurd (cc)))
      (by_either TakesHigher (nat_eq head.kind ADOPT) _ _
      (by_either TakesHigher (nat_eq head.first core.incarnation) _ _ all_higher
      (λ all. absurd (cc)))
      (λ all. absurd (cc))))

  passive_higher : TakesHigher (heard_passive core head)
  passive_higher = by_either TakesHigher (owns head.from head.term && nat_le core.promise head.term)
      _ _ kind_higher (λ all. absurd (cc))

  active_higher : TakesHigher (heard_active core head)
  active_higher =
      by_either TakesHigher (nat_eq head.term core.accepted) _ _
      (by_either TakesHigher (nat_eq head.kind ACK) _ _ (λ all. absurd (cc))
      (by_either TakesHigher (nat_eq head.kind REJOIN) _ _ (λ all. absurd (cc))
      (λ all. absurd (cc))))
      (λ all. absurd (cc))

  as_higher : (role : Role) → TakesHigher (heard_as role core head)
  as_higher roles.Active = active_higher
  as_higher roles.Replica = passive_higher
  as_higher roles.Pending = passive_higher
  as_higher roles.Dead = λ all. absurd (cc)

  heard_higher : TakesHigher (heard core head)
  heard_higher = by_either TakesHigher (list_any (nat_eq head.from) (named_places core.chain)) _ _
      (as_higher core.role) (λ all. absurd (cc))

-- ---- promotions

-- where no check fails, the first holds, and none of the others fails
none_first : (check : Bool × PromoteFault) (others : List (Bool × PromoteFault))
    → first_fault (check ∷ others) ≡ None → (check.0 ≡ true) × (first_fault others ≡ None)
none_first (true, fault) others e = (refl, e)
none_first (false, fault) others e = absurd (cc)

-- what the second check comes to
abbrev SecondHolds : List (Bool × PromoteFault) → Type 0
SecondHolds [] = Unit {0}
SecondHolds (check ∷ []) = Unit {0}
SecondHolds (check ∷ second ∷ others) = second.0 ≡ true

second_holds : (checks : List (Bool × PromoteFault)) → first_fault checks ≡ None
    → SecondHolds checks
second_holds [] e = tt
second_holds (check ∷ []) e = tt
second_holds (check ∷ second ∷ others) e =
    (none_first second others (none_first check (second ∷ others) e).1).0

first_of_two : (a b : Bool) → (a && b) ≡ true → a ≡ true
first_of_two true b h = refl
first_of_two false b h = h

-- a rightful promotion is one at a higher term
promotes_higher : (core : CopyCore) (term : ℕ) (answers : List FenceAnswer) (weak : Bool)
    → promote_fault core term answers weak ≡ None → core.accepted ≤ term
promotes_higher core term answers weak e =
    below core.accepted term
    (first_of_two (nat_lt core.accepted term) (nat_le core.promise term)
    (second_holds (promotion_checks core term answers weak) e))

-- ---- the law

module _ {L : Type 0} (k : LogKind L) (least : ℕ) where
  -- a copy that has accepted this term, or a later one, has so afterwards
  abbrev lasting : Few L → Few L → Type 0
  lasting s t = least ≤ s.accepted → least ≤ t.accepted

  lasting_keeps : Keeps k lasting
  lasting_keeps = record {
    grows = record {
      stays = λ s most. most;
      goes = λ s t u p q most. q (p most);
      adds = λ s e most. most;
      commits = λ s p most. most;
      aborts = λ s p most. most;
    };
    leaves = λ s role off most. most;
    raises = λ s term higher most. most;
    prepares = λ s e t waits most. most;
    forgets = λ s ticket most. most;
  }

module _ {L : Type 0} (k : LogKind L) {Y : Type 0} (c : Copy L Y) where
  lasting_takes : (from : ℕ) (m : Message L) → heard (core_of k c) (head_of k from m) ≡
      hearing.TakeAll → TakesAll k (lasting k c.accepted) (lasting_keeps k c.accepted) m
  lasting_takes from (EntrySent term position e) all = tt
  lasting_takes from (AckSent term mem disk) all = tt
  lasting_takes from (RejoinSent term accepted length incarnation) all = tt
  lasting_takes from (AdoptSent term incarnation log) all =
      λ s most. heard_higher (core_of k c) (head_of k from (AdoptSent term incarnation log)) all

  lasting_besides : (e : Event L) → Besides k (lasting k c.accepted) (lasting_keeps k c.accepted) c
      e
  lasting_besides (Requests request now) = tt
  lasting_besides (Polls ticket) = tt
  lasting_besides (Forgets ticket) = tt
  lasting_besides (Hears sent) = λ all. lasting_takes sent.from sent.message all
  lasting_besides Speaks = tt
  lasting_besides TellsChange = tt
  lasting_besides (Ticks now) = tt
  lasting_besides Flushes = tt
  lasting_besides (Cleans most) = tt
  lasting_besides (Fences term) = tt
  lasting_besides (Promotes term answers weak) =
      λ rightful s most. promotes_higher (core_of k c) term answers weak rightful
  lasting_besides (SetsState state) = tt

  pub step_accepts : (y : LayoutKind Y) (luck : Luck Y) (e : Event L)
      → c.accepted ≤ (step k y luck e c).0.accepted
  step_accepts y luck e = step_moves k (lasting k c.accepted) (lasting_keeps k c.accepted) y luck e
      c (lasting_besides e) (le_refl c.accepted)
