-- What a copy's numbers are after a fence, a promotion, and a message that brought all.
use Rattle.std.specs.Prelude.{ℕ, max, nat_lt, true, Option, Some, None, Result, Ok, Err, if◌then◌else◌}
use Rattle.replica_core.specs.declared.copy.CopyCore.{CopyCore}
use Rattle.replica_core.specs.declared.copy.Role.{Role}
use Rattle.replica_core.specs.declared.copy.Role.TheVariants as roles
use Rattle.replica_core.specs.declared.fences.FenceAnswer.{FenceAnswer}
use Rattle.replica_core.specs.declared.fences.PromoteFault.{PromoteFault}
use Rattle.replica_core.specs.declared.fences.PromoteFault.TheVariants as faults
use Rattle.replica_core.specs.declared.messages.MessageHead.{MessageHead}
use Rattle.replica_core.specs.Promotion.{answer_at, is_old}

-- ---- fences

-- a copy that promises a term, and is a replica then
abbrev pub promising : ℕ → CopyCore → CopyCore
promising term core = record core { role = roles.Replica; promise = term }

-- a copy after a fence at a term: one above its promise is promised, any other changes nothing
abbrev pub fenced : ℕ → CopyCore → CopyCore
fenced term core = if nat_lt core.promise term then promising term core else core

-- what a fence at a term tells: the answer of the copy as it is then, or that the term is too old
abbrev pub fence_answer : ℕ → CopyCore → Result FenceAnswer PromoteFault
fence_answer term core =
    if is_old term core then Err faults.Old else Ok (answer_at term (fenced term core))

-- ---- promotions

-- a copy that is promoted at a term: it is active, and whole
abbrev pub promoted : ℕ → CopyCore → CopyCore
promoted term core = record core { role = roles.Active; accepted = term; whole = true }

-- a copy after a promotion at a term, by its fault: one that is refused changes nothing
abbrev pub after_promotion : ℕ → Option PromoteFault → CopyCore → CopyCore
after_promotion term None core = promoted term core
after_promotion term (Some fault) core = core

-- what a promotion tells, by its fault
abbrev pub promotion_answer : Option PromoteFault → Result (Unit {0}) PromoteFault
promotion_answer None = Ok tt
promotion_answer (Some fault) = Err fault

-- ---- messages

-- a copy that took all that a message brings: log and term are the message's, and it is whole
abbrev pub with_all : MessageHead → CopyCore → CopyCore
with_all head core = record core {
  promise = max core.promise head.term;
  accepted = head.term;
  length = head.second;
  whole = true;
}

-- ---- roles

-- a copy in a role
abbrev pub in_role : Role → CopyCore → CopyCore
in_role role core = record core { role = role }
