-- Answers to fences, and the promotions that they allow.
use Rattle.std.specs.Prelude.{ℕ, nat_eq, nat_le, nat_lt, Bool, ◌&&◌, ◌||◌, not, count_by}
use Rattle.std.specs.Prelude.{List, [], ◌∷◌, length, Option, Some, None, if◌then◌else◌}
use Rattle.std.specs.List.{list_all, list_any}
use Rattle.durability_core.specs.Chains.{majority, named_places}
use Rattle.replica_core.specs.declared.copy.CopyCore.{CopyCore}
use Rattle.replica_core.specs.declared.fences.FenceAnswer.{FenceAnswer}
use Rattle.replica_core.specs.declared.fences.PromoteFault.{PromoteFault}
use Rattle.replica_core.specs.declared.fences.PromoteFault.TheVariants as faults
use Rattle.replica_core.specs.Terms.{owns}

-- ---- answers

-- what a copy answers to a fence at a term
abbrev pub answer_at : ℕ → CopyCore → FenceAnswer
answer_at term core = record {
  place = core.place;
  term = term;
  accepted = core.accepted;
  length = core.length;
  incarnation = core.incarnation;
  whole = core.whole;
}

-- whether a fence at a term is refused as too old
abbrev pub is_old : ℕ → CopyCore → Bool
is_old term core = nat_lt term core.promise

-- whether two answers are the same
abbrev pub same_answer : FenceAnswer → FenceAnswer → Bool
same_answer a b =
    nat_eq a.place b.place
    && nat_eq a.term b.term
    && nat_eq a.accepted b.accepted
    && nat_eq a.length b.length
    && nat_eq a.incarnation b.incarnation
    && (if a.whole then b.whole else not b.whole)

-- whether a copy's log is of an earlier term than an answer's, or of the same and shorter
abbrev pub is_behind : CopyCore → FenceAnswer → Bool
is_behind core a =
    nat_lt core.accepted a.accepted
    || (nat_eq core.accepted a.accepted && nat_lt core.length a.length)

-- ---- what is asked of the answers

-- whether a place answered at a term
abbrev pub has_answered : ℕ → List FenceAnswer → ℕ → Bool
has_answered term answers place =
    list_any (λ (a : FenceAnswer). nat_eq a.place place && nat_eq a.term term) answers

-- whether a majority of the named places answered at a term
abbrev pub are_many : CopyCore → ℕ → List FenceAnswer → Bool
are_many core term answers =
    nat_le (majority (length (named_places core.chain)))
    (count_by (has_answered term answers) (named_places core.chain))

-- whether an answer is of this term, of a named place, and the only one of its place
abbrev pub is_own : CopyCore → ℕ → List FenceAnswer → FenceAnswer → Bool
is_own core term answers a =
    nat_eq a.term term
    && list_any (nat_eq a.place) (named_places core.chain)
    && nat_eq (count_by (λ (b : FenceAnswer). nat_eq b.place a.place) answers) 1

-- Whether no answer is foreign: each is one for this promotion, the copy's own is there as it would
-- be now, and the copy's promise is the term.
abbrev pub none_foreign : CopyCore → ℕ → List FenceAnswer → Bool
none_foreign core term answers =
    list_all (is_own core term answers) answers
    && list_any (same_answer (answer_at term core)) answers
    && nat_eq core.promise term

-- ---- promotions

-- the checks of a promotion in their order, each with the fault of one that fails it
abbrev pub promotion_checks :
    CopyCore → ℕ → List FenceAnswer → Bool → List (Bool × PromoteFault)
promotion_checks core term answers weak =
    (owns core.place term, faults.Owner)
    ∷ (nat_lt core.accepted term && nat_le core.promise term, faults.Old)
    ∷ (are_many core term answers, faults.Few)
    ∷ (none_foreign core term answers, faults.Foreign)
    ∷ (not (list_any (is_behind core) answers), faults.NotLongest)
    ∷ (weak || list_all (λ (a : FenceAnswer). a.whole) answers, faults.NotWhole)
    ∷ []

-- the fault of the first check that fails
abbrev pub first_fault : List (Bool × PromoteFault) → Option PromoteFault
first_fault [] = None
first_fault (check ∷ others) = if check.0 then first_fault others else Some check.1

-- the fault of a promotion at a term by answers, none where it is rightful
abbrev pub promote_fault : CopyCore → ℕ → List FenceAnswer → Bool → Option PromoteFault
promote_fault core term answers weak = first_fault (promotion_checks core term answers weak)
