-- The replies to frames are determined, as long as the disk fails no event and no memory is refused.
use Rattle.std.proofs.Common.{◌≡◌, ◌≢◌, ℕ, ◌+◌, ◌≤◌, List, [], ◌∷◌, Option, Some, None, refl, sym, ap, subst, ◌∙◌, arith}
use Rattle.std.proofs.Math.Nat.{add-zero}
use Rattle.std.specs.List.{AllByRecursion}
use Rattle.kv_frame.specs.declared.frame.Frame.{Frame}
use Rattle.kv_request.specs.declared.request.Durability.{Durability}
use Rattle.kv_request.specs.declared.request.Request.{Request}
use Rattle.kv_request.specs.declared.reply.Reply.{Reply}
use Rattle.kv_request.specs.Tables.{refused}
use Rattle.doc_model.specs.declared.status.TheConstants.Status as status
use Rattle.kv_session.specs.Answers.{Made, Passed, made_by}
use Rattle.kv_session.specs.Answers as makes
use Rattle.kv_session.specs.Cutting.{Standing, at_start, behind, IsDrained}
use Rattle.kv_session.specs.Weaving.{IsTold, AreTold, output}
use Rattle.kv_session.proofs.CuttingLaws.{one_reading}
use Rattle.vb_log.specs.Content.{Content}
use Rattle.vb_log.specs.Logs.{folds}
use Rattle.copy_model.specs.declared.outcome.Outcome.TheVariants as outcomes
use Rattle.copy_model.specs.Copies.{Copy, Chance, Fine, ReadFails, DiskFails, NoMemory}
use Rattle.copy_model.specs.Events.{Requests, Told, Answered, step}
use Rattle.vb_core.specs.Coming.{next_layout}
use Rattle.vb_core.specs.Flat.{flat}
use Rattle.kv_tool.specs.Course.{Knowledge, IsAt, AnswersAt, Answers, faults_of}
use Rattle.kv_tool.specs.Outcomes.{IsServed}

-- a reply that isn't ENOMEM
abbrev pub IsGiven : Reply → Type 0
IsGiven reply = reply.status ≢ status.ENOMEM

-- ---- faults only grow

-- what is known is a copy, and at least so many faults
pub record IsBeyond (count : ℕ) (new : Knowledge) : Type 0 where
  pub copy : Copy Content ℕ
  pub more : ℕ
  pub is : new ≡ IsAt copy (count + more)

answer_beyond : (now : ℕ) (request : Request) (copy : Copy Content ℕ) (count : ℕ) (reply : Reply) (new : Knowledge) (level : Option Durability)
    → AnswersAt level now request (IsAt copy count) reply new → IsBeyond count new
answer_beyond now request copy count reply new (Some level) told = record { copy = copy; more = 0; is = told.1 ∙ ap (IsAt copy) (sym (add-zero count)) }
answer_beyond now request copy count reply new None (after, more, is, goes) = record { copy = after; more = more; is = is }

told_beyond : (now : ℕ) (m : Made) (copy : Copy Content ℕ) (count : ℕ) (reply : Reply) (new : Knowledge) → IsTold (Answers now) m (IsAt copy count) reply new → IsBeyond count new
told_beyond now (makes.Told own features quit) copy count reply new (is, same) = record { copy = copy; more = 0; is = same ∙ ap (IsAt copy) (sym (add-zero count)) }
told_beyond now (Passed made) copy count reply new told = answer_beyond now made copy count reply new made.durability told

pub ends_beyond : (now : ℕ) (standing : Standing) (copy : Copy Content ℕ) (count : ℕ) (fs : List Frame) (replies : List Reply) (end : Knowledge) → AreTold (Answers now) standing (IsAt copy count) fs replies end → IsBeyond count end
ends_beyond now standing copy count [] [] end same = record { copy = copy; more = 0; is = same ∙ ap (IsAt copy) (sym (add-zero count)) }
ends_beyond now standing copy count [] (a ∷ replies) end told = absurd told
ends_beyond now standing copy count (f ∷ fs) [] end told = absurd told
ends_beyond now standing copy count (f ∷ fs) (a ∷ replies) end (mid, first, others) =
    let m : Made = made_by standing.features f in
    let b = told_beyond now m copy count a mid first in
    let more =
    ends_beyond now (behind standing m) b.copy (count + b.more) fs replies end (subst (λ (k : Knowledge). AreTold (Answers now) (behind standing m) k fs replies end) b.is others) in
    record { copy = more.copy; more = b.more + more.more; is = more.is ∙ ap (IsAt more.copy) (omega arith) }

all_beyond : (now : ℕ) (standing : Standing) (copy after : Copy Content ℕ) (count all : ℕ) (fs : List Frame) (replies : List Reply) → AreTold (Answers now) standing (IsAt copy count) fs replies (IsAt after all) → count ≤ all
all_beyond now standing copy after count all [] [] same = let e : all ≡ count = cc in omega arith
all_beyond now standing copy after count all [] (a ∷ replies) told = absurd told
all_beyond now standing copy after count all (f ∷ fs) [] told = absurd told
all_beyond now standing copy after count all (f ∷ fs) (a ∷ replies) (mid, first, others) =
    let m : Made = made_by standing.features f in
    let b = told_beyond now m copy count a mid first in
    let le : count + b.more ≤ all =
    all_beyond now (behind standing m) b.copy after (count + b.more) all fs replies (subst (λ (k : Knowledge). AreTold (Answers now) (behind standing m) k fs replies (IsAt after all)) b.is others) in
    omega arith

-- ---- one step

-- what is known is a copy, and no fault
record IsCalm (new : Knowledge) : Type 0 where
  copy : Copy Content ℕ
  is : new ≡ IsAt copy 0

-- the state and the reply are the same
record SameAnswer (mid other : Knowledge) (reply answer : Reply) : Type 0 where
  known_same : mid ≡ other
  reply_same : reply ≡ answer

-- what is told of a reply
abbrev replied : Reply → Told Content
replied reply = Answered (outcomes.Reply reply)

one_reply : (reply answer : Reply) → replied reply ≡ replied answer → reply ≡ answer
one_reply reply answer e = cc

-- an event that counts no fault, and whose reply isn't ENOMEM, went well
abbrev went_well : ℕ → Request → Copy Content ℕ → Copy Content ℕ → Reply → Type 0
went_well now request old new reply =
    step folds (flat old.chain) (record { chance = Fine; layout = next_layout old }) (Requests request now) old ≡ (new, Answered (outcomes.Reply reply))

went_by : (now : ℕ) (request : Request) (old new : Copy Content ℕ) (reply : Reply) (chance : Chance)
    → step folds (flat old.chain) (record { chance = chance; layout = next_layout old }) (Requests request now) old ≡ (new, Answered (outcomes.Reply reply))
    → faults_of chance ≡ 0 → IsGiven reply → went_well now request old new reply
went_by now request old new reply Fine goes none given = goes
went_by now request old new reply ReadFails goes none given = absurd (omega (arith, none))
went_by now request old new reply DiskFails goes none given = absurd (omega (arith, none))
went_by now request old new reply NoMemory goes none given =
    absurd (given (ap (λ (r : Reply). r.status) (sym (one_reply (refused request.opcode request.opaque status.ENOMEM) reply (ap (λ (p : Copy Content ℕ × Told Content). p.1) goes)))))

-- two that went well came to the same
one_way : (now : ℕ) (request : Request) (old new other : Copy Content ℕ) (reply answer : Reply) → went_well now request old new reply → went_well now request old other answer → (new ≡ other) × (reply ≡ answer)
one_way now request old new other reply answer one two =
    let same : (new, Answered (outcomes.Reply reply)) ≡ (other, Answered (outcomes.Reply answer)) = sym one ∙ two in
    (ap (λ (p : Copy Content ℕ × Told Content). p.0) same, one_reply reply answer (ap (λ (p : Copy Content ℕ × Told Content). p.1) same))

-- what an event left that counts no fault
none_counted : (copy after : Copy Content ℕ) (count : ℕ) → IsAt after (0 + count) ≡ IsAt copy 0 → count ≡ 0
none_counted copy after count e = let z : 0 + count ≡ 0 = cc in omega (arith, z)

same_level : (now : ℕ) (request : Request) (copy : Copy Content ℕ) (reply answer : Reply) (mid other : Knowledge) (level : Option Durability)
    → AnswersAt level now request (IsAt copy 0) reply mid → AnswersAt level now request (IsAt copy 0) answer other
    → IsCalm mid → IsCalm other → IsGiven reply → IsGiven answer → SameAnswer mid other reply answer
same_level now request copy reply answer mid other (Some level) (is, same) (was, equal) calm quiet given told = record { known_same = same ∙ sym equal; reply_same = is ∙ sym was }
same_level now request copy reply answer mid other None (a, n, is, goes) (b, k, was, went) calm quiet given told =
    let none : n ≡ 0 = none_counted calm.copy a n (sym is ∙ calm.is) in
    let also : k ≡ 0 = none_counted quiet.copy b k (sym was ∙ quiet.is) in
    let same = one_way now request copy a b reply answer
    (went_by now request copy a reply goes.chance goes.goes (sym goes.counted ∙ none) given)
    (went_by now request copy b answer went.chance went.goes (sym went.counted ∙ also) told) in
    record {
      known_same = is ∙ ap (λ (x : ℕ). IsAt a (0 + x)) (none ∙ sym also) ∙ ap (λ (c : Copy Content ℕ). IsAt c (0 + k)) same.0 ∙ sym was;
      reply_same = same.1;
    }

same_answer : (now : ℕ) (copy : Copy Content ℕ) (m : Made) (reply answer : Reply) (mid other : Knowledge)
    → IsTold (Answers now) m (IsAt copy 0) reply mid → IsTold (Answers now) m (IsAt copy 0) answer other
    → IsCalm mid → IsCalm other → IsGiven reply → IsGiven answer → SameAnswer mid other reply answer
same_answer now copy (makes.Told own features quit) reply answer mid other (is, same) (was, equal) calm quiet given told = record { known_same = same ∙ sym equal; reply_same = is ∙ sym was }
same_answer now copy (Passed made) reply answer mid other first one calm quiet given told = same_level now made copy reply answer mid other made.durability first one calm quiet given told

-- ---- all steps

-- what the first of several steps leaves that count no fault
first_calm : (now : ℕ) (copy after : Copy Content ℕ) (m : Made) (standing : Standing) (fs : List Frame) (replies : List Reply) (reply : Reply) (mid : Knowledge) → IsTold (Answers now) m (IsAt copy 0) reply mid
    → AreTold (Answers now) standing mid fs replies (IsAt after 0) → IsCalm mid
first_calm now copy after m standing fs replies reply mid first others =
    let b = told_beyond now m copy 0 reply mid first in
    let le : 0 + b.more ≤ 0 = all_beyond now standing b.copy after (0 + b.more) 0 fs replies (subst (λ (k : Knowledge). AreTold (Answers now) standing k fs replies (IsAt after 0)) b.is others) in
    let none : 0 + b.more ≡ 0 = omega (arith, le) in
    record { copy = b.copy; is = b.is ∙ ap (IsAt b.copy) none }

same_replies : (now : ℕ) (standing : Standing) (copy after end : Copy Content ℕ) (fs : List Frame) (replies answers : List Reply)
    → AreTold (Answers now) standing (IsAt copy 0) fs replies (IsAt after 0) → AreTold (Answers now) standing (IsAt copy 0) fs answers (IsAt end 0)
    → AllByRecursion IsGiven replies → AllByRecursion IsGiven answers → (replies ≡ answers) × (after ≡ end)
same_replies now standing copy after end [] [] [] p q given told = (refl, cc)
same_replies now standing copy after end [] [] (b ∷ answers) p q given told = absurd q
same_replies now standing copy after end [] (a ∷ replies) answers p q given told = absurd p
same_replies now standing copy after end (f ∷ fs) [] answers p q given told = absurd p
same_replies now standing copy after end (f ∷ fs) (a ∷ replies) [] p q given told = absurd q
same_replies now standing copy after end (f ∷ fs) (a ∷ replies) (b ∷ answers) (mid, first, later) (other, one, others) given told =
    let m : Made = made_by standing.features f in
    let calm = first_calm now copy after m (behind standing m) fs replies a mid first later in
    let quiet = first_calm now copy end m (behind standing m) fs answers b other one others in
    let same = same_answer now copy m a b mid other first one calm quiet given.0 told.0 in
    let tails = same_replies now (behind standing m) calm.copy after end fs replies answers
    (subst (λ (k : Knowledge). AreTold (Answers now) (behind standing m) k fs replies (IsAt after 0)) calm.is later)
    (subst (λ (k : Knowledge). AreTold (Answers now) (behind standing m) k fs answers (IsAt end 0)) (sym same.known_same ∙ calm.is) others)
    given.1 told.1 in
    (ap (λ (r : Reply). r ∷ replies) same.reply_same ∙ ap (λ (rs : List Reply). b ∷ rs) tails.0, tails.1)

pub same_served : (now : ℕ) (input : List ℕ) (frames others : List Frame) (rest left : List ℕ) (replies answers : List Reply) (copy after end : Copy Content ℕ)
    → IsServed now input frames rest replies (IsAt copy 0) (IsAt after 0) → IsDrained frames rest → IsServed now input others left answers (IsAt copy 0) (IsAt end 0) → IsDrained others left
    → AllByRecursion IsGiven replies → AllByRecursion IsGiven answers
    → (frames ≡ others) × (rest ≡ left) × (output frames replies ≡ output others answers) × (after ≡ end)
same_served now input frames others rest left replies answers copy after end served done other ended given told =
    let same = one_reading input frames others rest left served.read done other.read ended in
    let replied = same_replies now at_start copy after end frames replies answers served.answered
    (subst (λ (fs : List Frame). AreTold (Answers now) at_start (IsAt copy 0) fs answers (IsAt end 0)) (sym same.0) other.answered)
    given told in
    (same.0, same.1, ap (λ (fs : List Frame). output fs replies) same.0 ∙ ap (output others) replied.0, replied.1)
