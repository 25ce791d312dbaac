-- A run's requests are deeds of the copy that the disk held.
use Rattle.std.specs.Prelude.{◌≡◌, ℕ, ◌+◌, nat_eq, Bool, true, List, [], ◌∷◌, ◌++◌, Option, Some, None, Result, refl}
use Rattle.std.proofs.Common.{sym, ap, subst, ◌∙◌, inl, inr, arith}
use Rattle.std.proofs.lemmas.Bool.Decides.{nat_tests}
use Rattle.kv_frame.specs.declared.frame.Frame.{Frame}
use Rattle.kv_request.specs.declared.request.Durability.{Durability}
use Rattle.kv_request.specs.declared.request.Request.{Request}
use Rattle.kv_request.specs.declared.reply.Reply.{Reply}
use Rattle.kv_session.specs.Answers.{Made, Passed, Told, made_by}
use Rattle.kv_session.specs.Cutting.{Standing, at_start, behind}
use Rattle.kv_session.specs.Weaving.{IsTold, AreTold}
use Rattle.magma_disk.specs.Device.{Device}
use Rattle.durability_core.specs.declared.chain.Chain.{Chain}
use Rattle.vb_log.specs.declared.entry.Pending.{Pending}
use Rattle.vb_log.specs.Content.{Content}
use Rattle.vb_log.specs.Logs.{folds}
use Rattle.copy_model.specs.declared.outcome.Outcome.{Outcome}
use Rattle.copy_model.specs.declared.outcome.Outcome.TheVariants as outcomes
use Rattle.copy_model.specs.declared.outcome.VbFault.{VbFault}
use Rattle.copy_model.specs.Copies.{Copy, Luck}
use Rattle.copy_model.specs.Events.{Event, Requests, Flushes, Answered, FlushedTo, telling}
use Rattle.copy_model.specs.Laying.{May}
use Rattle.copy_model.specs.Requests.{requested}
use Rattle.copy_laws.specs.Histories.{Deed, Asked, Flushed, Takes, TakesAll}
use Rattle.vb_core.specs.Coming.{next_layout}
use Rattle.vb_core.specs.Flat.{flat}
use Rattle.vb_core.specs.Openings.{BeginsOn, begun, put_on_disk}
use Rattle.kv_tool.specs.Course.{only_chain, Knowledge, Unknown, IsAt, Goes, AnswersAt, Answers, IsFlushed, known_by, Begins}
use Rattle.kv_tool.specs.Outcomes.{Seen, IsMoment, Run, IsRun, Closes}
use Rattle.pipe_laws.specs.Deeds.{deed_at, deed_by, deeds_from, deeds_of}
use Rattle.pipe_laws.proofs.Chained.{IsOf, requested_of}

-- ---- one event

-- what is put on disk behind what is there is what the layout of a commit says
laid_behind : (c : Copy Content ℕ) → nat_eq (next_layout c) (next_layout c) ≡ true
laid_behind c = grind (arith, nat_tests)

may_ask : (request : Request) (now : ℕ) (reply : Reply) (old new : Copy Content ℕ) (count : ℕ) → IsOf only_chain old
    → Goes (Requests request now) old (Answered (outcomes.Reply reply)) new count → May folds (flat only_chain) (Requests request now) old new (Answered (outcomes.Reply reply))
may_ask request now reply old new count of g =
    subst (λ (chain : Chain). May folds (flat chain) (Requests request now) old new (Answered (outcomes.Reply reply))) of
    (record { luck = record { chance = g.chance; layout = next_layout old }; laid = λ _ _. laid_behind old; goes = g.goes })

may_flush : (told : Result ℕ VbFault) (old new : Copy Content ℕ) (count : ℕ) → IsOf only_chain old
    → Goes Flushes old (FlushedTo told) new count → May folds (flat only_chain) Flushes old new (FlushedTo told)
may_flush told old new count of g =
    subst (λ (chain : Chain). May folds (flat chain) Flushes old new (FlushedTo told)) of
    (record { luck = record { chance = g.chance; layout = next_layout old }; laid = λ _ _. laid_behind old; goes = g.goes })

of_after : (request : Request) (now : ℕ) (reply : Reply) (old new : Copy Content ℕ) (count : ℕ) → request.durability ≡ None → IsOf only_chain old
    → Goes (Requests request now) old (Answered (outcomes.Reply reply)) new count → IsOf only_chain new
of_after request now reply old new count none of g =
    let luck : Luck ℕ = record { chance = g.chance; layout = next_layout old } in
    subst (λ (d : Copy Content ℕ). IsOf only_chain d) (ap (λ (r : Copy Content ℕ × _). r.0) g.goes)
    (requested_of only_chain (flat old.chain) luck request now old none of)

-- ---- deeds, one after the other

-- the copies that deeds lead to
record LeadsTo (copy : Copy Content ℕ) (deeds : List Deed) (known : Knowledge) : Type 0 where
  after : Copy Content ℕ
  faults : ℕ
  is : known ≡ IsAt after faults
  of : IsOf only_chain after
  takes : TakesAll (flat only_chain) copy deeds after

joined : (a b c : Copy Content ℕ) (first second : List Deed) → TakesAll (flat only_chain) a first b → TakesAll (flat only_chain) b second c
    → TakesAll (flat only_chain) a (first ++ second) c
joined a b c [] second p q = subst (λ (x : Copy Content ℕ). TakesAll (flat only_chain) x second c) p q
joined a b c (deed ∷ first) second p q = (p.0, p.1, joined p.0 b c first second p.2 q)

-- what is answered to a request
answered : (level : Option Durability) (now : ℕ) (request : Request) (copy : Copy Content ℕ) (faults : ℕ) (reply : Reply) (known : Knowledge)
    → request.durability ≡ level → IsOf only_chain copy → AnswersAt level now request (IsAt copy faults) reply known
    → LeadsTo copy (deed_at level now request reply) known
answered (Some level) now request copy faults reply known none of (refused, same) =
    record { after = copy; faults = faults; is = same; of = of; takes = refl }
answered None now request copy faults reply known none of (after, count, is, goes) = record {
  after = after;
  faults = faults + count;
  is = is;
  of = of_after request now reply copy after count none of goes;
  takes = (after, (none, may_ask request now reply copy after count of goes), refl);
}

told : (now : ℕ) (made : Made) (copy : Copy Content ℕ) (faults : ℕ) (reply : Reply) (known : Knowledge) → IsOf only_chain copy
    → IsTold (Answers now) made (IsAt copy faults) reply known → LeadsTo copy (deed_by now made reply) known
told now (Told own features quit) copy faults reply known of (same, stays) = record { after = copy; faults = faults; is = stays; of = of; takes = refl }
told now (Passed request) copy faults reply known of h = answered request.durability now request copy faults reply known refl of h

all_told : (now : ℕ) (standing : Standing) (copy : Copy Content ℕ) (faults : ℕ) (frames : List Frame) (replies : List Reply) (known : Knowledge)
    → IsOf only_chain copy → AreTold (Answers now) standing (IsAt copy faults) frames replies known → LeadsTo copy (deeds_from now standing frames replies) known
all_told now standing copy faults [] [] known of h = record { after = copy; faults = faults; is = h; of = of; takes = refl }
all_told now standing copy faults [] (reply ∷ replies) known of h = absurd h
all_told now standing copy faults (f ∷ fs) [] known of h = absurd h
all_told now standing copy faults (f ∷ fs) (reply ∷ replies) known of (mid, first, rest) =
    let made = made_by standing.features f in
    let one = told now made copy faults reply mid of first in
    let more = all_told now (behind standing made) one.after one.faults fs replies known one.of
    (subst (λ (k : Knowledge). AreTold (Answers now) (behind standing made) k fs replies known) one.is rest) in
    record {
      after = more.after;
      faults = more.faults;
      is = more.is;
      of = more.of;
      takes = joined copy one.after more.after (deed_by now made reply) (deeds_from now (behind standing made) fs replies) one.takes more.takes;
    }

-- ---- runs

begins_of : (bytes : List ℕ) (c : Copy Content ℕ) → BeginsOn bytes only_chain 0 0 c → IsOf only_chain c
begins_of bytes c (inl p) = ap (λ (c : Copy Content ℕ). c.chain) p.1
begins_of bytes c (inr (held, d, can, pair, inl p)) = ap (λ (c : Copy Content ℕ). c.chain) p.1
begins_of bytes c (inr (held, d, can, pair, inr p)) = ap (λ (c : Copy Content ℕ). c.chain) p.1

known_of : (ps : List Pending) (c copy : Copy Content ℕ) (faults : ℕ) → known_by ps c ≡ IsAt copy faults → c ≡ copy
known_of [] c copy faults e = cc
known_of (p ∷ ps) c copy faults e = absurd (cc)

begin_of : (states : List Device) (begin : Knowledge) (copy : Copy Content ℕ) (faults : ℕ) → Begins states begin → begin ≡ IsAt copy faults → IsOf only_chain copy
begin_of [] begin copy faults h e = absurd (let z : Unknown ≡ IsAt copy faults = sym h ∙ e in cc)
begin_of (d ∷ past) begin copy faults (c, begins, is) e =
    let same : put_on_disk (begun c) ≡ copy = known_of c.log.prepares (put_on_disk (begun c)) copy faults (sym is ∙ e) in
    subst (λ (x : Copy Content ℕ). IsOf only_chain x) same (begins_of d.bytes c begins)

leads : (told : Option ℕ) (may : ℕ → Bool) (states : List Device) (run : Run) (copy : Copy Content ℕ) → IsRun (IsMoment told may) states run → run.begin ≡ IsAt copy 0 → LeadsTo copy (deeds_of run) run.end
leads told may states run copy is at =
    all_told run.now at_start copy 0 run.frames run.replies run.end (begin_of states run.begin copy 0 is.begins at)
    (subst (λ (k : Knowledge). AreTold (Answers run.now) at_start k run.frames run.replies run.end) at is.served.answered)

pub run_is : (told : Option ℕ) (may : ℕ → Bool) (states : List Device) (run : Run) (copy : Copy Content ℕ) → IsRun (IsMoment told may) states run → run.begin ≡ IsAt copy 0
    → (after : Copy Content ℕ) × (faults : ℕ) × (run.end ≡ IsAt after faults) × TakesAll (flat only_chain) copy (deeds_of run) after
run_is told may states run copy is at =
    let l = leads told may states run copy is at in (l.after, l.faults, l.is, l.takes)

-- the last flush
flush_is : (copy mid : Copy Content ℕ) (faults : ℕ) (deeds : List Deed) (answer : Result ℕ VbFault) (last : Knowledge) → IsOf only_chain mid
    → TakesAll (flat only_chain) copy deeds mid → IsFlushed (IsAt mid faults) answer last
    → (after : Copy Content ℕ) × (faults : ℕ) × (last ≡ IsAt after faults) × TakesAll (flat only_chain) copy (deeds ++ Flushed answer ∷ []) after
flush_is copy mid faults deeds answer last of takes (after, count, is, goes) = (
  after,
  faults + count,
  is,
  joined copy mid after deeds (Flushed answer ∷ []) takes (after, may_flush answer mid after count of goes, refl),
)

pub close_is : (told : Option ℕ) (may : ℕ → Bool) (seen : Seen) (answer : Result ℕ VbFault) (copy : Copy Content ℕ) (closes : Closes (IsMoment told may) seen answer)
    → closes.run.begin ≡ IsAt copy 0
    → (after : Copy Content ℕ) × (faults : ℕ) × (closes.last ≡ IsAt after faults) × TakesAll (flat only_chain) copy (deeds_of closes.run ++ Flushed answer ∷ []) after
close_is told may seen answer copy closes at =
    let l = leads told may seen.disk_before closes.run copy closes.is at in
    flush_is copy l.after l.faults (deeds_of closes.run) answer closes.last l.of l.takes
    (subst (λ (k : Knowledge). IsFlushed k answer closes.last) l.is closes.puts)
