use Rattle.std.specs.Prelude.{◌≡◌, ◌⊎◌, ℕ, true, false, Some, refl}
use Rattle.std.proofs.Common.{inl, inr, sym, ◌∙◌, ap, rules}
use Rattle.std.specs.FinMap as map
use Rattle.kv_request.specs.declared.reply.Reply.{Reply}
use Rattle.vb_log.specs.Content.{Content}
use Rattle.copy_model.specs.Copies.{Copy}
use Rattle.copy_model.specs.declared.outcome.Polled.{Polled}
use Rattle.copy_model.specs.declared.outcome.Polled.TheVariants as polls
use Rattle.copy_model.specs.declared.outcome.Ticket.{Ticket}
use Rattle.copy_model.specs.Requests.{polled, forgetting, ambiguous}
use Rattle.copy_memory.specs.contracts.memory.Memory.{the_view}
use Rattle.copy_memory.specs.declared.tickets.KeptFate.{KeptFate}
use Rattle.copy_memory.specs.declared.tickets.KeptFate.TheVariants as kept
use Rattle.copy_memory.specs.Remembers.{Remembers}
use Rattle.copy_memory.specs.Shown.{ShownMemory}
use Rattle.copy_memory.specs.Tickets.{active_term, is_active_at, name_of}
use Rattle.copy_memory.proofs.Polled.{forgets, polled_none, polled_pending, polled_done, answer_to}
use Rattle.copy_memory.proofs.memory.Memory.poll.Goals as goal
use Rattle.copy_memory.proofs.memory.Memory.poll.Goals.{else-eq-via-then-eq+else-is_active_at, else-eq-via-else-eq, in-Stood, in-Waiting}

-- a poll that comes to a pair does what is told of its parts
comes_to : (m : ShownMemory) (result : Polled) (p q : Copy Content ℕ × Polled) → p ≡ q → Remembers m q.0 → result ≡ q.1 → Remembers m p.0 × (result ≡ p.1)
comes_to m result p q is r same = rw is (r, same)

-- a ticket that waited or was aborted
unsure : (ticket : Ticket) (fate : KeptFate) → (fate ≡ kept.Waiting) ⊎ (fate ≡ kept.Aborted) → polls.Done (ambiguous ticket.reply) ≡ answer_to ticket fate
unsure ticket fate (inl e) = ap (answer_to ticket) (sym e)
unsure ticket fate (inr e) = ap (answer_to ticket) (sym e)

pub returns-in_default : goal.returns-in_default
returns-in_default c = λ copy r.
    let m = the_view c.self.inside in
    let h = rw (← c.self.view_is) at r in
    let none = ap (map.get m.tickets) (sym c.name_of-name.ensures) ∙ sym c.fate.ensures ∙ c.in_default.is in
    comes_to c.args.self.now (polls.Done c.ambiguous.result) (polled c.args.ticket copy) (copy, polls.Done (ambiguous c.args.ticket.reply))
    (polled_none m copy c.args.ticket h none) r (ap (λ (x : Reply). polls.Done x) c.ambiguous.ensures)

pub returns-then-is_active_at : goal.returns-then-is_active_at
returns-then-is_active_at c = λ copy r.
    let m = the_view c.self.inside in
    let h = rw (← c.self.view_is) at r in
    let waits : c.in-Some.fate ≡ kept.Waiting = search rules in
    let fate : map.get m.tickets (name_of c.args.ticket) ≡ Some kept.Waiting =
    ap (map.get m.tickets) (sym c.name_of-name.ensures) ∙ sym c.fate.ensures ∙ c.in-Some.is ∙ ap (λ (f : KeptFate). Some f) waits in
    let active : is_active_at (active_term m.core.role m.core.accepted) c.args.ticket.term ≡ true =
    ap (λ (s : ShownMemory). is_active_at (active_term s.core.role s.core.accepted) c.args.ticket.term) c.self.view_is ∙ sym c.is_active_at.ensures ∙ c.if-is_active_at.true in
    comes_to c.args.self.now (polls.Pending c.args.ticket) (polled c.args.ticket copy) (copy, polls.Pending c.args.ticket)
    (polled_pending m copy c.args.ticket h fate active) r refl

pub returns : goal.returns
returns c = λ copy r.
    let m = the_view c.self.inside in
    let h = rw (← c.self.view_is) at r in
    let ticket = c.args.ticket in
    let name = ap (map.get m.tickets) (sym c.name_of-name.ensures) in
    let left : c.in-Some.fate ≡ kept.Waiting → is_active_at (active_term m.core.role m.core.accepted) ticket.term ≡ false = λ waits.
    elim c.else-eq.branch [
      | else-eq-via-then-eq+else-is_active_at w ↦
          ap (λ (s : ShownMemory). is_active_at (active_term s.core.role s.core.accepted) ticket.term) c.self.view_is ∙ sym w.is_active_at.ensures ∙ w.if-is_active_at.false
      | else-eq-via-else-eq w ↦ let told : c.eq.result ≡ true = search rules in absurd (cc (told, w.if-eq.false))
    ] in
    let answer : c.match-fate-2.result ≡ answer_to ticket c.in-Some.fate =
    elim c.match-fate-2.branch [
      | in-Stood w ↦ w.result-is ∙ ap (λ (x : Reply). polls.Done x) w.standing.ensures ∙ ap (answer_to ticket) (sym w.in-Stood.is)
      | in-Waiting w ↦ w.result-is ∙ ap (λ (x : Reply). polls.Done x) w.ambiguous-in-Waiting.ensures ∙ unsure ticket c.in-Some.fate w.in-Waiting.is
    ] in
    comes_to (record m { tickets = c.close.new.self }) c.match-fate-2.result (polled ticket copy) (forgetting ticket copy, answer_to ticket c.in-Some.fate)
    (polled_done m copy ticket c.in-Some.fate h (name ∙ sym c.fate.ensures ∙ c.in-Some.is) left)
    (forgets m copy ticket c.close.new.self (c.close.ensures ∙ ap (map.remove m.tickets) c.name_of-name.ensures) h)
    answer
