use Rattle.std.specs.Prelude.{◌≡◌, ◌+◌, ◌-◌, ◌++◌, map as list_map}
use Rattle.std.specs.VecDeque.{deque_capacity, deque_len}
use Rattle.std.proofs.Common.{sym, subst, ◌∙◌, ap, arith}
use Rattle.vb_log.specs.Logs.{folds}
use Rattle.copy_model.specs.Copies.{EntrySent}
use Rattle.copy_model.specs.Entries as small
use Rattle.repl_wire.specs.declared.message.Message.TheVariants as messages
use Rattle.copy_memory.specs.contracts.memory.Memory.{the_view}
use Rattle.copy_memory.specs.Remembers.{Remembers}
use Rattle.copy_memory.specs.Sending.{kept_to}
use Rattle.copy_memory.specs.Shown.{other_places}
use Rattle.copy_memory.proofs.Grown.{grows, longer_tracker}
use Rattle.copy_memory.proofs.Saying.{entry_told, told_all, rests, says_more}
use Rattle.copy_memory.proofs.memory.Memory.publish.Goals as goal

pub returns-clause-ok : goal.returns-clause-ok
returns-clause-ok c = λ copy r.
    let m = the_view c.self.inside in
    let e = c.args.entry in
    let h = rw (← c.self.view_is) at r in
    let room = deque_capacity c.reserve.new.self - deque_len c.reserve.new.self in
    let after = record m { unspoken = c.reserve.new.self.items; room = room } in
    let longer = small.grown folds e copy in
    let kept : c.reserve.new.self.items ≡ c.self.inside.unspoken.items = cc (c.reserve.ensures.items) in
    let has = grows after copy e (longer_tracker m.tracker e copy c.requires.kind h.tracker) (rests m copy c.reserve.new.self.items room kept h) in
    let now = subst (λ n. Remembers n longer) (sym (c.self-2.view_is ∙ c.in_ok-add.ensures.ok)) has in
    let position = c.saturating_add-position.result in
    let next : position ≡ m.core.length + 1 = (let small = c.in_ok-add.ensures.room in let same = c.self.invariant.length_is in omega (arith, c.saturating_add-position.ensures)) in
    let entry = messages.Entry m.core.accepted position e in
    let more = list_map (kept_to m.core.place m.number entry) (other_places m.core) in
    let places : c.as_slice.result.now ≡ other_places m.core = cc (c.as_slice.ensures.value, c.self.invariant.others_are) in
    let told = EntrySent copy.accepted (small.log_length folds copy + 1) e in
    says_more (the_view c.self-2.inside) longer more _ (list_map (λ to. small.told_to copy to told) (small.others copy))
    (copy.untold ++ small.seen_by (small.content folds copy) e) _ now
    (c.move_all.ensures.messages ∙ ap (λ l. c.self-2.inside.unspoken.items ++ l) (c.in_ok-told.ensures ∙ ap (λ l. list_map (kept_to m.core.place m.number entry) l) places))
    (told_all m copy entry told h (entry_told m copy position e h next))
