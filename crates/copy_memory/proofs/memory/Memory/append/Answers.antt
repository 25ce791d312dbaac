use Rattle.std.specs.Prelude.{◌≡◌, ◌-◌, refl}
use Rattle.std.specs.VecDeque.{deque_capacity, deque_len}
use Rattle.std.proofs.Common.{sym, subst}
use Rattle.vb_log.specs.Logs.{folds}
use Rattle.copy_model.specs.Entries as small
use Rattle.copy_memory.specs.contracts.memory.Memory.{the_view}
use Rattle.copy_memory.specs.Remembers.{Remembers}
use Rattle.copy_memory.proofs.Grown.{grows, no_tracker}
use Rattle.copy_memory.proofs.Saying.{rests}
use Rattle.copy_memory.proofs.memory.Memory.append.Goals as goal

pub returns-clause-ok : goal.returns-clause-ok
returns-clause-ok c = λ copy r idle on_disk.
    let m = the_view c.self.inside in
    let h = rw (← c.self.view_is) at r in
    let room = deque_capacity c.reserve.new.self - deque_len c.reserve.new.self in
    let after = record m { unspoken = c.reserve.new.self.items; room = room } in
    let longer = small.grown folds c.args.entry copy in
    let kept : c.reserve.new.self.items ≡ c.self.inside.unspoken.items = cc (c.reserve.ensures.items) in
    c.acknowledge_reserved.ensures longer
    (subst (λ n. Remembers n longer) (sym c.in_ok-add.ensures.ok)
    (grows after copy c.args.entry (no_tracker m.tracker copy longer idle refl h.tracker) (rests m copy c.reserve.new.self.items room kept h)))
    on_disk
