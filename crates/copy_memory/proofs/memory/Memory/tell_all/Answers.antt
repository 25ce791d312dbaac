use Rattle.std.specs.Prelude.{◌≡◌, map as list_map, ◌++◌}
use Rattle.std.proofs.Common.{◌∙◌, ap₂}
use Rattle.vb_log.specs.Logs.{folds}
use Rattle.copy_model.specs.Entries.{ack, others, told_to}
use Rattle.repl_wire.specs.declared.message.Message.TheVariants as messages
use Rattle.copy_memory.specs.contracts.memory.Memory.{the_view}
use Rattle.copy_memory.specs.Sending.{kept_to}
use Rattle.copy_memory.specs.Shown.{other_places}
use Rattle.copy_memory.proofs.Saying.{acked, told_all, says_more}
use Rattle.copy_memory.proofs.memory.Memory.tell_all.Goals as goal

pub returns-clause-ok : goal.returns-clause-ok
returns-clause-ok c = λ copy r on_disk.
    let m = the_view c.self.inside in
    let told = messages.Ack m.core.accepted m.core.length c.args.on_disk in
    let more = list_map (kept_to m.core.place m.number told) (other_places m.core) in
    let said = list_map (λ to. told_to copy to (ack folds copy)) (others copy) in
    let h = rw (← c.self.view_is) at r in
    let kept : c.reserve.new.self.items ≡ c.self.inside.unspoken.items = cc (c.reserve.ensures.items) in
    let places : c.as_slice.result.now ≡ other_places m.core = cc (c.as_slice.ensures.value, c.self.invariant.others_are) in
    says_more m copy more _ said copy.untold _ h
    (c.tell_each.ensures.messages ∙ ap₂ (λ a b. a ++ list_map (kept_to m.core.place m.number told) b) kept places)
    (told_all m copy told (ack folds copy) h (acked m copy c.args.on_disk h on_disk))
