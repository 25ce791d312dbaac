use Rattle.std.specs.Prelude.{◌≡◌, ◌≤◌, ◌*◌, length, IsTrue}
use Rattle.std.proofs.Common.{sym, ◌∙◌, ap, subst, arith}
use Rattle.vb_log.specs.Content.{Content}
use Rattle.vb_log.specs.Held.{positions_rise}
use Rattle.copy_memory.specs.Settling.{would_commit, committing_first}
use Rattle.copy_memory.specs.Shown.{ShownMemory, other_places}
use Rattle.copy_memory.specs.contracts.memory.Memory.{the_view}
use Rattle.copy_memory.proofs.memory.Memory.plan_flush.Goals as goal

pub returns-clause-ok : goal.returns-clause-ok
returns-clause-ok c =
    let w = the_view c.self-2.inside in
    let n = c.ready_count-count.result in
    let same : w ≡ record c.args.self.now { room = c.make_room.new.self.room } =
    c.self-2.view_is ∙ c.make_room.ensures.same ∙ ap (λ (x : ShownMemory). record x { room = c.make_room.new.self.room }) c.ready_count-count.ensures.same in
    record {
      count =
          c.ready_count-count.ensures.count
          ∙ ap (λ (x : ShownMemory). would_commit x.core.place x.core.length x.core.length c.args.self.now.tracker) c.self.view_is
          ∙ ap (λ (x : ShownMemory). would_commit x.core.place x.core.length x.core.length x.tracker) (sym same);
      bytes = c.in_ok-bytes.ensures;
      content = c.in_ok-commit_within.ensures.ok ∙ ap (committing_first n) c.in_ok-content.ensures;
      room =
          (let a = subst (λ (x : ShownMemory). n * length (other_places x.core) ≤ c.make_room.new.self.room) (c.ready_count-count.ensures.same ∙ sym (ap (λ (x : ShownMemory). record x { room = c.args.self.now.room }) same)) c.in_ok-make_room.ensures.ok in
          let b = ap (λ (x : ShownMemory). x.room) c.self-2.view_is in
          let d = c.reserve.ensures.capacity in
          let e = c.reserve.ensures.len in
          omega arith);
      room_for_one = (let a = c.in_ok-reserve.ensures.ok in omega arith);
      few = subst (λ (x : Content). n ≤ length x.prepares) c.in_ok-content.ensures c.in_ok-commit_within.ensures.few;
      rise = subst (λ (x : Content). IsTrue (positions_rise x.prepares)) c.in_ok-content.ensures c.in_ok-commit_within.ensures.rise;
    }
