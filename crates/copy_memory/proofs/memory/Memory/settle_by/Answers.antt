use Rattle.std.specs.Prelude.{◌≡◌, ◌+◌, ◌*◌}
use Rattle.std.proofs.Common.{sym, ◌∙◌, ap, arith}
use Rattle.vb_log.specs.Content.{Content}
use Rattle.copy_memory.specs.Settling.{would_commit, committing_first, commit_length}
use Rattle.copy_memory.specs.Shown.{ShownMemory}
use Rattle.copy_memory.specs.contracts.memory.Memory.{the_view}
use Rattle.copy_memory.proofs.Made.{settles_from}
use Rattle.copy_memory.proofs.Steps.{commits_count}
use Rattle.copy_memory.proofs.memory.Memory.settle_by.Goals as goal

pub invariant_of-self-2 : goal.invariant_of-self-2
invariant_of-self-2 c = record { length_is = c.length-self-inside.ensures; others_are = c.self-2.invariant.others_are }

pub stand-requires-clause-made : goal.stand-requires-clause-made
stand-requires-clause-made c =
    let m = c.args.self.now in
    let same : the_view c.self-2.inside ≡ record m { room = c.make_room.new.self.room } =
    c.self-2.view_is ∙ c.make_room.ensures.same ∙ ap (λ (x : ShownMemory). record x { room = c.make_room.new.self.room }) c.ready_count-count.ensures.same in
    let count = c.ready_count-count.ensures.count ∙ ap (λ (x : ShownMemory). would_commit c.args.place c.args.mem c.args.disk x.tracker) (sym same) in
    let made = ap (λ (x : Content). x.length) c.in_ok-commit_within.ensures.ok in
    let longer = commits_count c.ready_count-count.result c.self-2.inside.content c.in_ok-commit_within.ensures.few in
    let long = c.length-self-inside.ensures in
    let kept = c.self-2.invariant.length_is in
    omega arith

pub stand-requires-clause-numbers : goal.stand-requires-clause-numbers
stand-requires-clause-numbers c =
    let m = c.args.self.now in
    let same : the_view c.self-2.inside ≡ record m { room = c.make_room.new.self.room } =
    c.self-2.view_is ∙ c.make_room.ensures.same ∙ ap (λ (x : ShownMemory). record x { room = c.make_room.new.self.room }) c.ready_count-count.ensures.same in
    let count = c.ready_count-count.ensures.count ∙ ap (λ (x : ShownMemory). would_commit c.args.place c.args.mem c.args.disk x.tracker) (sym same) in
    let made = ap (λ (x : Content). x.length) c.in_ok-commit_within.ensures.ok in
    let longer = commits_count c.ready_count-count.result c.self-2.inside.content c.in_ok-commit_within.ensures.few in
    let long = c.length-self-inside.ensures in
    let kept = c.self-2.invariant.length_is in
    let fits = c.length-self-inside.type_inv in
    omega arith

pub returns-clause-ok : goal.returns-clause-ok
returns-clause-ok c =
    let m = c.args.self.now in
    let first : the_view c.self.inside ≡ m = c.self.view_is ∙ c.ready_count-count.ensures.same in
    let same : the_view c.self-2.inside ≡ record m { room = c.make_room.new.self.room } =
    c.self-2.view_is ∙ c.make_room.ensures.same ∙ ap (λ (x : ShownMemory). record x { room = c.make_room.new.self.room }) c.ready_count-count.ensures.same in
    let n = would_commit c.args.place c.args.mem c.args.disk m.tracker in
    let count : c.ready_count-count.result ≡ n = c.ready_count-count.ensures.count in
    let made = ap (λ (x : Content). x.length) c.in_ok-commit_within.ensures.ok in
    let longer = commits_count c.ready_count-count.result c.self-2.inside.content c.in_ok-commit_within.ensures.few in
    let long = c.length-self-inside.ensures in
    let kept = c.self-2.invariant.length_is in
    let numbers = ap (λ (x : ShownMemory). x.core.length) same in
    let is_long : c.length-self-inside.result ≡ m.core.length + n = omega arith in
    settles_from c.args.place c.args.mem c.args.disk m (the_view c.self-2.inside) c.stand.new.self c.make_room.new.self.room c.length-self-inside.result
    c.in_ok-entries.entries c.in_ok-bytes.bytes c.commit_within.new.content same is_long
    (c.in_ok-commit_within.ensures.ok ∙ ap (λ k. committing_first k c.self-2.inside.content) count ∙ ap (λ (x : ShownMemory). committing_first n x.content) same)
    (c.in_ok-entries.ensures ∙ ap (λ (x : ShownMemory). x.unflushed_entries + c.ready_count-count.result) first ∙ ap (λ k. m.unflushed_entries + k) count)
    (c.in_ok-bytes.ensures ∙ ap (λ (x : ShownMemory). x.unflushed_bytes + c.in_ok-commits_length.field-0) first
    ∙ ap (λ k. m.unflushed_bytes + k) (c.in_ok-commits_length.ensures ∙ ap (λ k. k * commit_length) count))
    c.stand.ensures
