use Rattle.std.specs.Prelude.{is_some, nat_eq, length}
use Rattle.std.specs.FinMap as map
use Rattle.std.proofs.Common.{◌∙◌, ap, sym, arith}
use Rattle.vb_log.specs.Content.{prepare_at}
use Rattle.vb_log.specs.Held.{items_size, pending_size}
use Rattle.vb_log.specs.Adding.{with_room, items_given}
use Rattle.vb_log.proofs.Prepared.{all_left, found_size}
use Rattle.vb_log.proofs.Holding.{room_there, room_size, made_in_room}
use Rattle.vb_log.proofs.adding.make.Goals as goal

pub returns-in-None-clause-prepares : goal.returns-in-None-clause-prepares
returns-in-None-clause-prepares c = sym (all_left c.args.of c.args.prepares.now (sym c.in-None.ensures.value))

pub show-requires-clause-has : goal.show-requires-clause-has
show-requires-clause-has c = ap (λ m. is_some (map.get m c.in_ok-key-in-Some.key)) c.in_ok-make_room.ensures.ok ∙ room_there c.args.items.now c.in_ok-key-in-Some.key

pub show-requires-clause-room : goal.show-requires-clause-room
show-requires-clause-room c =
    let key = c.in_ok-key-in-Some.key in
    let room = room_size c.args.items.now key in
    let made = ap items_size c.in_ok-make_room.ensures.ok in
    let part = found_size (λ p. nat_eq p.position c.args.of) c.args.prepares.now in
    let is = ap pending_size c.take-2.ensures.before in
    let change = ap pending_size c.in-Some.ensures.value in
    let own = ap (λ k. length k.key) c.in_ok-key-in-Some.ensures in
    let all = c.requires in
    omega arith

pub returns-clause-items : goal.returns-clause-items
returns-clause-items c =
    made_in_room c.args.items.now c.show.new.items c.args.manifest.now c.args.position c.in_ok-key-in-Some.key c.in-Some.change.now (prepare_at c.args.prepares.now c.args.of)
    c.in-Some.ensures.value c.in_ok-key-in-Some.ensures (sym c.has.ensures ∙ c.if-not-has.false)
    (c.show.ensures ∙ ap (λ m. items_given m c.args.position c.take-2.result) c.in_ok-make_room.ensures.ok ∙ ap (items_given (with_room c.args.items.now c.in_ok-key-in-Some.key) c.args.position) c.take-2.ensures.before)
