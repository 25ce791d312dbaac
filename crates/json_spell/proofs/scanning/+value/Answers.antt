use Rattle.std.proofs.Common.{rules, ◌≡◌, ℕ, ◌-◌, ◌≤◌, List, length, true, false, Ok, Err, sym, ap, subst, ◌∙◌, arith}
use Rattle.std.proofs.lemmas.Result.{err_from_is_err_and}
use Rattle.json_model.specs.declared.kinds.Shape.{Shape}
use Rattle.json_spell.specs.Reading.{value_at, part_end, closed, IsAt, Writes, inner_nodes, children}
use Rattle.json_spell.proofs.Groups.{inner_empty, inner_parts, value_deep, AtGroup, behind, group_short, group_stop, group_adds, empty_value, wrong_value, leaf_value}
use Rattle.json_spell.specs.Nodes.{tree_nodes, kind_of}
use Rattle.json_spell.proofs.Values.{value_took}
use Rattle.json_spell.proofs.Loops.{Shortens, turn, turn_short, goes_step, goes_done, wrong_head, wrong_value as wrong_tree, wrong_end, parts_stop, parts_stop_within, key_room}
use Rattle.json_spell.proofs.scanning.+value.Goals as goal

shortens : (room : ℕ) → Shortens (value_at room)
shortens room bytes x e = (value_took room bytes x e).whole

pub parts-returns-in_err-key : goal.parts-returns-in_err-key
parts-returns-in_err-key t c =
    let p = err_from_is_err_and c.from_residual.result c.from_residual.ensures.1 in
    parts_stop (value_at c.args.room) c.args.shape c.args.end c.args.bytes.now c.args.nodes.now.items c.loop-key.nodes.items c.in_err-key.field-0.0 c.from_residual.result (p.1 ∙ ap Err p.2)
    (c.loop-key.invariant.wrong c.in_err-key.field-0.0 (wrong_head (value_at c.args.room) c.args.shape (c.args.end - length c.loop-key.rest.now) (length c.loop-key.rest.now) c.loop-key.rest.now c.in_err-key.field-0.0 (sym c.in_err-key.ensures)))

pub parts-value-requires : goal.parts-value-requires
parts-value-requires t c = (search rules, key_room c.args.shape c.args.end c.args.bytes.now c.loop-key.rest.now c.in_ok-key.at_value.now c.in_ok-key.key c.requires c.loop-key.count c.loop-key.invariant.counted (sym c.in_ok-key.ensures))

pub parts-returns-in_err-behind : goal.parts-returns-in_err-behind
parts-returns-in_err-behind t c =
    let p = err_from_is_err_and c.from_residual-in_err-behind.result c.from_residual-in_err-behind.ensures.1 in
    parts_stop_within (value_at c.args.room) c.args.shape c.args.end c.args.bytes.now c.args.nodes.now.items c.value.new.nodes.items c.in_ok-key.at_value.now c.in_ok-key.key c.loop-key.nodes.items c.value.new.nodes.items c.in_err-behind.field-0.0 c.from_residual-in_err-behind.result (p.1 ∙ ap Err p.2)
    (λ s e. c.loop-key.invariant.wrong s (wrong_tree (value_at c.args.room) c.args.shape (c.args.end - length c.loop-key.rest.now) (length c.loop-key.rest.now) c.loop-key.rest.now c.in_ok-key.at_value.now c.in_ok-key.key s (sym c.in_ok-key.ensures) e))
    c.in_err-behind.ensures

pub parts-returns-in_err-more : goal.parts-returns-in_err-more
parts-returns-in_err-more t c =
    let p = err_from_is_err_and c.from_residual-in_err-more.result c.from_residual-in_err-more.ensures.1 in
    let read = c.in_ok-behind.ensures in
    parts_stop (value_at c.args.room) c.args.shape c.args.end c.args.bytes.now c.args.nodes.now.items c.value.new.nodes.items c.in_err-more.field-0.0 c.from_residual-in_err-more.result (p.1 ∙ ap Err p.2)
    (c.loop-key.invariant.wrong c.in_err-more.field-0.0
    (wrong_end (value_at c.args.room) c.args.shape (c.args.end - length c.loop-key.rest.now) (length c.loop-key.rest.now) c.loop-key.rest.now c.in_ok-key.at_value.now c.in_ok-behind.behind.now c.in_ok-key.key read.0 c.in_err-more.field-0.0
    (sym c.in_ok-key.ensures) read.1 (ap (part_end c.args.shape) (sym c.skip_blanks.ensures) ∙ sym c.in_err-more.ensures)))

pub parts-returns-then-not-more : goal.parts-returns-then-not-more
parts-returns-then-not-more t c =
    let read = c.in_ok-behind.ensures in
    let end = ap (part_end c.args.shape) (sym c.skip_blanks.ensures) ∙ sym c.in_ok-more.ensures ∙ ap (λ b. Ok (b, c.in_ok-more.next.now)) c.if-not-more.true in
    goes_done (value_at c.args.room) c.args.shape c.args.end c.args.bytes.now c.loop-key.rest.now c.in_ok-more.next.now c.args.nodes.now.items c.loop-key.nodes.items c.value.new.nodes.items c.loop-key.count c.requires c.loop-key.invariant
    (turn (value_at c.args.room) c.args.shape c.args.end c.loop-key.rest.now c.in_ok-key.at_value.now c.in_ok-behind.behind.now c.loop-key.nodes.items c.value.new.nodes.items c.in_ok-key.key read.0 false c.in_ok-more.next.now (sym c.in_ok-key.ensures) read.1 read.2 end)

pub parts-loop-key-smaller : goal.parts-loop-key-smaller
parts-loop-key-smaller t c =
    let read = c.in_ok-behind.ensures in
    let end = ap (part_end c.args.shape) (sym c.skip_blanks.ensures) ∙ sym c.in_ok-more.ensures in
    turn_short (value_at c.args.room) (shortens c.args.room) c.args.shape c.args.end c.loop-key.rest.now c.loop-key.nodes.items c.value.new.nodes.items c.in_ok-more.more c.in_ok-more.next.now
    (turn (value_at c.args.room) c.args.shape c.args.end c.loop-key.rest.now c.in_ok-key.at_value.now c.in_ok-behind.behind.now c.loop-key.nodes.items c.value.new.nodes.items c.in_ok-key.key read.0 c.in_ok-more.more c.in_ok-more.next.now (sym c.in_ok-key.ensures) read.1 read.2 end)

pub parts-loop-key-preserved : goal.parts-loop-key-preserved
parts-loop-key-preserved t c =
    let read = c.in_ok-behind.ensures in
    let end = ap (part_end c.args.shape) (sym c.skip_blanks.ensures) ∙ sym c.in_ok-more.ensures ∙ ap (λ b. Ok (b, c.in_ok-more.next.now)) c.if-not-more.false in
    goes_step (value_at c.args.room) (shortens c.args.room) c.args.shape c.args.end c.args.bytes.now c.loop-key.rest.now c.in_ok-more.next.now c.args.nodes.now.items c.loop-key.nodes.items c.value.new.nodes.items c.loop-key.count c.requires c.loop-key.invariant
    (turn (value_at c.args.room) c.args.shape c.args.end c.loop-key.rest.now c.in_ok-key.at_value.now c.in_ok-behind.behind.now c.loop-key.nodes.items c.value.new.nodes.items c.in_ok-key.key read.0 true c.in_ok-more.next.now (sym c.in_ok-key.ensures) read.1 read.2 end)

pub inner-returns-in-Some : goal.inner-returns-in-Some
inner-returns-in-Some t c = inner_empty (value_at c.args.room) c.args.shape c.args.end c.args.bytes.now c.args.nodes.now.items c.in-Some.rest.now (c.in-Some.ensures ∙ ap (closed c.args.shape) c.skip_blanks.ensures)

pub inner-returns-in-None : goal.inner-returns-in-None
inner-returns-in-None t c = inner_parts (value_at c.args.room) c.args.shape c.args.end c.args.bytes.now c.args.nodes.now.items c.parts.new.nodes.items c.parts.result (c.in-None.ensures ∙ ap (closed c.args.shape) c.skip_blanks.ensures) c.parts.ensures

pub group-returns-then-room-eq0 : goal.group-returns-then-room-eq0
group-returns-then-room-eq0 t c = value_deep c.args.room c.args.shape c.args.bytes.now c.if-room-eq0.true c.requires.at

at_group : (room : ℕ) (shape : Shape) (end : ℕ) (bytes : List ℕ) → (room ≡ 0 → ⊥) → length bytes ≤ end → IsAt (kind_of shape) bytes → AtGroup room shape end bytes
at_group room shape end bytes some within at = record { some = some; at = at; within = within }

pub group-returns-in_err-rest : goal.group-returns-in_err-rest
group-returns-in_err-rest t c =
    let p = err_from_is_err_and c.from_residual-in_err-rest.result c.from_residual-in_err-rest.ensures.1 in
    group_stop c.args.room c.args.shape c.args.end c.args.key c.args.bytes.now c.args.nodes.now.items c.inner.new.nodes.items c.add_node.new.nodes.items
    (λ t'. inner_nodes (c.args.end - length (behind c.args.bytes.now)) (length c.add_node.new.nodes.items) t') (λ t'. children t') c.in_err-rest.field-0.0 c.from_residual-in_err-rest.result
    (at_group c.args.room c.args.shape c.args.end c.args.bytes.now c.if-room-eq0.false c.requires.room c.requires.at) (p.1 ∙ ap Err p.2) c.in_err-rest.ensures

pub group-overflow_sub-node-2 : goal.group-overflow_sub-node-2
group-overflow_sub-node-2 t c =
    let read = c.in_ok-rest.ensures in
    group_short c.args.room c.args.shape c.args.end c.args.bytes.now c.in_ok-rest.rest.now read.0 (at_group c.args.room c.args.shape c.args.end c.args.bytes.now c.if-room-eq0.false c.requires.room c.requires.at) read.1

pub group-returns : goal.group-returns
group-returns t c =
    let read = c.in_ok-rest.ensures in
    group_adds c.args.room c.args.shape c.args.end c.args.key c.args.bytes.now c.in_ok-rest.rest.now c.args.nodes.now.items c.add_node.new.nodes.items c.inner.new.nodes.items _ read.0 c.kind_of.result c.len-index.result c.in_ok-node.field-0 c.in_ok-node-2.field-0
    (at_group c.args.room c.args.shape c.args.end c.args.bytes.now c.if-room-eq0.false c.requires.room c.requires.at) read.1 c.in_ok-add_node.ensures.ok read.2 c.kind_of.ensures (omega (arith, c.len-index.ensures))
    (c.in_ok-node.ensures ∙ read.3) (omega (arith, c.in_ok-node-2.ensures, c.len.ensures))

pub value-returns-in-empty : goal.value-returns-in-empty
value-returns-in-empty t c = empty_value c.args.room c.args.bytes.now c.in-empty.len_below

pub value-returns-in-None : goal.value-returns-in-None
value-returns-in-None t c = wrong_value c.args.room c.args.bytes.now c.in-len1-up.len_at_least c.in-None.ensures

pub value-returns-in-None-shape_of : goal.value-returns-in-None-shape_of
value-returns-in-None-shape_of t c =
    subst (λ r. Writes r (λ t'. tree_nodes (c.args.end - length c.args.bytes.now) (length c.args.nodes.now.items) c.args.key t') c.args.nodes.now.items c.leaf.new.nodes.items c.leaf.result)
    (sym (leaf_value c.args.room c.args.bytes.now c.in-Some.kind c.in-len1-up.len_at_least c.in-Some.ensures c.in-None-shape_of.ensures)) c.leaf.ensures
