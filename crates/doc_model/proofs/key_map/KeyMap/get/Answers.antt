use Rattle.doc_model.proofs.Slots.{from_slot, from_others, told_same, is_its, is_free, is_others}
use Rattle.doc_model.proofs.key_map.KeyMap.get.Goals as goal
use Rattle.doc_model.proofs.key_map.KeyMap.get.Goals.{in-Some+else-eq, in_default}

pub returns-then-eq : goal.returns-then-eq
returns-then-eq g c =
    let es = c.self.inside.slots.entries in
    let key = c.args.key.now in
    from_slot es c.self.inside.others.entries c.args.self.now key c.in-Some.entry.now.1 c.self.view_is c.self.invariant.placed
    (is_its es c.slot_of.result key c.in-Some.entry.now c.slot_of.ensures c.in-Some.ensures.value (told_same c.in-Some.entry.now.0 key c.eq.result c.eq.ensures c.if-eq.true))

pub returns : goal.returns
returns g c =
    let es = c.self.inside.slots.entries in
    let key = c.args.key.now in
    from_others es c.self.inside.others.entries c.args.self.now key _ c.self.view_is c.self.invariant.placed
    (elim c.match-get.branch [
      | in-Some+else-eq w ↦ is_others es c.slot_of.result key w.in-Some.entry.now w.eq.result c.slot_of.ensures w.in-Some.ensures.value w.eq.ensures w.if-eq.false
      | in_default w ↦ is_free es c.slot_of.result key c.slot_of.ensures w.in_default.ensures.value
    ])
    c.get-2.ensures.value
