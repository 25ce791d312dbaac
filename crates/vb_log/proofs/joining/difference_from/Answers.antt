use Rattle.std.proofs.Common.{◌≡◌, ◌≤◌, sym, ap, ◌∙◌, subst}
use Rattle.std.specs.FinMap as map
use Rattle.vb_log.specs.Joining.{part_size}
use Rattle.vb_log.specs.Parts.{Difference, difference}
use Rattle.vb_log.specs.Sizes.{size}
use Rattle.vb_log.specs.Wholes.{by_keys}
use Rattle.vb_log.proofs.Behind.{part_held, part_is, part_small}
use Rattle.vb_log.proofs.joining.difference_from.Goals as goal

-- what was made is the difference
value : (c : goal.In_ok-copy-2) → record { from = c.args.from; end = c.content.inside.length; items = map.from_entries (by_keys c.in_ok-items.items.items); prepares = c.in_ok-copy.field-0; manifest = c.in_ok-copy-2.field-0; greatest_cas = c.content.inside.greatest_cas }
    ≡ difference c.args.content.now c.args.from
value c =
    let old = c.content.inside in
    part_is (record { items = old.items; prepares = old.prepares; manifest = old.manifest; greatest_cas = old.greatest_cas; length = old.length }) c.args.from c.in_ok-items.items.items c.in_ok-copy.field-0 c.in_ok-copy-2.field-0
    (c.in_ok-items.ensures old.items c.values.ensures.values c.values.ensures.stand) c.in_ok-copy.ensures c.in_ok-copy-2.ensures
    ∙ ap (λ k. difference k c.args.from) c.content.view_is

pub invariant_of-result : goal.invariant_of-result
invariant_of-result c =
    let old = c.content.inside in
    part_held (record { items = old.items; prepares = old.prepares; manifest = old.manifest; greatest_cas = old.greatest_cas; length = old.length }) c.args.from c.in_ok-items.items.items c.in_ok-copy.field-0 c.in_ok-copy-2.field-0 c.content.invariant
    (c.in_ok-items.ensures old.items c.values.ensures.values c.values.ensures.stand) c.in_ok-copy.ensures c.in_ok-copy-2.ensures

pub returns-clause-value : goal.returns-clause-value
returns-clause-value c = value c

pub returns-clause-small : goal.returns-clause-small
returns-clause-small c = subst (λ (p : Difference). part_size p ≤ size c.args.content.now) (sym (value c)) (part_small c.args.content.now c.args.from)
