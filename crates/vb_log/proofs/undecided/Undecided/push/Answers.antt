use Rattle.std.specs.Prelude.{nat_lt}
use Rattle.std.specs.List.{list_all}
use Rattle.std.proofs.Common.{◌∙◌, ap, arith}
use Rattle.vb_log.specs.Held.{waiting_size, positions_rise}
use Rattle.vb_log.proofs.Totals.{waiting_push}
use Rattle.vb_log.proofs.Prepared.{rise_push}
use Rattle.vb_log.proofs.undecided.Undecided.push.Goals as goal

pub invariant_of-self-2 : goal.invariant_of-self-2
invariant_of-self-2 c =
    let ps = c.self.inside.changes.items in
    let more = waiting_push ps c.args.change in
    let new = ap waiting_size c.in_ok-push.ensures.items in
    let size = c.self.invariant.0 in (
      omega (arith, c.size_of-added.ensures),
      ap positions_rise c.in_ok-push.ensures.items ∙ rise_push ps c.args.change (ap (list_all (λ p. nat_lt p.position c.args.change.position)) c.self.view_is ∙ c.requires.behind) c.self.invariant.1,
    )
