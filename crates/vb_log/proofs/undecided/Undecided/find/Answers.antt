use Rattle.std.specs.Prelude.{nat_eq, position}
use Rattle.std.proofs.Common.{◌∙◌, ap, sym}
use Rattle.vb_log.specs.Content.{prepare_at}
use Rattle.vb_log.proofs.Prepared.{stands_at, found_at, none_stands}
use Rattle.vb_log.proofs.undecided.Undecided.find.Goals as goal

pub returns-in-Some-clause-value : goal.returns-in-Some-clause-value
returns-in-Some-clause-value c =
    let ps = c.self.inside.changes.items in
    sym (found_at (λ p. nat_eq p.position c.args.of) ps c.in-Some.place c.index.result.now
    (stands_at (λ p. nat_eq p.position c.args.of) ps c.in-Some.place (c.in-Some.ensures ∙ ap (position (λ p. nat_eq p.position c.args.of)) c.as_slice.ensures.value)) c.index.ensures)
    ∙ ap (λ l. prepare_at l c.args.of) c.self.view_is

pub returns-in-None-clause-value : goal.returns-in-None-clause-value
returns-in-None-clause-value c =
    sym (none_stands (λ p. nat_eq p.position c.args.of) c.self.inside.changes.items (c.in-None.ensures ∙ ap (position (λ p. nat_eq p.position c.args.of)) c.as_slice.ensures.value))
    ∙ ap (λ l. prepare_at l c.args.of) c.self.view_is
