use Rattle.std.specs.Prelude.{is_some}
use Rattle.std.specs.List.{list_any}
use Rattle.std.specs.Ordering.{eq_by_cmp}
use Rattle.std.proofs.Common.{◌∙◌, ap, sym}
use Rattle.doc_model.specs.Keys.{key_cmp}
use Rattle.vb_log.specs.Content.{prepare_of}
use Rattle.vb_log.proofs.Prepared.{some_any}
use Rattle.vb_log.proofs.undecided.Undecided.has.Goals as goal

pub returns : goal.returns
returns c =
    c.has_key.ensures ∙ ap (list_any (λ p. eq_by_cmp key_cmp p.key c.args.key.now)) c.as_slice.ensures.value
    ∙ sym (some_any (λ p. eq_by_cmp key_cmp p.key c.args.key.now) c.self.inside.changes.items)
    ∙ ap (λ l. is_some (prepare_of l c.args.key.now)) c.self.view_is
