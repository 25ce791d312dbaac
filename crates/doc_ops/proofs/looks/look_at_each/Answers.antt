use Rattle.std.proofs.Common.{◌∙◌}
use Rattle.doc_ops.proofs.Looking.{serve_each}
use Rattle.doc_ops.proofs.looks.look_at_each.Goals as goal

pub results_of-requires : goal.results_of-requires
results_of-requires c =
    serve_each c.in-Some.doc.now c.in_ok-texts.texts c.on_attributes.result c.on_value.result c.args.specs.now c.in_ok-texts.ensures
    (λ e. c.on_attributes.ensures ∙ e) (λ e. c.on_value.ensures ∙ e)
