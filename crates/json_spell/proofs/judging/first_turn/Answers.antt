use Rattle.std.proofs.Common.{◌∷◌, sym, ap, ◌∙◌}
use Rattle.json_spell.specs.Machine.{before, naming, again}
use Rattle.json_spell.specs.Turns.{shapes_in}
use Rattle.json_spell.proofs.Turned.{first_closed, first_part}
use Rattle.json_spell.proofs.judging.first_turn.Goals as goal

pub returns-in-Some : goal.returns-in-Some
returns-in-Some c = first_closed c.args.shape (shapes_in c.args.outer) c.args.bytes.now c.skip_blanks-at_part.result.now c.in-Some.rest.now c.skip_blanks-at_part.ensures c.in-Some.ensures

pub returns-in-Object : goal.returns-in-Object
returns-in-Object c =
    first_part c.args.shape (shapes_in c.args.outer) c.args.bytes.now c.skip_blanks-at_part.result.now (naming (shapes_in c.args.brackets)) c.member_turn.result c.skip_blanks-at_part.ensures c.in-None.ensures
    (ap (λ s. again s (shapes_in c.args.outer)) c.in-Object.is ∙ sym (ap naming (c.requires ∙ ap (λ s. s ∷ shapes_in c.args.outer) c.in-Object.is))) c.member_turn.ensures

pub returns-in-Array : goal.returns-in-Array
returns-in-Array c =
    first_part c.args.shape (shapes_in c.args.outer) c.args.bytes.now c.skip_blanks-at_part.result.now (before (shapes_in c.args.brackets)) c.value_turn.result c.skip_blanks-at_part.ensures c.in-None.ensures
    (ap (λ s. again s (shapes_in c.args.outer)) c.in-Array.is ∙ sym (ap before (c.requires ∙ ap (λ s. s ∷ shapes_in c.args.outer) c.in-Array.is))) c.value_turn.ensures
