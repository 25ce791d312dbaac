use Rattle.std.proofs.Common.{Ok, Err, ap, ◌∙◌}
use Rattle.std.proofs.lemmas.Result.{err_from_is_err_and}
use Rattle.json_spell.specs.Machine.{naming}
use Rattle.json_spell.specs.Turns.{shapes_in}
use Rattle.json_spell.proofs.Turned.{turns_stop, name_is, colon_is, member_short}
use Rattle.json_spell.proofs.judging.member_turn.Goals as goal

pub returns-in_err-rest : goal.returns-in_err-rest
returns-in_err-rest c =
    let p = err_from_is_err_and c.from_residual.result c.from_residual.ensures.1 in
    turns_stop (naming (shapes_in c.args.brackets)) c.args.bytes.now c.in_err-rest.field-0.0 c.from_residual.result (p.1 ∙ ap Err p.2)
    (name_is (shapes_in c.args.brackets) c.args.bytes.now c.skip_blanks.result.now (Err c.in_err-rest.field-0.0) c.skip_blanks.ensures c.in_err-rest.ensures)

pub returns-in_err-at_value : goal.returns-in_err-at_value
returns-in_err-at_value c =
    let p = err_from_is_err_and c.from_residual-in_err-at_value.result c.from_residual-in_err-at_value.ensures.1 in
    turns_stop (naming (shapes_in c.args.brackets)) c.args.bytes.now c.in_err-at_value.field-0.0 c.from_residual-in_err-at_value.result (p.1 ∙ ap Err p.2)
    (name_is (shapes_in c.args.brackets) c.args.bytes.now c.skip_blanks.result.now (Ok c.in_ok-rest.rest.now) c.skip_blanks.ensures c.in_ok-rest.ensures
    ∙ colon_is (shapes_in c.args.brackets) c.in_ok-rest.rest.now c.skip_blanks-2.result.now (Err c.in_err-at_value.field-0.0) c.skip_blanks-2.ensures c.in_err-at_value.ensures)

pub returns : goal.returns
returns c = (
  name_is (shapes_in c.args.brackets) c.args.bytes.now c.skip_blanks.result.now (Ok c.in_ok-rest.rest.now) c.skip_blanks.ensures c.in_ok-rest.ensures
      ∙ colon_is (shapes_in c.args.brackets) c.in_ok-rest.rest.now c.skip_blanks-2.result.now (Ok c.in_ok-at_value.at_value.now) c.skip_blanks-2.ensures c.in_ok-at_value.ensures,
  member_short c.args.bytes.now c.skip_blanks.result.now c.in_ok-rest.rest.now c.skip_blanks-2.result.now c.in_ok-at_value.at_value.now c.skip_blanks.ensures c.in_ok-rest.ensures c.skip_blanks-2.ensures c.in_ok-at_value.ensures,
)
