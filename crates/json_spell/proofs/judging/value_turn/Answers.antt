use Rattle.std.proofs.Common.{Ok, Err, ap, ◌∙◌}
use Rattle.std.proofs.lemmas.Result.{err_from_is_err_and}
use Rattle.json_spell.specs.Machine.{before}
use Rattle.json_spell.specs.Turns.{shapes_in}
use Rattle.json_spell.proofs.Simulation.{skips_before}
use Rattle.json_spell.proofs.Turned.{turns_stop, turns_gap, value_none, value_wrong, value_leaf, value_short}
use Rattle.json_model.specs.declared.TheConstants.{MOST_DEEP}
use Rattle.json_spell.proofs.judging.value_turn.Goals as goal

pub returns-in-empty : goal.returns-in-empty
returns-in-empty c = value_none (shapes_in c.args.brackets) c.args.bytes.now c.skip_blanks-at_value.result.now c.skip_blanks-at_value.ensures c.in-empty.len_below

pub returns-in-None : goal.returns-in-None
returns-in-None c = value_wrong (shapes_in c.args.brackets) c.args.bytes.now c.skip_blanks-at_value.result.now c.skip_blanks-at_value.ensures c.in-len1-up.len_at_least c.in-None.ensures

pub returns-in_err-rest-in-None-shape_of : goal.returns-in_err-rest-in-None-shape_of
returns-in_err-rest-in-None-shape_of c =
    let p = err_from_is_err_and c.from_residual.result c.from_residual.ensures.1 in
    turns_stop (before (shapes_in c.args.brackets)) c.args.bytes.now c.in_err-rest-in-None-shape_of.field-0.0 c.from_residual.result (p.1 ∙ ap Err p.2)
    (value_leaf (shapes_in c.args.brackets) c.args.bytes.now c.skip_blanks-at_value.result.now c.in-Some.kind (Err c.in_err-rest-in-None-shape_of.field-0.0) c.skip_blanks-at_value.ensures c.in-len1-up.len_at_least c.in-Some.ensures c.in-None-shape_of.ensures c.in_err-rest-in-None-shape_of.ensures)

pub returns-in-Some-shape_of : goal.returns-in-Some-shape_of
returns-in-Some-shape_of c = turns_gap (before (shapes_in c.args.brackets)) (skips_before MOST_DEEP (shapes_in c.args.brackets)) c.args.bytes.now c.skip_blanks-at_value.result.now c.skip_blanks-at_value.ensures c.enter.result c.enter.ensures

pub returns-in_ok-rest-in-None-shape_of : goal.returns-in_ok-rest-in-None-shape_of
returns-in_ok-rest-in-None-shape_of c = (
  value_leaf (shapes_in c.args.brackets) c.args.bytes.now c.skip_blanks-at_value.result.now c.in-Some.kind (Ok c.in_ok-rest-in-None-shape_of.rest.now) c.skip_blanks-at_value.ensures c.in-len1-up.len_at_least c.in-Some.ensures c.in-None-shape_of.ensures c.in_ok-rest-in-None-shape_of.ensures,
  value_short c.args.bytes.now c.skip_blanks-at_value.result.now c.in_ok-rest-in-None-shape_of.rest.now c.in-Some.kind c.skip_blanks-at_value.ensures c.in-len1-up.len_at_least c.in-Some.ensures c.in_ok-rest-in-None-shape_of.ensures,
)
