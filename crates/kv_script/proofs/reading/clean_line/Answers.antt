use Rattle.std.proofs.lemmas.Result.{err_from_is_err_and}
use Rattle.kv_script.specs.Reading.{texts}
use Rattle.kv_script.proofs.Tuples.{clean_bad}
use Rattle.kv_script.proofs.reading.clean_line.Goals as goal

pub returns-in_err-copy : goal.returns-in_err-copy
returns-in_err-copy c =
    let p = err_from_is_err_and c.from_residual.result c.from_residual.ensures.1 in
    rw (p.1, p.2) (clean_bad (texts c.args.parts.now) _ c.in_err-copy.ensures)
