use Rattle.subdoc_edit.proofs.reading.check_text.Goals as goal

pub returns : goal.returns
returns c = c.check_judged.ensures c.args.text.now c.judge.ensures
