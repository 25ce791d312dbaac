use Rattle.std.proofs.lemmas.Result.{IfOk-weaker}
use Rattle.kv_frame.specs.Viewing.{frame_seen}
use Rattle.kv_session.specs.Answers.{made_of}
use Rattle.kv_session.specs.Making.{Makes, Spells}
use Rattle.kv_session.proofs.Telling.{made_spells}
use Rattle.kv_session.proofs.answers.read_frame.Goals as goal

pub returns-in-Ok-clause-spells : goal.returns-in-Ok-clause-spells
returns-in-Ok-clause-spells c =
    let features = c.args.features.now in
    let made = c.in-Ok.request in
    IfOk-weaker c.pass_or_tell.result (Makes (made_of features made made.body)) Spells (λ m h. made_spells features (frame_seen c.args.view.now) made m c.requires c.in-Ok.ensures h) c.pass_or_tell.ensures
