use Rattle.kv_session.proofs.tests.offer.Goals as goal

pub sent-requires : goal.sent-requires
sent-requires c = λ reply e. c.in_ok-taken.ensures.reply c.in_ok-taken.taken reply (cc)
