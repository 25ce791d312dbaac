use Rattle.std.proofs.Common.{◌≡◌, drop}
use Rattle.kv_session.specs.Answers.{granted}
use Rattle.kv_session.proofs.Granting.{with_left}
use Rattle.kv_session.proofs.answers.grant.Given as goal

-- the codes so far, with those of what is left, are all that are granted
abbrev pub invariant-loop-code : goal.invariant-loop-code
invariant-loop-code l = granted l.wanted ≡ with_left l.codes.items (drop l.code-index l.wanted)
