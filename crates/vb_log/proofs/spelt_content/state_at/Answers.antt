use Rattle.std.proofs.Common.{inl}
use Rattle.vb_log.proofs.StatePlaces.{place_within, breaks_with}
use Rattle.vb_log.proofs.spelt_content.state_at.Goals as goal

pub overflow_sub-result : goal.overflow_sub-result
overflow_sub-result c =
    let none = rw c.in-Err-Bad.field-0-is at c.in-Err-Bad.ensures.none in
    place_within c.args.bytes.now c.in-Err-Bad.place none.0

pub returns-in-Err-Bad-clause-broken : goal.returns-in-Err-Bad-clause-broken
returns-in-Err-Bad-clause-broken c =
    let none = rw c.in-Err-Bad.field-0-is at c.in-Err-Bad.ensures.none in
    λ next. inl (breaks_with c.args.bytes.now c.in-Err-Bad.place none.0)
