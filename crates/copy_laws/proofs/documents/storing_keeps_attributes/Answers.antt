use Rattle.std.specs.Prelude.{Some, None}
use Rattle.copy_laws.proofs.Lasting.{set_keeps}
use Rattle.copy_laws.proofs.documents.storing_keeps_attributes.Goals as goal

pub returns-clause-kept : goal.returns-clause-kept
returns-clause-kept g c = λ y a b set now flags expiry key value done found none sets there t success.
    set_keeps y a b set now flags expiry key value done none sets t success (Some found) there

pub returns-clause-none : goal.returns-clause-none
returns-clause-none g c = λ y a b set now flags expiry key value done none sets there t success.
    set_keeps y a b set now flags expiry key value done none sets t success None there
