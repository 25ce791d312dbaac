use Rattle.std.proofs.Common.{refl, sym, subst}
use Rattle.xattr_body.specs.Faults.{at_length}
use Rattle.xattr_body.specs.Section.{IsSection}
use Rattle.xattr_body.proofs.Going.{empty_is, not_empty, broken_at, broken_behind, only_broken}
use Rattle.xattr_body.proofs.Sections.{empty_section, section_found, one_list}
use Rattle.xattr_body.proofs.reading.read.Goals as goal

-- no bytes

empty_found : (c : goal.After-new) → IsSection c.new.result c.args.bytes.now
empty_found c =
    subst (λ pairs. IsSection pairs c.args.bytes.now) (sym c.new.ensures) (empty_section c.args.bytes.now (empty_is c.args.bytes.now c.if-is_empty.ensures))

pub returns-then-is_empty-clause-found : goal.returns-then-is_empty-clause-found
returns-then-is_empty-clause-found c = empty_found c

pub returns-then-is_empty-clause-only : goal.returns-then-is_empty-clause-only
returns-then-is_empty-clause-only c = λ pairs s. one_list c.new.result pairs c.args.bytes.now (empty_found c) s

-- bytes that don't begin with the length of what follows

pub returns-in-None-clause-only : goal.returns-in-None-clause-only
returns-in-None-clause-only c = λ pairs s. absurd ((broken_at c.args.bytes.now 0 (at_length refl (not_empty c.args.bytes.now c.if-is_empty.ensures) c.in-None.ensures)).1 pairs s)

pub returns-in-None-clause-broken : goal.returns-in-None-clause-broken
returns-in-None-clause-broken c = broken_at c.args.bytes.now 0 (at_length refl (not_empty c.args.bytes.now c.if-is_empty.ensures) c.in-None.ensures)

-- pairs were read

some_found : (c : goal.After-from_pairs) → IsSection c.from_pairs.result c.args.bytes.now
some_found c =
    subst (λ pairs. IsSection pairs c.args.bytes.now) (sym c.from_pairs.ensures)
    (section_found c.in-Ok.pairs.items c.args.bytes.now c.in-Some.behind.now c.in-Some.ensures c.in-Ok.ensures.together c.in-Ok.ensures.spelled)

pub returns-in-Ok-clause-found : goal.returns-in-Ok-clause-found
returns-in-Ok-clause-found c = some_found c

pub returns-in-Ok-clause-only : goal.returns-in-Ok-clause-only
returns-in-Ok-clause-only c = λ pairs s. one_list c.from_pairs.result pairs c.args.bytes.now (some_found c) s

-- pairs break off

pub returns-in-Err-clause-only : goal.returns-in-Err-clause-only
returns-in-Err-clause-only c =
    λ pairs s. only_broken c.args.bytes.now c.in-Err.fault (broken_behind c.args.bytes.now c.in-Some.behind.now c.in-Err.fault c.in-Some.ensures c.in-Err.ensures.broken) pairs s

pub returns-in-Err-clause-broken : goal.returns-in-Err-clause-broken
returns-in-Err-clause-broken c = broken_behind c.args.bytes.now c.in-Some.behind.now c.in-Err.fault c.in-Some.ensures c.in-Err.ensures.broken
