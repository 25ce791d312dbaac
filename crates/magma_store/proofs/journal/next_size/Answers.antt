use Rattle.std.proofs.Common.{◌≡◌, ◌+◌, ℕ, List, take, drop, subst}
use Rattle.magma_store.specs.Gates.{IsSized, IsCut}
use Rattle.magma_store.proofs.Pieces.{file_read}
use Rattle.magma_store.proofs.Fronts.{sized_on, cut_on, cut_unsized, unsized_as}
use Rattle.magma_store.proofs.journal.next_size.Goals as goal

pub returns-in-Ok-clause-size : goal.returns-in-Ok-clause-size
returns-in-Ok-clause-size g c =
    λ file is.
    let head = c.in_ok-head.head.items in
    let read : head ≡ take 9 (drop c.args.at file) = file_read _ file c.args.at 9 head c.in_ok-head.ensures.bytes is in
    sized_on c.in-Ok.size (drop c.args.at file) head read
    (subst (IsSized c.in-Ok.size) c.deref.ensures.value c.in-Ok.ensures)

pub returns-clause-damaged : goal.returns-clause-damaged
returns-clause-damaged g c =
    λ file place found expected is e.
    let head = c.in_ok-head.head.items in
    let read : head ≡ take 9 (drop c.args.at file) = file_read _ file c.args.at 9 head c.in_ok-head.ensures.bytes is in
    let cut : IsCut head c.in-Err.found =
    subst (λ (l : List ℕ). IsCut l c.in-Err.found) c.deref.ensures.value c.in-Err.ensures in
    let at : c.args.at + 1 ≡ place = cc in
    let count : c.in-Err.found ≡ found = cc in
    let size : 8 ≡ expected = cc in
    unsized_as file c.args.at (c.args.at + 1) c.in-Err.found 8 place found expected
    (cut_unsized file c.args.at c.in-Err.found (cut_on (drop c.args.at file) head c.in-Err.found read cut)) at count
    size
