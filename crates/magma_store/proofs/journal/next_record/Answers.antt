use Rattle.std.proofs.Common.{◌≡◌, ◌≤◌, ◌+◌, ℕ, length, take, drop, Option, Some, sym, ◌∙◌, ap, subst, arith}
use Rattle.magma_store.specs.Journal.{IsFile}
use Rattle.magma_store.specs.Gates.{IsSized}
use Rattle.magma_store.proofs.Pieces.{file_read}
use Rattle.magma_store.proofs.Fronts.{long_unsized, whole_next, unsized_as}
use Rattle.magma_store.proofs.journal.next_record.Goals as goal

pub returns-then-found-most-clause-damaged : goal.returns-then-found-most-clause-damaged
returns-then-found-most-clause-damaged g c =
    λ file place found expected is e.
    let held = c.in_ok-held.held.items in
    let most = c.min-most.result in
    let sized : IsSized (Some c.in-Some.size) (drop c.args.at file) =
    subst (λ (o : Option ℕ). IsSized o (drop c.args.at file)) c.in-Some.is (c.in_ok-next_size.ensures.size file is) in
    let read : held ≡ take most (drop (c.args.at + 9) file) =
    file_read _ file (c.args.at + 9) most held c.in_ok-held.ensures.bytes
    (subst (IsFile file) (sym c.next_size.ensures.states) is) in
    let len : c.len-found.result ≡ length held = omega arith in
    let at : c.args.at + 1 ≡ place = cc in
    let size : c.in-Some.size ≡ found = cc in
    let left : c.len-found.result ≡ expected = cc in
    unsized_as file c.args.at (c.args.at + 1) c.in-Some.size (length held) place found expected
    (long_unsized file c.args.at c.in-Some.size sized most held (omega arith) read (omega arith)) at size
    (sym len ∙ left)

pub returns-clause-next : goal.returns-clause-next
returns-clause-next g c =
    λ file is.
    let held = c.in_ok-held.held.items in
    let most = c.min-most.result in
    let sized : IsSized (Some c.in-Some.size) (drop c.args.at file) =
    subst (λ (o : Option ℕ). IsSized o (drop c.args.at file)) c.in-Some.is (c.in_ok-next_size.ensures.size file is) in
    let read : held ≡ take most (drop (c.args.at + 9) file) =
    file_read _ file (c.args.at + 9) most held c.in_ok-held.ensures.bytes
    (subst (IsFile file) (sym c.next_size.ensures.states) is) in
    let len : c.len-found.result ≡ length held = omega arith in
    let short : length held ≤ most = c.in_ok-held.ensures.short in
    let all : most ≡ c.in-Some.size = omega arith in
    whole_next file c.args.at c.in-Some.size sized held (read ∙ ap (λ n. take n (drop (c.args.at + 9) file)) all)
    (omega arith)
