use Rattle.std.proofs.Common.{◌≡◌, ◌+◌, length, refl, ◌∙◌, ap, subst, arith}
use Rattle.magma_store.specs.declared.meta.Numbers.{Numbers}
use Rattle.magma_store.specs.Changes.{Sets, AreWords, IsChange, change_bytes}
use Rattle.magma_store.specs.Held.{numbers_of}
use Rattle.magma_store.specs.Journal.{piece_bytes}
use Rattle.magma_store.proofs.Storings.{piece_len}
use Rattle.magma_store.proofs.Openings.{raised_meta, others, refused_on, raise_stopped, raise_done}
use Rattle.magma_store.proofs.opening.raise.Goals as goal

pub returns-in_err-may_open-clause-finishes : goal.returns-in_err-may_open-clause-finishes
returns-in_err-may_open-clause-finishes g c = λ file is f.
    let why = c.in_err-may_open.field-0.0 in
    refused_on file c.args.chain.now c.args.place _ _ c.from_residual.result why c.from_residual.ensures.1 refl (others file c.args.chain.now c.args.place c.args.found why f c.in_err-may_open.ensures.others)

pub returns-in-Done-clause-finishes : goal.returns-in-Done-clause-finishes
returns-in-Done-clause-finishes g c = λ file is f.
    let n = numbers_of (raised_meta c.args.found.meta) in
    let told = change_bytes (Sets n) in
    let words : AreWords n = subst AreWords c.numbers_of.ensures.is c.numbers_of.ensures.words in
    let allowed : IsChange (Sets n) = (record { promised = c.requires.numbers.promised; term = c.requires.numbers.term }, words) in
    let spelled : c.in_ok-piece.piece.items ≡ piece_bytes told = c.in_ok-piece.ensures ∙ ap (λ (x : Numbers). piece_bytes (change_bytes (Sets x))) c.numbers_of.ensures.is in
    let piece : c.as_slice.result.now ≡ piece_bytes told = c.as_slice.ensures.value ∙ spelled in
    let filled : c.args.found.filled + c.len.result ≡ c.args.found.filled + 50 = omega (arith, ap length spelled, piece_len told) in
    raise_done file c.args.chain.now c.args.place c.args.found f c.in_ok-may_open.ensures.may allowed _ _ _
    (c.add.ensures.any_moment file f.records told is f.journal f.filled (omega arith) piece)
    (c.in-Done.ensures.added file f.records told is f.journal f.filled (omega arith) piece refl)
    refl refl filled

pub returns-clause-finishes : goal.returns-clause-finishes
returns-clause-finishes g c = λ file is f.
    let n = numbers_of (raised_meta c.args.found.meta) in
    let told = change_bytes (Sets n) in
    let words : AreWords n = subst AreWords c.numbers_of.ensures.is c.numbers_of.ensures.words in
    let allowed : IsChange (Sets n) = (record { promised = c.requires.numbers.promised; term = c.requires.numbers.term }, words) in
    let spelled : c.in_ok-piece.piece.items ≡ piece_bytes told = c.in_ok-piece.ensures ∙ ap (λ (x : Numbers). piece_bytes (change_bytes (Sets x))) c.numbers_of.ensures.is in
    raise_stopped file c.args.chain.now c.args.place c.args.found f c.in_ok-may_open.ensures.may allowed _ _
    (c.add.ensures.any_moment file f.records told is f.journal f.filled (omega arith) (c.as_slice.ensures.value ∙ spelled))
