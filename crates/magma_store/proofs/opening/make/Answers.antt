use Rattle.std.proofs.Common.{◌≡◌, ◌+◌, ◌<◌, ◌^◌, [], length, refl, sym, ◌∙◌, ap, subst, arith}
use Rattle.durability_core.specs.declared.chain.Chain.{Chain}
use Rattle.magma_store.specs.Changes.{made_bytes}
use Rattle.magma_store.specs.Held.{first_held}
use Rattle.magma_store.specs.Journal.{piece_bytes}
use Rattle.magma_store.specs.Spots.{AllLead}
use Rattle.magma_store.proofs.Takings.{none_lead}
use Rattle.magma_store.proofs.Storings.{piece_len}
use Rattle.magma_store.proofs.Openings.{made_small, made_stopped, made_done}
use Rattle.magma_store.proofs.opening.make.Goals as goal

pub add-requires-clause-room : goal.add-requires-clause-room
add-requires-clause-room g c =
    let made = made_bytes c.args.chain.now c.args.place in
    let piece : c.as_slice.result.now ≡ piece_bytes made = c.as_slice.ensures.value ∙ c.in_ok-piece.ensures in
    let len : length c.as_slice.result.now ≡ 9 + length made = ap length piece ∙ piece_len made in
    let small = made_small c.args.chain.now c.args.place c.requires.chain in
    omega (arith, len, small)

pub returns-in-Done-clause-finishes : goal.returns-in-Done-clause-finishes
returns-in-Done-clause-finishes g c = λ file is unused.
    let chain = c.args.chain.now in
    let place = c.args.place in
    let made = made_bytes chain place in
    let small = made_small chain place c.requires.chain in
    let few : length made < 2 ^ 64 = omega arith in
    let piece : c.as_slice.result.now ≡ piece_bytes made = c.as_slice.ensures.value ∙ c.in_ok-piece.ensures in
    let filled : c.len.result ≡ 9 + length made = omega (arith, ap length c.in_ok-piece.ensures, piece_len made) in
    made_done chain place c.requires.chain c.requires.place file _ _ _ unused
    (c.add.ensures.any_moment file [] made is unused refl few piece)
    (c.in-Done.ensures.added file [] made is unused refl few piece refl)
    (c.first_meta.ensures ∙ ap (λ (ch : Chain). (first_held ch place).meta) c.in_ok-copy.ensures)
    c.new.ensures filled

pub returns-in-Done-clause-sound : goal.returns-in-Done-clause-sound
returns-in-Done-clause-sound g c =
    let made = made_bytes c.args.chain.now c.args.place in
    let small = made_small c.args.chain.now c.args.place c.requires.chain in
    let filled : c.len.result ≡ 9 + length made = omega (arith, ap length c.in_ok-piece.ensures, piece_len made) in
    (omega arith, subst AllLead (sym c.new.ensures) none_lead)

pub returns-clause-finishes : goal.returns-clause-finishes
returns-clause-finishes g c = λ file is unused.
    let chain = c.args.chain.now in
    let place = c.args.place in
    let made = made_bytes chain place in
    let small = made_small chain place c.requires.chain in
    let few : length made < 2 ^ 64 = omega arith in
    made_stopped chain place c.requires.chain c.requires.place file _ _ unused (c.add.ensures.any_moment file [] made is unused refl few (c.as_slice.ensures.value ∙ c.in_ok-piece.ensures))
