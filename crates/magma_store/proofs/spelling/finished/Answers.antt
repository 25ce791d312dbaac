use Rattle.std.specs.Int.{w64, to_be_bytes}
use Rattle.std.proofs.Common.{◌≡◌, ◌≤◌, ◌++◌, ◌∷◌, [], ◌-◌, length, drop, refl, ap, ap₂, ◌∙◌, arith}
use Rattle.std.proofs.lemmas.List.{length-append}
use Rattle.magma_store.specs.declared.journal.TheConstants.{SHUT}
use Rattle.magma_store.proofs.Written.{piece_whole, front_set}
use Rattle.magma_store.proofs.spelling.finished.Goals as goal

pub returns : goal.returns
returns c =
    let long = c.requires in
    let size = to_be_bytes w64 (c.len.result - 8) in
    let whole : c.set_front.new.bytes ≡ size ++ drop 8 c.push.new.self.items = c.set_front.ensures ∙ ap₂ (λ a b. a ++ drop (length a) b) c.to_be_bytes.ensures c.as_mut_slice.ensures.value in
    let longer : 8 ≤ length c.push.new.self.items = omega (arith, ap length c.in_ok-push.ensures.items, length-append c.args.piece.items (SHUT ∷ [])) in
    piece_whole c.args.piece.items _ (c.len.result - 8) c.requires (omega arith)
    (front_set c.push.new.self.len c.set_front.new.bytes c.push.new.self.items size whole refl longer (omega arith) ∙ ap (λ l. size ++ drop 8 l) c.in_ok-push.ensures.items)
