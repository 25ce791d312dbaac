use Rattle.std.proofs.Common.{◌≡◌, ◌≤◌, ℕ, List, ◌++◌, length, take, drop, sym, ◌∙◌, ap, arith}
use Rattle.magma_store.proofs.Counts.{counts_on, counts_fewer}
use Rattle.magma_store.proofs.Pieces.{Piece, piece_full, piece_last, piece_len}
use Rattle.magma_store.proofs.journal.read_bytes.Goals as goal

pub returns-then-len-ask-clause-bytes : goal.returns-then-len-ask-clause-bytes
returns-then-len-ask-clause-bytes g c =
    λ d past told.
    let bytes = c.loop-turn.bytes.items in
    let piece = c.in_ok-piece.piece.items in
    let items : c.extend_from_slice.new.self.items ≡ bytes ++ piece =
    c.in_ok-extend_from_slice.ensures.items ∙ ap (λ (l : List ℕ). bytes ++ l) c.deref.ensures.value in
    let have = c.loop-turn.invariant.3 in
    let p : Piece c.args.at c.args.count c.loop-turn.turn bytes piece =
    record {
      within = omega arith;
      have = omega arith;
      ask = c.min-ask.result;
      asked = c.min-ask.ensures;
      short = c.in_ok-piece.ensures.short;
    } in
    items ∙ piece_last c.args.at c.args.count c.loop-turn.turn d.bytes bytes piece p (omega arith)
    (c.loop-turn.invariant.4 d past told)
    (c.in_ok-piece.ensures.bytes d past (c.loop-turn.invariant.0 ∙ told))

pub loop-turn-preserved : goal.loop-turn-preserved
loop-turn-preserved g c =
    let bytes = c.loop-turn.bytes.items in
    let piece = c.in_ok-piece.piece.items in
    let items : c.extend_from_slice.new.self.items ≡ bytes ++ piece =
    c.in_ok-extend_from_slice.ensures.items ∙ ap (λ (l : List ℕ). bytes ++ l) c.deref.ensures.value in
    let have = c.loop-turn.invariant.3 in
    let p : Piece c.args.at c.args.count c.loop-turn.turn bytes piece =
    record {
      within = omega arith;
      have = omega arith;
      ask = c.min-ask.result;
      asked = c.min-ask.ensures;
      short = c.in_ok-piece.ensures.short;
    } in
    let full : p.ask ≤ length piece = omega arith in (
      c.read_piece-in-loop-turn.ensures.states ∙ c.loop-turn.invariant.0,
      counts_fewer _ _ (λ (never : ⊥). absurd never)
          (counts_on _ _ _ c.loop-turn.invariant.1 c.read_piece-in-loop-turn.ensures.counts),
      omega (arith, c.loop-turn.invariant.2, c.read_piece-in-loop-turn.ensures.one),
      ap (λ (l : List ℕ). length l) items ∙ piece_len c.args.at c.args.count c.loop-turn.turn bytes piece p full,
      λ d past told.
          items ∙ piece_full c.args.at c.args.count c.loop-turn.turn d.bytes bytes piece p full
          (c.loop-turn.invariant.4 d past told) (c.in_ok-piece.ensures.bytes d past (c.loop-turn.invariant.0 ∙ told))
          ∙ ap (λ (l : List ℕ). take (length l) (drop c.args.at d.bytes)) (sym items),
    )
