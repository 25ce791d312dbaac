use Rattle.std.proofs.Common.{◌≡◌, ℕ, ◌+◌, List, ◌++◌, take, drop, Some, sym, ap, ◌∙◌}
use Rattle.std.proofs.lemmas.List.{take-append-drop, drop-drop}
use Rattle.kv_edge.proofs.memory.MemSourceSource.read.Goals as goal

-- a part copied to a buffer's front, and what stands after the part
taken_front : (bytes buf : List ℕ) (at n : ℕ) → take n buf ≡ take n (drop at bytes) → drop at bytes ≡ take n buf ++ drop (at + n) bytes
taken_front bytes buf at n e =
    sym (take-append-drop n (drop at bytes)) ∙ ap (λ l. l ++ drop n (drop at bytes)) (sym e) ∙ ap (λ l. take n buf ++ l) (drop-drop n at bytes)

pub returns-clause-bytes : goal.returns-clause-bytes
returns-clause-bytes c =
    let inside = c.self.inside in
    let n = c.min-count.result in
    let buf = c.copy_front.new.buf in
    let front : take n buf ≡ take n (drop inside.taken inside.bytes.items) =
    c.copy_front.ensures.front ∙ ap (λ l. take n (drop inside.taken l)) c.deref-2.ensures.value in
    let left : c.args.self.now.bytes ≡ drop inside.taken inside.bytes.items = cc in
    ap Some (left ∙ taken_front inside.bytes.items buf inside.taken n front)
