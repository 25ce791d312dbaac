use Rattle.std.proofs.Common.{◌≡◌, ◌+◌, ◌≤◌, sym, ap, ◌∙◌, arith}
use Rattle.json_walk.specs.Telling.{parts_from, told, part_of}
use Rattle.json_walk.proofs.Further.{none_of, holds, none_beyond, more_told, lies_of, lies_lower}
use Rattle.json_walk.proofs.walking.part.Goals as goal

pub returns-in-None-clause-found : goal.returns-in-None-clause-found
returns-in-None-clause-found c t s = none_of t c.args.at c.args.number (c.in-None.ensures.found t s)

pub returns-in-None-next-clause-found : goal.returns-in-None-next-clause-found
returns-in-None-next-clause-found c t s =
    let h = holds c.args.text.now c.args.at c.in-Some.shape t s (c.in-Some.ensures.found t s) in
    let less : c.loop-passed._passed ≤ c.args.number = omega arith in
    none_beyond c.loop-passed._passed c.args.number (c.args.at + 1) h.parts less (sym c.in-None-next.is ∙ c.loop-passed.invariant.found h.parts h.there)
    ∙ ap (part_of c.args.number c.args.at) (sym h.tree_is)

pub loop-passed-preserved : goal.loop-passed-preserved
loop-passed-preserved c =
    let i = c.loop-passed.invariant in
    let p = lies_of c.loop-passed.next c.in-Some-next.part _ _ c.in-Some-next.is i.within in
    let v = c.value_end.ensures.within in
    let above : c.args.at + 1 ≤ c.value_end.result + 1 = omega (arith, p.low, p.keyed, p.valued, v) in
    record {
      within = lies_lower c.next_part-next.result _ _ _ above c.next_part-next.ensures.within;
      found = λ ps s. more_told c.args.text.now c.in-Some.shape c.loop-passed._passed (c.args.at + 1) ps c.in-Some-next.part c.value_end.result c.next_part-next.result s (sym c.in-Some-next.is ∙ i.found ps s) c.value_end.ensures.found c.next_part-next.ensures.found;
    }

pub returns-clause-found : goal.returns-clause-found
returns-clause-found c t s =
    let h = holds c.args.text.now c.args.at c.in-Some.shape t s (c.in-Some.ensures.found t s) in
    let done : c.loop-passed._passed ≡ c.args.number = omega arith in
    c.loop-passed.invariant.found h.parts h.there ∙ ap (λ k. told (parts_from k (c.args.at + 1) h.parts)) done ∙ ap (part_of c.args.number c.args.at) (sym h.tree_is)
