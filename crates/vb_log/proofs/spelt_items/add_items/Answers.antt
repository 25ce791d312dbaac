use Rattle.std.specs.Int.{w32, to_be_bytes}
use Rattle.std.proofs.Common.{Bor, ◌≡◌, ◌++◌, [], ◌∷◌, List, take, flat_map, map as list_map, refl, sym, ap, ap₂, ◌∙◌, take_all, arith}
use Rattle.std.proofs.lemmas.List.{length-map}
use Rattle.doc_model.specs.declared.document.Item.{Item}
use Rattle.vb_log.specs.Contents.{item_bytes}
use Rattle.vb_log.proofs.spelt_items.add_items.Goals as goal

lent_bytes : (lent : List (Bor Item)) → flat_map (λ i. item_bytes i.now) lent ≡ flat_map item_bytes (list_map (λ i. i.now) lent)
lent_bytes [] = refl
lent_bytes (i ∷ lent) = ap (λ l. item_bytes i.now ++ l) (lent_bytes lent)

pub returns : goal.returns
returns c =
    let lent = c.args.items.now in
    let all : take c.loop-item.item-index lent ≡ lent = take_all c.loop-item.item-index lent (omega arith) in
    c.loop-item.invariant
    ∙ ap (λ l. c.args.out.now.items ++ l) (ap₂ (λ n l. to_be_bytes w32 n ++ l) (sym (length-map lent (λ i. i.now))) (ap (flat_map (λ i. item_bytes i.now)) all ∙ lent_bytes lent))
