use Rattle.std.proofs.Common.{◌≡◌, ◌%◌, ◌∙◌}
use Rattle.std.proofs.lemmas.Nat.{and_mask}
use Rattle.leb_collections.proofs.Values.{weight}
use Rattle.leb_collections.proofs.weighed.Goals as goal

pub returns : goal.returns
returns c =
    let low : c.from.result ≡ c.args.byte % 128 = c.from.ensures ∙ and_mask c.args.byte 7 in
    rw low (weight c.args.place c.args.byte c.requires.place c.requires.fits)
