use Rattle.std.proofs.Common.{◌≡◌, List, length, ◌<◌, ◌^◌, ap, sym, subst, ◌∙◌}
use Rattle.std.proofs.lemmas.Result.{IfOk-weaker}
use Rattle.xattr_body.specs.Section.{Pair, pairs_bytes, section_of, IsSection}
use Rattle.xattr_body.proofs.writing.write.Goals as goal

pub spelled-requires : goal.spelled-requires
spelled-requires c = subst (λ (l : List Pair). length (pairs_bytes l) < 2 ^ 32) (sym c.pairs.ensures) c.requires.fits

pub returns : goal.returns
returns c =
    IfOk-weaker c.spelled.result (λ bytes. bytes ≡ section_of c.pairs.result.now) (λ bytes. IsSection c.args.xattrs.now bytes)
    (λ bytes e. record { whole = c.requires; spelled = e ∙ ap section_of c.pairs.ensures }) c.spelled.ensures
