use Rattle.std.proofs.Common.{List, ℕ, Err, sym, ap, subst, ◌∙◌, w64}
use Rattle.std.specs.List.{list_all}
use Rattle.std.specs.Str.Parse.{ParsesSigned}
use Rattle.json_model.specs.Edit.{is_digit}
use Rattle.subdoc_edit.proofs.Wholes.{large, digits_text}
use Rattle.subdoc_edit.proofs.numbers.whole_of.Goals as goal

pub returns-in-Err : goal.returns-in-Err
returns-in-Err c =
    let d = ap (list_all is_digit) (sym c.magnitude.ensures) ∙ sym c.are_digits.ensures ∙ c.if-not-are_digits.false in
    absurd (c.in-Err.ensures.cases.0 (digits_text c.args.bytes.now d))

pub returns-in-Err-parse : goal.returns-in-Err-parse
returns-in-Err-parse c =
    let d = ap (list_all is_digit) (sym c.magnitude.ensures) ∙ sym c.are_digits.ensures ∙ c.if-not-are_digits.false in
    large (Unit {0}) c.args.bytes.now tt (subst (λ (l : List ℕ). ParsesSigned {E = Unit {0}} w64 10 l (Err tt)) c.in-Ok.ensures.cases.0 c.in-Err-parse.ensures.value.0) c.requires d
