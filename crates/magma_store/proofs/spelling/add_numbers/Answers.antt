use Rattle.std.proofs.Common.{◌++◌, ap, ◌∙◌}
use Rattle.magma_store.proofs.Written.{numbers_added}
use Rattle.magma_store.proofs.spelling.add_numbers.Goals as goal

pub returns : goal.returns
returns c =
    numbers_added c.args.numbers c.args.out.now.items c.extend_from_slice.new.self.items c.extend_from_slice-2.new.self.items c.extend_from_slice-3.new.self.items c.extend_from_slice-4.new.self.items c.extend_from_slice-5.new.self.items
    (c.in_ok-extend_from_slice.ensures.items ∙ ap (λ l. c.args.out.now.items ++ l) c.to_be_bytes.ensures)
    (c.in_ok-extend_from_slice-2.ensures.items ∙ ap (λ l. c.extend_from_slice.new.self.items ++ l) c.to_be_bytes-2.ensures)
    (c.in_ok-extend_from_slice-3.ensures.items ∙ ap (λ l. c.extend_from_slice-2.new.self.items ++ l) c.to_be_bytes-3.ensures)
    (c.in_ok-extend_from_slice-4.ensures.items ∙ ap (λ l. c.extend_from_slice-3.new.self.items ++ l) c.to_be_bytes-4.ensures)
    (c.in_ok-extend_from_slice-5.ensures.items ∙ ap (λ l. c.extend_from_slice-4.new.self.items ++ l) c.to_be_bytes-5.ensures)
