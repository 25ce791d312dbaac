use Rattle.std.proofs.Common.{inl}
use Rattle.vb_core.proofs.opening.on_store.Goals as goal

pub returns-in-Ok-clause-opens : goal.returns-in-Ok-clause-opens
returns-in-Ok-clause-opens g c = λ held is.
    let log = c.in-Ok.log in
    let b = c.in-Ok.ensures.begins held is in
    inl (record {
      content = b.content;
      is_anew = log.is_anew;
      from = b.from;
      whole = b.rest_of.whole;
      puts = λ copy begins. c.with_term.ensures.puts b.content copy b.rest_of begins;
    })
