use Rattle.std.proofs.Common.{◌+◌, refl, subst, arith}
use Rattle.kv_session.specs.declared.session.Next.TheVariants as nexts
use Rattle.kv_session.specs.Session.{Advances}
use Rattle.kv_tool.proofs.Answering.{asks_on, tells, given_so, waits, breaks, bad_short, counts_gathered}
use Rattle.kv_tool.proofs.Counting.{counts_none}
use Rattle.kv_tool.proofs.connection.Connection.answer_next.Goals as goal

pub ask-reply-requires-clause-request : goal.ask-reply-requires-clause-request
ask-reply-requires-clause-request g c = c.in-Ok.ensures.request c.in-Ok.given.0 c.in-Request.request (given_so c.in-Ok.given (nexts.Request c.in-Request.request) c.in-Request.is)

pub ask-reply-requires-clause-ours : goal.ask-reply-requires-clause-ours
ask-reply-requires-clause-ours g c = c.in-Ok.ensures.passed c.in-Ok.given.0 c.in-Request.request (given_so c.in-Ok.given (nexts.Request c.in-Request.request) c.in-Request.is)

pub gather-requires-in-Refused : goal.gather-requires-in-Refused
gather-requires-in-Refused g c = c.in-Ok.ensures.reply c.in-Ok.given.0 c.in-Refused.reply (given_so c.in-Ok.given (nexts.Refused c.in-Refused.reply) c.in-Refused.is)

pub overflow_add-result : goal.overflow_add-result
overflow_add-result g c =
    let old = c.args.self.now in
    let given = subst (Advances old.session c.args.rest.now c.advance.new.self c.in-Ok.given.0) c.in-Bad.is c.in-Ok.ensures.advances in
    let short = bad_short old.session c.args.rest.now c.advance.new.self c.in-Ok.given.0 c.in-Bad.place old.fed c.in-Bad._fault given c.requires.held in
    omega (arith, short.0, short.1, c.rest.ensures.held)

pub returns-in-Request-clause-turns : goal.returns-in-Request-clause-turns
returns-in-Request-clause-turns g c =
    let old = c.args.self.now in
    let count = c.in-Ok.given.0 in
    asks_on g.D.Disk.states g.D.Disk.counts c.args.now old c.ask-reply.new.self c.gather.new.self c.args.rest.now c.advance.new.self count c.in-Request.request c.ask-reply.result c.gather.result
    (subst (Advances old.session c.args.rest.now c.advance.new.self count) c.in-Request.is c.in-Ok.ensures.advances)
    c.ask-reply.ensures.others
    c.ask-reply.ensures.asks
    c.gather.ensures

pub returns-in-Request-clause-disk_counted : goal.returns-in-Request-clause-disk_counted
returns-in-Request-clause-disk_counted g c =
    counts_gathered g.D.Disk.counts c.args.self.now c.ask-reply.new.self c.gather.new.self c.in-Ok.given.0 c.ask-reply.result c.gather.result c.ask-reply.ensures.disk_counted c.gather.ensures

pub returns-in-Refused-clause-turns : goal.returns-in-Refused-clause-turns
returns-in-Refused-clause-turns g c =
    let old = c.args.self.now in
    let count = c.in-Ok.given.0 in
    tells g.D.Disk.states g.D.Disk.counts c.args.now old (record old { session = c.advance.new.self; fed = old.fed + count }) c.gather-in-Refused.new.self c.args.rest.now count c.in-Refused.reply c.gather-in-Refused.result
    (subst (Advances old.session c.args.rest.now c.advance.new.self count) c.in-Refused.is c.in-Ok.ensures.advances)
    refl refl refl c.gather-in-Refused.ensures

pub returns-in-Refused-clause-disk_counted : goal.returns-in-Refused-clause-disk_counted
returns-in-Refused-clause-disk_counted g c =
    let old = c.args.self.now in
    let count = c.in-Ok.given.0 in
    counts_gathered g.D.Disk.counts old (record old { session = c.advance.new.self; fed = old.fed + count }) c.gather-in-Refused.new.self count c.in-Refused.reply c.gather-in-Refused.result
    (counts_none (g.D.Disk.counts old.vb.store.disk))
    c.gather-in-Refused.ensures

pub returns-in-More-clause-turns : goal.returns-in-More-clause-turns
returns-in-More-clause-turns g c =
    let old = c.args.self.now in
    let given = subst (Advances old.session c.args.rest.now c.advance.new.self c.in-Ok.given.0) c.in-More.is c.in-Ok.ensures.advances in
    waits g.D.Disk.states g.D.Disk.counts c.args.now old c.args.rest.now c.advance.new.self c.in-Ok.given.0 c.in-More._missing given
    (c.in-Ok.ensures.all c.in-Ok.given.0 c.in-More._missing (given_so c.in-Ok.given (nexts.More c.in-More._missing) c.in-More.is))

pub returns-in-Bad-clause-turns : goal.returns-in-Bad-clause-turns
returns-in-Bad-clause-turns g c =
    let old = c.args.self.now in
    let given = subst (Advances old.session c.args.rest.now c.advance.new.self c.in-Ok.given.0) c.in-Bad.is c.in-Ok.ensures.advances in
    breaks g.D.Disk.states g.D.Disk.counts c.args.now old c.args.rest.now c.advance.new.self c.in-Ok.given.0 c.in-Bad.place _ c.in-Bad._fault given c.requires.held (omega (arith, c.rest.ensures.held))
