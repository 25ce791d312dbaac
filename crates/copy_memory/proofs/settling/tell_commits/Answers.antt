use Rattle.std.specs.Prelude.{◌+◌, ◌++◌, take}
use Rattle.std.proofs.Common.{get_or, sym, ◌∙◌, ap, append_assoc, arith}
use Rattle.vb_log.specs.declared.entry.Entry.TheVariants as entries
use Rattle.copy_memory.specs.Sending.{entry_to_each, commits_to_each}
use Rattle.copy_memory.proofs.Steps.{commits_next}
use Rattle.copy_memory.proofs.settling.tell_commits.Goals as goal

pub loop-prepare-preserved : goal.loop-prepare-preserved
loop-prepare-preserved c =
    let a = c.args in
    let i = c.loop-prepare.prepare-index in
    let inv = c.loop-prepare.invariant in
    record {
      messages =
          c.tell_commit.ensures.messages
          ∙ ap (λ l. l ++ entry_to_each a.from.0 a.from.1 a.from.2 a.others.now (c.loop-prepare.position + 1) (entries.Commit (get_or a.settled.now i 0))) inv.messages
          ∙ ap (λ n. (a.unspoken.now.items ++ commits_to_each a.from.0 a.from.1 a.from.2 a.others.now a.behind (take i a.settled.now))
          ++ entry_to_each a.from.0 a.from.1 a.from.2 a.others.now (n + 1) (entries.Commit (get_or a.settled.now i 0))) inv.position
          ∙ append_assoc a.unspoken.now.items (commits_to_each a.from.0 a.from.1 a.from.2 a.others.now a.behind (take i a.settled.now))
          (entry_to_each a.from.0 a.from.1 a.from.2 a.others.now (a.behind + i + 1) (entries.Commit (get_or a.settled.now i 0)))
          ∙ ap (λ l. a.unspoken.now.items ++ l) (sym (commits_next a.from.0 a.from.1 a.from.2 a.others.now a.behind a.settled.now i c.loop-prepare-test.true));
      position = (let e = inv.position in omega arith);
      len = (let e = inv.len in let f = c.tell_commit.ensures.len in grind (arith));
      room = c.tell_commit.ensures.room ∙ inv.room;
    }
