use Rattle.std.proofs.Common.{◌≡◌, ◌≤◌, ◌+◌, length, take, ◌∙◌, ap, subst, sym, arith}
use Rattle.vb_log.specs.declared.limits.TheConstants.{CONTENT_LIMIT, SUM_LIMIT}
use Rattle.vb_log.specs.Content.{with_entries}
use Rattle.vb_log.specs.Contents.{keys_waiting}
use Rattle.vb_log.specs.Held.{IsHeld}
use Rattle.vb_log.specs.Settling.{commits_of, content_with, CanBeMade, AreMade}
use Rattle.vb_log.specs.Sizes.{size}
use Rattle.vb_log.proofs.Commits.{marks, marks_fit, AreReady, can_be_made, committed, commits_held}
use Rattle.vb_log.proofs.settling.commit_first.Goals as goal
use Rattle.vb_log.proofs.settling.commit_first.Goals.{After-drop-keys-2}

pub set_all-requires : goal.set_all-requires
set_all-requires c =
    let old = c.content.inside in
    let fit = marks_fit old.items old.manifest old.prepares c.args.count c.in_ok-keys.keys.items c.in_ok-marks.marks.items
    (c.in_ok-keys.ensures ∙ ap (λ ps. keys_waiting (take c.args.count ps)) c.as_slice.ensures.value)
    (c.in_ok-marks.ensures ∙ ap (marks old.items old.manifest) c.as_slice-2.ensures.value) in
    let room = c.content.invariant.fits in
    let small = subst (λ d. size d ≤ CONTENT_LIMIT) (sym c.content.view_is) c.requires.within in
    omega arith

pub make_first-requires : goal.make_first-requires
make_first-requires c =
    let old = c.content.inside in
    let ready : AreReady old.items c.set_all.new.items old.manifest old.prepares c.args.count c.in_ok-keys.keys.items c.in_ok-marks.marks.items = record {
      rise = c.as_slice.ensures.rise;
      within = subst (λ d. c.args.count ≤ length d.prepares) (sym c.content.view_is) c.requires.count;
      first = c.in_ok-keys.ensures ∙ ap (λ ps. keys_waiting (take c.args.count ps)) c.as_slice.ensures.value;
      needed = c.in_ok-marks.ensures ∙ ap (marks old.items old.manifest) c.as_slice-2.ensures.value;
      set = c.in_ok-set_all.ensures.ok;
    } in
    subst (λ ks. CanBeMade old.manifest c.set_all.new.items old.prepares ks old.length) (sym c.as_slice-3.ensures.value)
    (can_be_made old.items c.set_all.new.items old.manifest old.prepares c.args.count c.in_ok-keys.keys.items c.in_ok-marks.marks.items old.length ready
    (subst (λ d. size d ≤ CONTENT_LIMIT) (sym c.content.view_is) c.requires.within)
    (subst (λ d. d.length + length d.prepares ≤ SUM_LIMIT) (sym c.content.view_is) c.requires.short))

-- what is left is what the Commits leave
made : (c : After-drop-keys-2)
    → content_with c.make_first.new.items c.make_first.new.self c.content.inside.manifest c.content.inside.greatest_cas (c.content.inside.length + c.args.count)
    ≡ with_entries (content_with c.content.inside.items c.content.inside.prepares c.content.inside.manifest c.content.inside.greatest_cas c.content.inside.length) (commits_of (take c.args.count c.content.inside.prepares))
made c =
    let old = c.content.inside in
    let ready : AreReady old.items c.set_all.new.items old.manifest old.prepares c.args.count c.in_ok-keys.keys.items c.in_ok-marks.marks.items = record {
      rise = c.as_slice.ensures.rise;
      within = subst (λ d. c.args.count ≤ length d.prepares) (sym c.content.view_is) c.requires.count;
      first = c.in_ok-keys.ensures ∙ ap (λ ps. keys_waiting (take c.args.count ps)) c.as_slice.ensures.value;
      needed = c.in_ok-marks.ensures ∙ ap (marks old.items old.manifest) c.as_slice-2.ensures.value;
      set = c.in_ok-set_all.ensures.ok;
    } in
    committed old.items c.set_all.new.items c.make_first.new.items old.manifest old.prepares c.make_first.new.self c.args.count c.in_ok-keys.keys.items c.in_ok-marks.marks.items old.greatest_cas old.length ready
    (subst (λ ks. AreMade (length ks) old.manifest old.length c.set_all.new.items old.prepares c.make_first.new.items c.make_first.new.self) c.as_slice-3.ensures.value c.make_first.ensures)

pub invariant_of-content-2 : goal.invariant_of-content-2
invariant_of-content-2 c =
    let old = c.content.inside in
    subst IsHeld (sym (made c)) (commits_held c.args.count old.items old.prepares old.manifest old.greatest_cas old.length c.content.invariant c.as_slice.ensures.rise)

pub returns-clause-ok : goal.returns-clause-ok
returns-clause-ok c = made c ∙ ap (λ d. with_entries d (commits_of (take c.args.count d.prepares))) c.content.view_is
