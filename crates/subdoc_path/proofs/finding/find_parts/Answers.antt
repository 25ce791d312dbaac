use Rattle.std.proofs.Common.{refl, ap, subst, ◌∙◌, List, ◌+◌, drop}
use Rattle.json_model.specs.declared.TheConstants.{MOST_DEEP}
use Rattle.json_model.specs.declared.asked.Part.{Part}
use Rattle.json_spell.specs.Nodes.{document_nodes}
use Rattle.json_spell.proofs.Exact.{one_text}
use Rattle.subdoc_path.proofs.Following.{Ongoing, ongoing_none, ongoing_step, ongoing_mismatch, ongoing_missing, ongoing_done, part_first, none_left}
use Rattle.subdoc_path.proofs.finding.find_parts.Goals as goal

pub loop-followed-init : goal.loop-followed-init
loop-followed-init c d is =
    let r = c.requires in
    ongoing_none c.args.text.now c.nodes-nodes.result.now c.args.parts.now d is (c.nodes-nodes.ensures ∙ r.2 ∙ ap document_nodes (one_text MOST_DEEP c.args.text.now r.0 d r.1 is))

pub returns-in-Missing : goal.returns-in-Missing
returns-in-Missing c d is =
    let e = part_first c.args.parts.now c.args.parts.now c.loop-followed.followed c.index-parts-followed.result refl c.loop-followed-test.true c.index-parts-followed.is in
    let o = subst (λ (l : List Part). Ongoing c.args.text.now c.nodes-nodes.result.now c.args.parts.now d.tree c.loop-followed.followed c.loop-followed.at l) e (c.loop-followed.invariant d is) in
    ongoing_missing c.args.text.now c.nodes-nodes.result.now c.args.parts.now d.tree c.loop-followed.followed c.loop-followed.at c.index-parts-followed.result (drop (c.loop-followed.followed + 1) c.args.parts.now) o
    (c.in-Missing.ensures o.stands.at o.stands.key o.tree o.stands.stands o.stands.fits)

pub returns-in-Mismatch : goal.returns-in-Mismatch
returns-in-Mismatch c d is =
    let e = part_first c.args.parts.now c.args.parts.now c.loop-followed.followed c.index-parts-followed.result refl c.loop-followed-test.true c.index-parts-followed.is in
    let o = subst (λ (l : List Part). Ongoing c.args.text.now c.nodes-nodes.result.now c.args.parts.now d.tree c.loop-followed.followed c.loop-followed.at l) e (c.loop-followed.invariant d is) in
    ongoing_mismatch c.args.text.now c.nodes-nodes.result.now c.args.parts.now d.tree c.loop-followed.followed c.loop-followed.at c.index-parts-followed.result (drop (c.loop-followed.followed + 1) c.args.parts.now) o
    (c.in-Mismatch.ensures o.stands.at o.stands.key o.tree o.stands.stands o.stands.fits)

pub loop-followed-preserved : goal.loop-followed-preserved
loop-followed-preserved c d is =
    let e = part_first c.args.parts.now c.args.parts.now c.loop-followed.followed c.index-parts-followed.result refl c.loop-followed-test.true c.index-parts-followed.is in
    let o = subst (λ (l : List Part). Ongoing c.args.text.now c.nodes-nodes.result.now c.args.parts.now d.tree c.loop-followed.followed c.loop-followed.at l) e (c.loop-followed.invariant d is) in
    ongoing_step c.args.text.now c.nodes-nodes.result.now c.args.parts.now d.tree c.loop-followed.followed c.loop-followed.at c.index-parts-followed.result (drop (c.loop-followed.followed + 1) c.args.parts.now) c.in-To.next o
    (c.in-To.ensures o.stands.at o.stands.key o.tree o.stands.stands o.stands.fits)

pub returns : goal.returns
returns c d is =
    ongoing_done c.args.text.now c.nodes-nodes.result.now c.args.parts.now d.tree c.loop-followed.followed c.loop-followed.at (drop c.loop-followed.followed c.args.parts.now) (c.loop-followed.invariant d is)
    (none_left c.args.parts.now c.args.parts.now c.loop-followed.followed refl c.loop-followed-test.false)
