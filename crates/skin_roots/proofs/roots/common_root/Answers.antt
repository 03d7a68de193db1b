use mathlib.Core.Path.{sym, ◌∙◌}
use native.Mathlib.Omega.{arith}
use lib.Dec.{ltb}
use lib.ListN.{length}
use Rattle.skin_roots.proofs.Leads.{none-common, not-nodes, leading-start, joint-inside, rest-inside, rest-leads, common-is}
use Rattle.skin_roots.proofs.roots.common_root.Goals as goal

pub returns-then-joints-eq0 : goal.returns-then-joints-eq0
returns-then-joints-eq0 c = let a = c.args in none-common a.codes.now a.joints.now c.if-joints-eq0.true

pub returns-then-not-all_nodes : goal.returns-then-not-all_nodes
returns-then-not-all_nodes c =
    let a = c.args in
    let n = c.all_nodes in
    not-nodes a.codes.now a.joints.now (sym n.ensures ∙ c.if-not-all_nodes.true)

pub count_lines-requires : goal.count_lines-requires
count_lines-requires c =
    let n = c.all_nodes in
    let e = sym n.ensures ∙ c.if-not-all_nodes.false in
    (c.requires.0, leading-start c.args.codes.now _ 1024 (rest-inside (λ j. ltb j (length c.args.codes.now)) c.args.joints.now e))

pub first_counted-requires : goal.first_counted-requires
first_counted-requires c =
    let n = c.all_nodes in
    let e = sym n.ensures ∙ c.if-not-all_nodes.false in
    let j = joint-inside (length c.args.codes.now) c.args.joints.now 0 e (omega (arith, c.if-joints-eq0.false)) in
    (c.requires.0, omega (arith, j, c.requires.0))

pub returns : goal.returns
returns c =
    let n = c.all_nodes in
    let e = sym n.ensures ∙ c.if-not-all_nodes.false in
    c.first_counted.ensures
    ∙ common-is c.args.codes.now c.requires.1 c.args.joints.now _ c.if-joints-eq0.false e (omega (arith, c.count_lines.auto.counts, c.requires.0))
    (rest-leads c.args.codes.now c.args.joints.now _ c.count_lines.ensures)
