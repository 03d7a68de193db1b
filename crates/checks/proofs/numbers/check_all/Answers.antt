use mathlib.Core.Path.{◌≡◌, ap, sym, ◌∙◌}
use lib.Ieee.{binary32, of_bits}
use lib.ListN.{length, replicate}
use borrow.Author.Tests.{eqb-true, eqb-false}
use Rattle.std.proofs.lemmas.List.{length-replicate}
use Rattle.refusals.specs.Drawn.{number_drawn}
use Rattle.row_checks.specs.declared.Sizes.{Sizes}
use Rattle.row_checks.specs.Places.{fits_in}
use Rattle.checks.proofs.Lowest.{one-first}
use Rattle.checks.proofs.OutOfTable.{is_there, is_out_of_table}
use Rattle.checks.specs.declared.Table.TheVariants as table
use Rattle.checks.specs.Drawn.{lower_of, record_words, count_within, children_number, roots_number, whole_number, listed_number, sizes_of, tables_number}
use Rattle.checks.proofs.numbers.check_all.Goals as goal

pub returns-then-eq : goal.returns-then-eq
unfolding tables_number
returns-then-eq g c l w h z =
    let floats = ap (λ (s : Sizes). s.floats) (sym z) in
    let nodes : number_drawn c.check_whole-nodes.result ≡ whole_number l.words l.floats (sizes_of l) l.header table.Nodes
    = c.check_whole-nodes.ensures l.floats floats ∙ (λ j. whole_number (sym w j) l.floats (z j) (sym h j) table.Nodes) in
    let one = eqb-true _ _ (sym (is_out_of_table _ c.check_whole-nodes.result) ∙ sym c.eq.ensures ∙ c.if-eq.true) in
    one ∙ one-first _ _ (sym nodes ∙ one)

pub check_children-children-requires : goal.check_children-children-requires
unfolding whole_number
check_children-children-requires g c =
    let a = c.args in
    let said = g.W.Words.said a.words in
    let t = a.h.graph.nodes in
    let nodes = c.check_whole-nodes.ensures (replicate a.s.floats (of_bits binary32 0)) (length-replicate _ _) in
    let above = eqb-false _ _ (sym (is_out_of_table _ c.check_whole-nodes.result) ∙ sym c.eq.ensures ∙ c.if-eq.false) in
    g.met.W.Words.lies a.words t table.Nodes
    (is_there (fits_in t (record_words table.Nodes) (length said)) (count_within table.Nodes t.count)
    (λ one. above (nodes ∙ sym (one-first _ _ one))))

pub returns : goal.returns
unfolding tables_number
returns g c l w h z =
    let floats = ap (λ (s : Sizes). s.floats) (sym z) in
    let nodes = c.check_whole-nodes.ensures l.floats floats ∙ (λ j. whole_number (sym w j) l.floats (z j) (sym h j) table.Nodes) in
    let children = c.check_children-children.ensures ∙ (λ j. children_number (sym w j) (sym h j).graph.nodes) in
    let count = c.count.ensures ∙ ap length (sym w) in
    let roots = c.check_roots-roots.ensures ∙ (λ j. roots_number (count j) (sym h j).graph.roots) in
    let listed = c.check_listed-listed.ensures l.floats floats ∙ (λ j. listed_number (sym w j) l.floats (z j) (sym h j)) in
    c.lower-3.ensures
    ∙ (λ j. lower_of (nodes j) ((c.lower-2.ensures
    ∙ (λ j. lower_of (children j) ((c.lower.ensures
    ∙ (λ j. lower_of (roots j) (listed j))) j))) j))
