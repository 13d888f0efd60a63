-- The table of a bunch is square and has the bunch's facts.
use Rattle.std.proofs.Common.{◌≡◌, ap, sym, ◌∙◌}
use Rattle.bunch.specs.Names.{holds, numbers_of}
use Rattle.bunch.specs.BunchTree.{tree_of, leaf_names, stands_before}
use Rattle.bunch.specs.Table.{lists_of, facts_in, rows_by}
use Rattle.bunch.proofs.Growth.{facts_in-by, IsSquare-by}
use Rattle.bunch.proofs.Bunches.{stands_before-first, stands_before-second}
use Rattle.bunch.proofs.order.Order.of_bunch.Goals as goal

pub invariant_of-result : goal.invariant_of-result
invariant_of-result c =
    let t = tree_of c.args.b.now in
    let rows : lists_of c.in_ok-rows.rows.items ≡ rows_by (stands_before t) (numbers_of c.in_ok-names.names.items) = rw c.deref.ensures.value at c.in_ok-rows.ensures in
    rw rows (IsSquare-by (numbers_of c.in_ok-names.names.items) (stands_before t))

pub returns-clause-facts : goal.returns-clause-facts
returns-clause-facts c =
    let t = tree_of c.args.b.now in
    let ns = numbers_of c.in_ok-names.names.items in
    let rows : lists_of c.in_ok-rows.rows.items ≡ rows_by (stands_before t) ns = rw c.deref.ensures.value at c.in_ok-rows.ensures in
    let names : ns ≡ leaf_names t = c.in_ok-names.ensures in
    ap (facts_in ns) rows
    ∙ facts_in-by ns (stands_before t)
    (λ a b h. stands_before-first t a b (ap (holds a) (sym names) ∙ h))
    (λ a b h. stands_before-second t a b (ap (holds b) (sym names) ∙ h))
