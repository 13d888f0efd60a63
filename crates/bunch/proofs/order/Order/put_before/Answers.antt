-- The table with one fact written is square and has this fact more.
use Rattle.std.proofs.Common.{◌≡◌, length, true, ap, sym, ◌∙◌, subst}
use Rattle.std.proofs.lemmas.List.{with_items_is}
use Rattle.bunch.specs.Names.{holds, numbers_of, place_in}
use Rattle.bunch.specs.Facts.{put_before}
use Rattle.bunch.specs.Table.{lists_of, facts_in, put_rows, IsSquare}
use Rattle.bunch.specs.NameOrder.{facts_of}
use Rattle.bunch.proofs.Growth.{facts_in-put, IsSquare-put}
use Rattle.bunch.proofs.order.Order.put_before.Goals as goal

pub returns-clause-facts : goal.returns-clause-facts
returns-clause-facts c =
    let ns = numbers_of c.self.inside.names.items in
    let rows = lists_of c.self.inside.rows.items in
    let x = c.args.x.0 in
    let y = c.args.y.0 in
    let items = with_items_is c.self.inside.rows c.put_fact.new.rows (c.put_fact.auto.rows ∙ (ap length c.deref_mut.ensures.value ∙ sym c.self.inside.rows.ok.0)) in
    let put : lists_of c.put_fact.new.rows ≡ put_rows rows (place_in x ns) (place_in y ns) = rw (c.deref_mut.ensures.value, c.deref.ensures.value) at c.put_fact.ensures in
    let first : holds x ns ≡ true = ap (λ o. holds x o.names) c.self.view_is ∙ c.requires.first in
    let second : holds y ns ≡ true = ap (λ o. holds y o.names) c.self.view_is ∙ c.requires.second in
    ap (λ l. facts_in ns (lists_of l)) items
    ∙ (ap (facts_in ns) put
    ∙ (facts_in-put ns rows x y c.self.invariant first second
    ∙ ap (λ o. put_before x y (facts_of o)) c.self.view_is))

pub invariant_of-self : goal.invariant_of-self
invariant_of-self c =
    let ns = numbers_of c.self.inside.names.items in
    let rows = lists_of c.self.inside.rows.items in
    let x = c.args.x.0 in
    let y = c.args.y.0 in
    let items = with_items_is c.self.inside.rows c.put_fact.new.rows (c.put_fact.auto.rows ∙ (ap length c.deref_mut.ensures.value ∙ sym c.self.inside.rows.ok.0)) in
    let put : lists_of c.put_fact.new.rows ≡ put_rows rows (place_in x ns) (place_in y ns) = rw (c.deref_mut.ensures.value, c.deref.ensures.value) at c.put_fact.ensures in
    let first : holds x ns ≡ true = ap (λ o. holds x o.names) c.self.view_is ∙ c.requires.first in
    subst (λ l. IsSquare ns (lists_of l)) (sym items)
    (subst (λ l. IsSquare ns l) (sym put) (IsSquare-put ns rows x (place_in y ns) c.self.invariant first))
