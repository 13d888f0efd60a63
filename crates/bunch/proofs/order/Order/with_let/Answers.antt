-- The longer table is square and has the facts of a name that is placed by free names.
use Rattle.std.proofs.Common.{◌≡◌, [], ◌∷◌, ◌++◌, map, length, false, ap, ap₂, sym, ◌∙◌, subst}
use Rattle.std.proofs.lemmas.List.{length-map}
use Rattle.bunch.specs.Names.{holds, numbers_of}
use Rattle.bunch.specs.Facts.{among, before_let, after_let, place_let}
use Rattle.bunch.specs.Table.{lists_of, facts_in, grown_rows, IsSquare}
use Rattle.bunch.specs.NameOrder.{facts_of}
use Rattle.bunch.proofs.Growth.{facts_in-let, IsSquare-grown}
use Rattle.bunch.proofs.order.Order.with_let.Goals as goal

pub invariant_of-result : goal.invariant_of-result
invariant_of-result c =
    let ns = numbers_of c.self.inside.names.items in
    let rows = lists_of c.self.inside.rows.items in
    let bs = c.in_ok-befores.befores.items in
    let cs = c.in_ok-afters.afters.items in
    let x = c.args.x.0 in
    let b : bs ≡ map (before_let (numbers_of c.args.free.now) c.args.inert (facts_in ns rows)) ns = rw (c.deref.ensures.value, c.deref-2.ensures.value) at c.in_ok-befores.ensures in
    let a : cs ≡ map (after_let (numbers_of c.args.free.now) (facts_in ns rows)) ns = rw (c.deref-3.ensures.value, c.deref-4.ensures.value) at c.in_ok-afters.ensures in
    let n : numbers_of c.in_ok-names.names.items ≡ ns ++ x ∷ [] = rw c.deref-5.ensures.value at c.in_ok-names.ensures in
    let r : lists_of c.in_ok-rows.rows.items ≡ grown_rows rows bs cs = rw (c.deref-6.ensures.value, c.deref-7.ensures.value, c.deref-8.ensures.value) at c.in_ok-rows.ensures in
    subst (λ m. IsSquare m (lists_of c.in_ok-rows.rows.items)) (sym n)
    (subst (λ l. IsSquare (ns ++ x ∷ []) l) (sym r)
    (IsSquare-grown ns rows bs cs x c.self.invariant (ap length b ∙ length-map ns (before_let (numbers_of c.args.free.now) c.args.inert (facts_in ns rows))) (ap length a ∙ length-map ns (after_let (numbers_of c.args.free.now) (facts_in ns rows)))))

pub returns-clause-facts : goal.returns-clause-facts
returns-clause-facts c =
    let ns = numbers_of c.self.inside.names.items in
    let rows = lists_of c.self.inside.rows.items in
    let bs = c.in_ok-befores.befores.items in
    let cs = c.in_ok-afters.afters.items in
    let x = c.args.x.0 in
    let b : bs ≡ map (before_let (numbers_of c.args.free.now) c.args.inert (facts_in ns rows)) ns = rw (c.deref.ensures.value, c.deref-2.ensures.value) at c.in_ok-befores.ensures in
    let a : cs ≡ map (after_let (numbers_of c.args.free.now) (facts_in ns rows)) ns = rw (c.deref-3.ensures.value, c.deref-4.ensures.value) at c.in_ok-afters.ensures in
    let n : numbers_of c.in_ok-names.names.items ≡ ns ++ x ∷ [] = rw c.deref-5.ensures.value at c.in_ok-names.ensures in
    let r : lists_of c.in_ok-rows.rows.items ≡ grown_rows rows bs cs = rw (c.deref-6.ensures.value, c.deref-7.ensures.value, c.deref-8.ensures.value) at c.in_ok-rows.ensures in
    let new : holds x ns ≡ false = ap (λ o. holds x o.names) c.self.view_is ∙ c.requires in
    ap₂ facts_in n r
    ∙ (facts_in-let ns rows x (numbers_of c.args.free.now) c.args.inert c.self.invariant new bs cs b a (ap length b ∙ length-map ns (before_let (numbers_of c.args.free.now) c.args.inert (facts_in ns rows))) (ap length a ∙ length-map ns (after_let (numbers_of c.args.free.now) (facts_in ns rows)))
    ∙ ap₂ (λ m o. among m (place_let x (numbers_of c.args.free.now) c.args.inert (facts_of o))) (sym n) c.self.view_is)
