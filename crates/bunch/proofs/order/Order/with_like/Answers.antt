-- The longer table is square and has the facts of a name that is placed like another.
use Rattle.std.proofs.Common.{◌≡◌, [], ◌∷◌, ◌++◌, map, length, false, ap, ap₂, sym, ◌∙◌, subst}
use Rattle.std.proofs.lemmas.List.{length-map}
use Rattle.bunch.specs.Names.{holds, numbers_of}
use Rattle.bunch.specs.Facts.{before_like, after_like, place_like}
use Rattle.bunch.specs.Table.{lists_of, facts_in, grown_rows, IsSquare}
use Rattle.bunch.specs.NameOrder.{facts_of}
use Rattle.bunch.proofs.Growth.{facts_in-like, IsSquare-grown}
use Rattle.bunch.proofs.order.Order.with_like.Goals as goal

pub invariant_of-result : goal.invariant_of-result
invariant_of-result c =
    let ns = numbers_of c.self.inside.names.items in
    let rows = lists_of c.self.inside.rows.items in
    let bs = c.in_ok-befores.befores.items in
    let cs = c.in_ok-afters.afters.items in
    let x = c.args.x.0 in
    let b : bs ≡ map (before_like c.args.z.0 (facts_in ns rows)) ns = rw (c.deref.ensures.value, c.deref-2.ensures.value) at c.in_ok-befores.ensures in
    let a : cs ≡ map (after_like c.args.z.0 (facts_in ns rows)) ns = rw (c.deref-3.ensures.value, c.deref-4.ensures.value) at c.in_ok-afters.ensures in
    let n : numbers_of c.in_ok-names.names.items ≡ ns ++ x ∷ [] = rw c.deref-5.ensures.value at c.in_ok-names.ensures in
    let r : lists_of c.in_ok-rows.rows.items ≡ grown_rows rows bs cs = rw (c.deref-6.ensures.value, c.deref-7.ensures.value, c.deref-8.ensures.value) at c.in_ok-rows.ensures in
    subst (λ m. IsSquare m (lists_of c.in_ok-rows.rows.items)) (sym n)
    (subst (λ l. IsSquare (ns ++ x ∷ []) l) (sym r)
    (IsSquare-grown ns rows bs cs x c.self.invariant (ap length b ∙ length-map ns (before_like c.args.z.0 (facts_in ns rows))) (ap length a ∙ length-map ns (after_like c.args.z.0 (facts_in ns rows)))))

pub returns-clause-facts : goal.returns-clause-facts
returns-clause-facts c =
    let ns = numbers_of c.self.inside.names.items in
    let rows = lists_of c.self.inside.rows.items in
    let bs = c.in_ok-befores.befores.items in
    let cs = c.in_ok-afters.afters.items in
    let x = c.args.x.0 in
    let b : bs ≡ map (before_like c.args.z.0 (facts_in ns rows)) ns = rw (c.deref.ensures.value, c.deref-2.ensures.value) at c.in_ok-befores.ensures in
    let a : cs ≡ map (after_like c.args.z.0 (facts_in ns rows)) ns = rw (c.deref-3.ensures.value, c.deref-4.ensures.value) at c.in_ok-afters.ensures in
    let n : numbers_of c.in_ok-names.names.items ≡ ns ++ x ∷ [] = rw c.deref-5.ensures.value at c.in_ok-names.ensures in
    let r : lists_of c.in_ok-rows.rows.items ≡ grown_rows rows bs cs = rw (c.deref-6.ensures.value, c.deref-7.ensures.value, c.deref-8.ensures.value) at c.in_ok-rows.ensures in
    let new : holds x ns ≡ false = ap (λ o. holds x o.names) c.self.view_is ∙ c.requires in
    ap₂ facts_in n r
    ∙ (facts_in-like ns rows x c.args.z.0 c.self.invariant new bs cs b a (ap length b ∙ length-map ns (before_like c.args.z.0 (facts_in ns rows))) (ap length a ∙ length-map ns (after_like c.args.z.0 (facts_in ns rows)))
    ∙ ap (λ o. place_like x c.args.z.0 (facts_of o)) c.self.view_is)
