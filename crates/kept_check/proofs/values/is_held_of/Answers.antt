-- The names stand once, and are the free ones.
use Rattle.std.proofs.Common.{◌≡◌, ◌∙◌, true≢false, map, sym}
use Rattle.std.proofs.lemmas.Result.{IfOk-weaker}
use Rattle.bunch.specs.Names.{numbers_of}
use Rattle.delta_check.specs.Scopes.{context_in}
use Rattle.delta_keep.specs.KeptView.{held_of}
use Rattle.kept_check.proofs.SameNames.{are_just, held_where, held_just}
use Rattle.kept_check.proofs.values.is_held_of.Goals as goal

pub returns-then-not-fits : goal.returns-then-not-fits
returns-then-not-fits c =
    let names = c.in_ok-names.names.items in
    let test : c.are_just-fits.result ≡ are_just (numbers_of names) (numbers_of c.args.free.now) = rw c.deref.ensures.value at c.are_just-fits.ensures in (
      λ t. absurd (true≢false (sym t)),
      λ i. absurd (true≢false (sym (held_just (context_in c.args.scope.now) names (numbers_of c.args.free.now) (map held_of c.args.held.now) c.in_ok-names.ensures i) ∙ (sym test ∙ c.if-not-fits.true))),
    )

pub returns : goal.returns
returns c =
    let names = c.in_ok-names.names.items in
    let test : c.are_just-fits.result ≡ are_just (numbers_of names) (numbers_of c.args.free.now) = rw c.deref.ensures.value at c.are_just-fits.ensures in
    let left = held_where (context_in c.args.scope.now) names (numbers_of c.args.free.now) (map held_of c.args.held.now) c.in_ok-names.ensures (sym test ∙ c.if-not-fits.false) in
    IfOk-weaker c.are_left.result _ _ (λ b h. (λ t. left.0 (h.0 t), λ i. h.1 (left.1 i))) c.are_left.ensures
