-- Each number is laid on its key, as many as there are.
use Rattle.std.proofs.Common.{◌≡◌, ◌∷◌, ◌∙◌, length, get_or, pos, FitsSigned, w64, refl, sym, ap, rules}
use Rattle.std.proofs.lemmas.Int.{to_z-of_z}
use Rattle.filled_states.specs.Registers.{number_at}
use Rattle.state_shapes.proofs.Growing.{stops, goes_if, goes_first, goes_no_further, goes_further, goes_last}
use Rattle.learned_table.proofs.LaidParts.{one_key, no_key}
use Rattle.learned_table.proofs.laying.numbers_go.Goals as goal

pub loop-key-init : goal.loop-key-init
loop-key-init c = goes_if _ refl (λ e x k h. h)

pub returns-then-not-goes_on : goal.returns-then-not-goes_on
returns-then-not-goes_on c = stops c.if-not-goes_on.ensures.1

pub returns-then-not-goes_on-2 : goal.returns-then-not-goes_on-2
returns-then-not-goes_on-2 c =
    goes_first (c.goes_on.ensures.0 c.if-not-goes_on.false) (goes_no_further c.if-not-goes_on-2.ensures.1 c.loop-key.invariant c.number_goes-so_far.ensures)

pub loop-key-preserved : goal.loop-key-preserved
loop-key-preserved c =
    let opened : c.loop-key.others.now ≡ c.in-Some.number.now ∷ c.in-Some.rest.now = search rules in
    let key_fits : FitsSigned w64 (get_or c.args.keys.now c.loop-key.key-index (pos 0)) = search rules in
    let fits : FitsSigned w64 c.in-Some.number.now = search rules in
    goes_further _ (c.goes_on-in-loop-key.ensures.0 c.if-not-goes_on-2.false) c.loop-key.invariant c.number_goes-so_far.ensures
    (λ x f g k. f (one_key (number_at x.keys x.numbers) c.args.keys.now c.loop-key.others.now c.in-Some.rest.now c.loop-key.key-index (pos 0) c.in-Some.number.now opened c.loop-key-test.true
    (sym (to_z-of_z w64 c.in-Some.number.now fits) ∙ g ∙ ap (number_at x.keys x.numbers) (to_z-of_z w64 (get_or c.args.keys.now c.loop-key.key-index (pos 0)) key_fits)) k))

pub returns : goal.returns
returns c =
    goes_first (c.goes_on.ensures.0 c.if-not-goes_on.false)
    (goes_last _ c.loop-key.invariant
    (λ y x f. let none : length c.loop-key.others.now ≡ 0 = search rules in f (no_key (number_at x.keys x.numbers) c.args.keys.now c.loop-key.others.now c.loop-key.key-index c.loop-key-test.false none)))
