-- Each list is made of lists with the same names.
use Rattle.std.proofs.Common.{◌≡◌, ◌∙◌, ◌||◌, ◌+◌, ◌++◌, ◌∷◌, [], drop, ⊎_elim, ap, ap₂, refl, sym}
use Rattle.bunch.specs.Names.{holds, numbers_of}
use Rattle.core_term.specs.FreeNames.{free_names, without}
use Rattle.delta_state.specs.StateTree.{par_state, cat_state, free_in_state, free_in_arguments}
use Rattle.delta_keep.specs.KeptView.{state_of, later_of, arguments_from}
use Rattle.delta_keep.proofs.ArgumentRows.{arguments_of-hidden}
use Rattle.kept_check.proofs.FreeLists.{argument_put_in, none_left}
use Rattle.kept_check.proofs.free.+free.Goals as goal

pub free_in-returns-in-Par : goal.free_in-returns-in-Par
free_in-returns-in-Par t c =
    let whole : state_of c.args.s.now ≡ par_state (state_of c.deref.result.now) (state_of c.deref-in-Par.result.now) =
    ap state_of c.in-Par.is ∙ ap₂ (λ x y. par_state (state_of x) (state_of y)) (sym c.deref.ensures) (sym c.deref-in-Par.ensures) in
    rw whole (c.joined.ensures (free_in_state (state_of c.deref.result.now)) (free_in_state (state_of c.deref-in-Par.result.now)) c.free_in.ensures c.free_in-in-Par.ensures)

pub free_in-returns-in-Cat : goal.free_in-returns-in-Cat
free_in-returns-in-Cat t c =
    let whole : state_of c.args.s.now ≡ cat_state (state_of c.deref-in-Cat.result.now) (later_of c.deref-in-Cat-2.result.now) =
    ap state_of c.in-Cat.is ∙ ap₂ (λ x y. cat_state (state_of x) (later_of y)) (sym c.deref-in-Cat.ensures) (sym c.deref-in-Cat-2.ensures) in
    rw whole (c.joined-in-Cat.ensures (free_in_state (state_of c.deref-in-Cat.result.now)) (free_names (later_of c.deref-in-Cat-2.result.now).term) c.free_in-in-Cat.ensures c.free_in_code.ensures)

pub free_in-returns-in-Let : goal.free_in-returns-in-Let
free_in-returns-in-Let t c =
    let whole : free_in_state (state_of c.args.s.now) ≡ free_in_state (state_of c.deref-in-Let.result.now) ++ without c.in-Let.x.0 (free_in_state (state_of c.deref-in-Let-2.result.now)) =
    ap (λ k. free_in_state (state_of k)) c.in-Let.is ∙ ap₂ (λ x y. free_in_state (state_of x) ++ without c.in-Let.x.0 (free_in_state (state_of y))) (sym c.deref-in-Let.ensures) (sym c.deref-in-Let-2.ensures) in
    rw whole (c.joined-in-Let.ensures (free_in_state (state_of c.deref-in-Let.result.now)) (free_in_state (state_of c.deref-in-Let-2.result.now)) c.free_in-in-Let.ensures c.free_in-in-Let-2.ensures)

pub free_in-returns-in-LetPar : goal.free_in-returns-in-LetPar
free_in-returns-in-LetPar t c =
    let x = c.in-LetPar.x.0 in
    let y = c.in-LetPar.y.0 in
    let z = c.in-LetPar.z.0 in
    let a = free_in_state (state_of c.deref-in-LetPar.result.now) in
    let whole : free_in_state (state_of c.args.s.now) ≡ z ∷ without x (without y a) =
    ⊎_elim (λ e. ap (λ k. free_in_state (state_of k)) e) (λ e. ap (λ k. free_in_state (state_of k)) e) c.in-LetPar.is ∙ ap (λ u. z ∷ without x (without y (free_in_state (state_of u)))) (sym c.deref-in-LetPar.ensures) in
    rw whole (c.joined-in-LetPar.ensures (z ∷ []) a c.alone-in-LetPar.ensures c.free_in-in-LetPar.ensures)

pub free_in-returns-in-Wait : goal.free_in-returns-in-Wait
free_in-returns-in-Wait t c =
    let x = c.in-Wait.x.0 in
    let code = free_names (later_of c.deref-in-Wait.result.now).term in
    let whole : free_in_state (state_of c.args.s.now) ≡ x ∷ code = ap (λ k. free_in_state (state_of k)) c.in-Wait.is ∙ ap (λ u. x ∷ free_names (later_of u).term) (sym c.deref-in-Wait.ensures) in
    rw whole (c.joined-in-Wait.ensures (x ∷ []) code c.alone-in-Wait.ensures c.free_in_code-in-Wait.ensures)

pub free_in-returns-in-Frame : goal.free_in-returns-in-Frame
free_in-returns-in-Frame t c =
    let whole : free_in_state (state_of c.args.s.now) ≡ free_in_arguments (arguments_from c.in-Frame.args.items) = rw c.in-Frame.is (ap free_in_arguments (arguments_of-hidden c.in-Frame.args)) in
    rw whole (rw c.deref-in-Frame.ensures.value at c.free_of_all.ensures)

pub free_of_all-loop-arg-preserved : goal.free_of_all-loop-arg-preserved
free_of_all-loop-arg-preserved t c = λ x.
    ap (λ l. holds x (numbers_of l) || holds x (free_in_arguments (arguments_from (drop (c.loop-arg.arg-index + 1) c.args.args.now)))) (rw c.deref-in-loop-arg.ensures.value at c.in_ok-extend_from_slice.ensures.items)
    ∙ (argument_put_in x c.loop-arg.names.items c.in_ok-inside.inside.items c.arg-item.result c.args.args.now c.loop-arg.arg-index c.loop-arg-test.true c.arg-item.is (rw c.deref.ensures at c.in_ok-inside.ensures) ∙ c.loop-arg.invariant x)

pub free_of_all-returns : goal.free_of_all-returns
free_of_all-returns t c = λ x.
    none_left (λ l. free_in_arguments (arguments_from l)) x (holds x (numbers_of c.loop-arg.names.items)) (holds x (free_in_arguments (arguments_from c.args.args.now))) c.args.args.now c.loop-arg.arg-index refl c.loop-arg-test.false (c.loop-arg.invariant x)
