-- States by their forms: their bytes, and the sizes of their numbers.
use Rattle.std.proofs.Common.{sym, ap, map, ◌∙◌, ◌++◌, subst}
use Rattle.stream_type.specs.StreamType.{type_of}
use Rattle.kept_state.specs.KeptBytes.{short_bytes, list_bytes, type_bytes, held_name_bytes}
use Rattle.kept_state.specs.KeptSizes.{FitsState}
use Rattle.delta_keep.specs.KeptView.{held_of, state_of}
use Rattle.delta_keep.specs.Written.{written_later, written_state, written_argument}
use Rattle.delta_keep.specs.Reads.{FitsArgument}
use Rattle.delta_keep.proofs.PutInTurn.{puts_same, puts_2, puts_3, puts_formed, puts_named}
use Rattle.delta_keep.proofs.Trees.{frame_bytes}
use Rattle.delta_keep.proofs.PutSizes.{some_more, all_themselves, argument_filled, before, both, fits_as}
use Rattle.delta_keep.proofs.Sizes.{frame_fits}
use Rattle.delta_keep.proofs.put_states.+put_states.Goals as goal

pub put_arguments-loop-arg-preserved : goal.put_arguments-loop-arg-preserved
put_arguments-loop-arg-preserved t c = some_more written_argument (λ a. a) FitsArgument c.args.args.now c.loop-arg.arg-index c.arg-item.result c.loop-arg-test.true c.arg-item.is c.loop-arg.invariant c.put_argument.ensures.puts c.put_argument.ensures.sizes

pub put_state-returns-in-LetPar-clause-puts : goal.put_state-returns-in-LetPar-clause-puts
put_state-returns-in-LetPar-clause-puts t c =
    let part = rw c.deref-in-LetPar.ensures at c.put_state-in-LetPar.ensures.puts in
    rw c.in-LetPar.is (puts_named 5 (short_bytes c.in-LetPar.x.0) (short_bytes c.in-LetPar.y.0) (short_bytes c.in-LetPar.z.0) (written_state c.in-LetPar.a.value) c.put_form_names.ensures.puts part)

pub put_state-returns-in-LetCat-clause-puts : goal.put_state-returns-in-LetCat-clause-puts
put_state-returns-in-LetCat-clause-puts t c =
    let part = rw c.deref-in-LetCat.ensures at c.put_state-in-LetCat.ensures.puts in
    rw c.in-LetCat.is (puts_named 6 (short_bytes c.in-LetCat.x.0) (short_bytes c.in-LetCat.y.0) (short_bytes c.in-LetCat.z.0) (written_state c.in-LetCat.a.value) c.put_form_names-in-LetCat.ensures.puts part)

pub put_state-returns-in-Frame-clause-puts : goal.put_state-returns-in-Frame-clause-puts
put_state-returns-in-Frame-clause-puts t c =
    puts_same (sym (ap written_state c.in-Frame.is ∙ frame_bytes c.in-Frame.args c.in-Frame.s))
    (puts_2 (rw c.deref-in-Frame.ensures.value at c.put_arguments.ensures.puts) (rw c.deref-in-Frame-2.ensures at c.put_state-in-Frame.ensures.puts))

pub put_argument-returns-clause-puts : goal.put_argument-returns-clause-puts
put_argument-returns-clause-puts t c = puts_3 c.put_name.ensures.puts (rw c.deref.ensures at c.put_type.ensures) (rw c.deref-2.ensures at c.put_state.ensures.puts)

pub put_state-returns-in-Sink-clause-puts : goal.put_state-returns-in-Sink-clause-puts
put_state-returns-in-Sink-clause-puts t c = rw c.in-Sink.is (puts_2 c.put_byte.ensures (rw c.deref.ensures at c.put_type.ensures))

pub put_state-returns-in-Var-clause-puts : goal.put_state-returns-in-Var-clause-puts
put_state-returns-in-Var-clause-puts t c = rw c.in-Var.is (puts_2 c.put_byte-in-Var.ensures c.put_name.ensures.puts)

pub put_state-returns-in-Par-clause-puts : goal.put_state-returns-in-Par-clause-puts
put_state-returns-in-Par-clause-puts t c = rw c.in-Par.is (puts_3 c.put_byte-in-Par.ensures (rw c.deref-in-Par.ensures at c.put_state.ensures.puts) (rw c.deref-in-Par-2.ensures at c.put_state-in-Par.ensures.puts))

pub put_state-returns-in-Cat-clause-puts : goal.put_state-returns-in-Cat-clause-puts
put_state-returns-in-Cat-clause-puts t c = rw c.in-Cat.is (puts_3 c.put_byte-in-Cat.ensures (rw c.deref-in-Cat.ensures at c.put_state-in-Cat.ensures.puts) (rw c.deref-in-Cat-2.ensures at c.put_later.ensures.puts))

pub put_state-returns-in-Let-clause-puts : goal.put_state-returns-in-Let-clause-puts
put_state-returns-in-Let-clause-puts t c =
    rw c.in-Let.is
    (puts_formed 4 (short_bytes c.in-Let.x.0) (type_bytes (type_of c.in-Let.t.value)) (written_state c.in-Let.a.value ++ written_state c.in-Let.b.value) (rw c.deref-in-Let.ensures at c.put_form_name_type.ensures.puts)
    (puts_2 (rw c.deref-in-Let-2.ensures at c.put_state-in-Let.ensures.puts) (rw c.deref-in-Let-3.ensures at c.put_state-in-Let-2.ensures.puts)))

pub put_state-returns-in-CaseSum-clause-puts : goal.put_state-returns-in-CaseSum-clause-puts
put_state-returns-in-CaseSum-clause-puts t c =
    rw c.in-CaseSum.is
    (puts_named 7 (short_bytes c.in-CaseSum.z.0) (type_bytes (type_of c.in-CaseSum.t.value)) (list_bytes held_name_bytes (map held_of c.in-CaseSum.held.items))
    (short_bytes c.in-CaseSum.x.0 ++ (written_later c.in-CaseSum.l.value ++ (short_bytes c.in-CaseSum.y.0 ++ written_later c.in-CaseSum.m.value)))
    (rw (c.deref-in-CaseSum.ensures, c.deref-in-CaseSum-2.ensures.value) at c.put_holding.ensures.puts) (rw (c.deref-in-CaseSum-3.ensures, c.deref-in-CaseSum-4.ensures) at c.put_branches.ensures.puts))

pub put_state-returns-in-CaseStar-clause-puts : goal.put_state-returns-in-CaseStar-clause-puts
put_state-returns-in-CaseStar-clause-puts t c =
    rw c.in-CaseStar.is (rw (c.deref-in-CaseStar.ensures, c.deref-in-CaseStar-2.ensures.value, c.deref-in-CaseStar-3.ensures, c.deref-in-CaseStar-4.ensures) at c.put_case_star.ensures.puts)

pub put_state-returns-in-Wait-clause-puts : goal.put_state-returns-in-Wait-clause-puts
put_state-returns-in-Wait-clause-puts t c =
    rw c.in-Wait.is
    (puts_named 9 (short_bytes c.in-Wait.x.0) (type_bytes (type_of c.in-Wait.t.value)) (list_bytes held_name_bytes (map held_of c.in-Wait.held.items)) (written_later c.in-Wait.l.value)
    (rw (c.deref-in-Wait.ensures, c.deref-in-Wait-2.ensures.value) at c.put_holding-in-Wait.ensures.puts) (rw c.deref-in-Wait-3.ensures at c.put_later-in-Wait.ensures.puts))

pub put_arguments-returns-clause-sizes : goal.put_arguments-returns-clause-sizes
put_arguments-returns-clause-sizes t c = all_themselves written_argument FitsArgument c.args.args.now c.loop-arg.arg-index argument_filled c.loop-arg-test.false c.loop-arg.invariant

pub put_state-returns-in-Frame-clause-sizes : goal.put_state-returns-in-Frame-clause-sizes
put_state-returns-in-Frame-clause-sizes t c n =
    let args = rw c.deref-in-Frame.ensures.value at c.put_arguments.ensures.sizes in
    let body = rw c.deref-in-Frame-2.ensures at c.put_state-in-Frame.ensures.sizes in
    let puts = rw c.deref-in-Frame-2.ensures at c.put_state-in-Frame.ensures.puts in
    subst (λ r. FitsState (state_of r)) (sym c.in-Frame.is) (frame_fits c.in-Frame.args c.in-Frame.s (both args puts body n))

pub put_state-returns-in-Sink-clause-sizes : goal.put_state-returns-in-Sink-clause-sizes
put_state-returns-in-Sink-clause-sizes t c = fits_as (λ r. FitsState (state_of r)) c.in-Sink.is (λ n. tt)

pub put_state-returns-in-Var-clause-sizes : goal.put_state-returns-in-Var-clause-sizes
put_state-returns-in-Var-clause-sizes t c = fits_as (λ r. FitsState (state_of r)) c.in-Var.is (λ n. c.put_name.ensures.sizes)

pub put_state-returns-in-Par-clause-sizes : goal.put_state-returns-in-Par-clause-sizes
put_state-returns-in-Par-clause-sizes t c = fits_as (λ r. FitsState (state_of r)) c.in-Par.is (both (rw c.deref-in-Par.ensures at c.put_state.ensures.sizes) (rw c.deref-in-Par-2.ensures at c.put_state-in-Par.ensures.puts) (rw c.deref-in-Par-2.ensures at c.put_state-in-Par.ensures.sizes))

pub put_state-returns-in-Cat-clause-sizes : goal.put_state-returns-in-Cat-clause-sizes
put_state-returns-in-Cat-clause-sizes t c = fits_as (λ r. FitsState (state_of r)) c.in-Cat.is (both (rw c.deref-in-Cat.ensures at c.put_state-in-Cat.ensures.sizes) (rw c.deref-in-Cat-2.ensures at c.put_later.ensures.puts) (rw c.deref-in-Cat-2.ensures at c.put_later.ensures.sizes))

pub put_state-returns-in-Let-clause-sizes : goal.put_state-returns-in-Let-clause-sizes
put_state-returns-in-Let-clause-sizes t c =
    let first = rw c.deref-in-Let-2.ensures at c.put_state-in-Let.ensures.sizes in
    let puts = rw c.deref-in-Let-3.ensures at c.put_state-in-Let-2.ensures.puts in
    let second = rw c.deref-in-Let-3.ensures at c.put_state-in-Let-2.ensures.sizes in
    fits_as (λ r. FitsState (state_of r)) c.in-Let.is (λ n. (c.put_form_name_type.ensures.sizes, first (before {a = written_state c.in-Let.b.value} puts n), second n))

pub put_state-returns-in-LetPar-clause-sizes : goal.put_state-returns-in-LetPar-clause-sizes
put_state-returns-in-LetPar-clause-sizes t c =
    let names = c.put_form_names.ensures.sizes in
    let part = rw c.deref-in-LetPar.ensures at c.put_state-in-LetPar.ensures.sizes in
    fits_as (λ r. FitsState (state_of r)) c.in-LetPar.is (λ n. (names.0, names.1, names.2, part n))

pub put_state-returns-in-LetCat-clause-sizes : goal.put_state-returns-in-LetCat-clause-sizes
put_state-returns-in-LetCat-clause-sizes t c =
    let names = c.put_form_names-in-LetCat.ensures.sizes in
    let part = rw c.deref-in-LetCat.ensures at c.put_state-in-LetCat.ensures.sizes in
    fits_as (λ r. FitsState (state_of r)) c.in-LetCat.is (λ n. (names.0, names.1, names.2, part n))

pub put_state-returns-in-CaseSum-clause-sizes : goal.put_state-returns-in-CaseSum-clause-sizes
put_state-returns-in-CaseSum-clause-sizes t c =
    let holding = rw c.deref-in-CaseSum-2.ensures.value at c.put_holding.ensures.sizes in
    let puts = rw (c.deref-in-CaseSum-3.ensures, c.deref-in-CaseSum-4.ensures) at c.put_branches.ensures.puts in
    let branches = rw (c.deref-in-CaseSum-3.ensures, c.deref-in-CaseSum-4.ensures) at c.put_branches.ensures.sizes in
    fits_as (λ r. FitsState (state_of r)) c.in-CaseSum.is
    (λ n. let held = holding (before {a = short_bytes c.in-CaseSum.x.0 ++ (written_later c.in-CaseSum.l.value ++ (short_bytes c.in-CaseSum.y.0 ++ written_later c.in-CaseSum.m.value))} puts n) in let later = branches n in (held.0, held.1, later.0, later.1, later.2, later.3))

pub put_state-returns-in-CaseStar-clause-sizes : goal.put_state-returns-in-CaseStar-clause-sizes
put_state-returns-in-CaseStar-clause-sizes t c = fits_as (λ r. FitsState (state_of r)) c.in-CaseStar.is (rw (c.deref-in-CaseStar-2.ensures.value, c.deref-in-CaseStar-3.ensures, c.deref-in-CaseStar-4.ensures) at c.put_case_star.ensures.sizes)

pub put_state-returns-in-Wait-clause-sizes : goal.put_state-returns-in-Wait-clause-sizes
put_state-returns-in-Wait-clause-sizes t c =
    let holding = rw c.deref-in-Wait-2.ensures.value at c.put_holding-in-Wait.ensures.sizes in
    let puts = rw c.deref-in-Wait-3.ensures at c.put_later-in-Wait.ensures.puts in
    let later = rw c.deref-in-Wait-3.ensures at c.put_later-in-Wait.ensures.sizes in
    fits_as (λ r. FitsState (state_of r)) c.in-Wait.is (λ n. let held = holding (before {a = written_later c.in-Wait.l.value} puts n) in (held.0, held.1, later n))

pub put_argument-returns-clause-sizes : goal.put_argument-returns-clause-sizes
put_argument-returns-clause-sizes t c n = (c.put_name.ensures.sizes, (rw c.deref-2.ensures at c.put_state.ensures.sizes) n)
