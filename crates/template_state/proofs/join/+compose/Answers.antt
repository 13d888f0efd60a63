-- What is left of the arguments serves for the others.
use Rattle.std.proofs.Common.{rules}
use Rattle.std.proofs.lemmas.Result.{on_ok_weaker}
use Rattle.stream_type.specs.StreamType.{type_of}
use Rattle.template_state.specs.Readers.{state_in, arguments_in}
use Rattle.template_state.proofs.PassedOnce.{others_plain, serves_once, composed_before}
use Rattle.template_state.proofs.join.+compose.Goals as goal

pub compose-requires : goal.compose-requires
compose-requires t c = (
  search rules,
  (
    rw c.deref_mut-in-Before.ensures.value (others_plain (state_in c.in-Before.a.value) (arguments_in c.in-Before.others.value) (rw c.in-Before.is at c.requires.plain)),
    serves_once (arguments_in c.args.args.now) (arguments_in c.pass_on.new.args) (state_in c.deref_mut.result.now) c.in-Before.field-0.0 (type_of c.in-Before.field-1) (arguments_in c.deref_mut-in-Before.result.now) c.in_ok-pass_on-in-Before.ensures.left
        (rw (c.deref_mut.ensures.value, c.deref_mut-in-Before.ensures.value) (rw c.in-Before.is at c.requires.once)),
  ),
)

pub returns-in_ok-pass_on-in-Before : goal.returns-in_ok-pass_on-in-Before
returns-in_ok-pass_on-in-Before t c =
    let whole = composed_before (arguments_in c.args.args.now) (arguments_in c.pass_on.new.args) (state_in c.deref_mut.result.now) c.in-Before.field-0.0 (type_of c.in-Before.field-1) (arguments_in c.deref_mut-in-Before.result.now) (state_in c.pass_on.new.a) (arguments_in c.compose.new.inner)
    c.in_ok-pass_on-in-Before.ensures.passed c.in_ok-pass_on-in-Before.ensures.left (rw (c.deref_mut.ensures.value, c.deref_mut-in-Before.ensures.value) (rw c.in-Before.is at c.requires.once)) in
    let there = rw (c.deref_mut.ensures.value, c.deref_mut-in-Before.ensures.value) at whole in
    let later = rw c.deref_mut-in-Before.ensures.value at c.compose.ensures in
    rw c.in-Before.is (on_ok_weaker c.compose.result there later)
