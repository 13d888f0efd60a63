-- The list has the free names.
use Rattle.std.proofs.Common.{◌↔◌, IsTrue, map}
use Rattle.std.specs.Prelude.{IfOk}
use Rattle.std.proofs.lemmas.Result.{IfOk-weaker}
use Rattle.bunch.specs.Names.{numbers_of}
use Rattle.delta_check.specs.Scopes.{context_in}
use Rattle.delta_state.specs.StateTree.{free_in_state}
use Rattle.delta_state.specs.StateTyping.{IsHeld}
use Rattle.delta_keep.specs.KeptView.{state_of, held_of}
use Rattle.kept_check.proofs.SameNames.{held_like}
use Rattle.kept_check.proofs.values.is_held.Goals as goal

pub returns-in-Ok : goal.returns-in-Ok
returns-in-Ok c =
    let d = context_in c.args.scope.now in
    let held = map held_of c.args.held.now in
    let free = free_in_state (state_of c.args.s.now) in
    let found = c.in-Ok.free.items in
    let whole = held_like d found free held c.in-Ok.ensures in
    let test : IfOk c.is_held_of-fits.result (λ b. IsTrue b ↔ IsHeld d (numbers_of found) held) = rw c.deref.ensures.value at c.is_held_of-fits.ensures in
    IfOk-weaker c.is_held_of-fits.result (λ b. IsTrue b ↔ IsHeld d (numbers_of found) held) (λ b. IsTrue b ↔ IsHeld d free held) (λ b h. (λ t. whole.0 (h.0 t), λ i. h.1 (whole.1 i))) test
