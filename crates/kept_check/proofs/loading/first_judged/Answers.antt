-- What the walk finds, read on the kept state.
use Rattle.std.proofs.Common.{◌∙◌, ap}
use Rattle.stream_type.specs.StreamType.{type_of}
use Rattle.bunch.specs.BunchTree.{leaf_names}
use Rattle.bunch.specs.Names.{numbers_of}
use Rattle.core_term.specs.CoreTerm.{core_of, past_names}
use Rattle.core_term.specs.FreeNames.{bound_names, is_distinct}
use Rattle.core_term.proofs.BoundOnce.{distinct_left, distinct_right}
use Rattle.delta_keep.specs.KeptView.{kept_of, state_of}
use Rattle.kept_check.proofs.LoadedStates.{kept_found, typed_told}
use Rattle.kept_check.proofs.loading.first_judged.Goals as goal

pub check_state-told-requires-clause-once : goal.check_state-told-requires-clause-once
check_state-told-requires-clause-once c =
    let main = (core_of c.args.judge.now.program.now).main in
    let params = leaf_names main.params in
    ap is_distinct c.requires.params ∙ distinct_left params (bound_names main.body) (distinct_right (past_names main) _ c.requires.core.main_once.is_once)

pub returns-in-Ok : goal.returns-in-Ok
returns-in-Ok c =
    let core = core_of c.args.judge.now.program.now in
    let k = c.args.k.now in
    let told = c.check_state-told.result in
    typed_told core k told c.requires.placed
    (kept_found core (kept_of k) c.args.left.now _ c.args.judge.now.depth (type_of c.deref-in-Ok.result.now) (numbers_of c.args.params.now.items) (state_of c.deref.result.now) told
    c.requires.names c.requires.types c.in-Ok.ensures.facts c.requires.depth (ap (λ t. type_of t) c.deref-in-Ok.ensures) c.requires.params (ap state_of c.deref.ensures) c.check_state-told.ensures.found)
