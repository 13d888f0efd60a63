-- A core of few nodes keeps what each core keeps, and is within the limits.
use Rattle.std.proofs.Common.{refl}
use Rattle.delta_tree.specs.Tree.{program_of}
use Rattle.core_term.specs.CoreTerm.{core_of}
use Rattle.delta_meaning.proofs.BoundOnce.{elaborated_is_core}
use Rattle.delta_elab.proofs.Whole.{elaborate-fine, elaborate-fits}
use Rattle.delta_elab.proofs.elaborating.elaborate.Goals as goal

pub returns-then-has_few_nodes-clause-names : goal.returns-then-has_few_nodes-clause-names
returns-then-has_few_nodes-clause-names c =
    let p = program_of c.args.p.now in
    let core = core_of c.in_ok-core.core.value in
    rw c.into_inner.ensures (elaborated_is_core p core (elaborate-fine p core c.in_ok-types.ensures.fine c.in_ok-core.ensures.core))

pub returns-then-has_few_nodes-clause-nodes : goal.returns-then-has_few_nodes-clause-nodes
returns-then-has_few_nodes-clause-nodes c =
    let few = rw (c.deref-3.ensures.value, c.deref-2.ensures, c.deref-4.ensures) at c.if-has_few_nodes.ensures in rw c.into_inner.ensures (few.0 refl)

pub returns-then-has_few_nodes-clause-fits : goal.returns-then-has_few_nodes-clause-fits
returns-then-has_few_nodes-clause-fits c =
    let p = program_of c.args.p.now in
    let core = core_of c.in_ok-core.core.value in
    rw c.into_inner.ensures (elaborate-fits p core (elaborate-fine p core c.in_ok-types.ensures.fine c.in_ok-core.ensures.core))
