-- The types of an accepted program have few parts.
use Rattle.delta_tree.specs.Tree.{program_of}
use Rattle.core_term.specs.CoreTerm.{core_of}
use Rattle.delta_meaning.proofs.Limits.{elaborated_is_within_limits}
use Rattle.checked_program.proofs.acceptance.accept_to_write.Goals as goal

pub written_by-requires : goal.written_by-requires
written_by-requires c =
    (elaborated_is_within_limits (program_of c.in-Ok.accepted.program) (core_of c.in-Ok.accepted.checked) c.in-Ok.ensures.accepted.accepted.elaborated).result_size

pub returns-in-Ok-clause-accepted : goal.returns-in-Ok-clause-accepted
returns-in-Ok-clause-accepted c = c.written_by.ensures.accepted c.args.text.now c.in-Ok.ensures.accepted
