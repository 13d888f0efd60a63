-- Each call goes down, or is nearer to one that does.
use Rattle.std.proofs.Common.{◌+◌, ◌*◌, max}
use Rattle.template_state.specs.declared.code.Op.{size-Op}
use Rattle.template_state.specs.declared.code.Operands.{size-Operands}
use Rattle.delta_code.proofs.free.+free.Given as goal

abbrev pub decreases-add_free : goal.decreases-add_free
decreases-add_free l = 3 * size-Op l.n.now

abbrev pub decreases-add_free_of_two : goal.decreases-add_free_of_two
decreases-add_free_of_two l = max (3 * size-Op l.a.now) (3 * size-Op l.b.now) + 1

abbrev pub decreases-add_name_and_free : goal.decreases-add_name_and_free
decreases-add_name_and_free l = 3 * size-Op l.a.now + 1

abbrev pub decreases-add_name_and_two : goal.decreases-add_name_and_two
decreases-add_name_and_two l = max (3 * size-Op l.a.now) (3 * size-Op l.b.now) + 2

abbrev pub decreases-add_free_of_all : goal.decreases-add_free_of_all
decreases-add_free_of_all l = 3 * size-Operands l.terms.now + 1
