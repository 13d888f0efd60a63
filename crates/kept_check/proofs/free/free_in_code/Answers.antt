-- They are told once each.
use Rattle.std.proofs.lemmas.Result.{IfOk-weaker}
use Rattle.core_term.specs.FreeNames.{free_names}
use Rattle.delta_keep.specs.KeptView.{later_of}
use Rattle.kept_check.proofs.FreeLists.{names_once}
use Rattle.kept_check.proofs.free.free_in_code.Goals as goal

pub returns : goal.returns
returns c = let code = free_names (later_of c.args.l.now).term in IfOk-weaker c.free.result _ _ (λ v e. names_once v.items code e) (rw c.deref.ensures at c.free.ensures)
