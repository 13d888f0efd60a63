-- The name is new.
use Rattle.std.proofs.Common.{rules}
use Rattle.core_term.proofs.NameLists.{new_names}
use Rattle.delta_code.proofs.free.add_name.Goals as goal

pub returns-in_ok-push : goal.returns-in_ok-push
returns-in_ok-push c = search (rules, new_names)
