-- The value is laid on what is made of it, which is put behind the others.
use Rattle.std.proofs.Common.{refl}
use Rattle.state_shapes.specs.RegisterLists.{lists_in}
use Rattle.state_shapes.proofs.Growing.{no_memory, longer_still}
use Rattle.learned_table.proofs.EnvironmentNumbers.{entry_behind}
use Rattle.learned_table.proofs.laying.name_goes.Goals as goal

pub returns-in-Ok : goal.returns-in-Ok
returns-in-Ok c =
    record {
      grown = c.value_goes-before.ensures.grown;
      went = λ p e. refl;
      holds = λ p e x k. entry_behind c.args.seen.now.items c.put_behind.new.seen.items c.args.name c.in-Ok.made _ (c.put_behind.ensures e).1 (c.value_goes-before.ensures.holds p (c.put_behind.ensures e).0 x k);
    }

pub returns-in-Err : goal.returns-in-Err
returns-in-Err c = no_memory _ (longer_still (lists_in c.args.found.now))
