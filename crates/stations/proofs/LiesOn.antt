-- A shape lies on a state with what was found, and with some of each kind behind.
use Rattle.std.proofs.Common.{◌≡◌, ◌<◌, Bool, true, List, [], length, Result, Ok, refl, sym}
use Rattle.std.proofs.lemmas.List.{append-nil}
use Rattle.stream_type.specs.declared.memory.Memory.{Memory}
use Rattle.delta_state.specs.StateTree.{StateTree}
use Rattle.state_shapes.specs.RegisterLists.{RegisterLists, IsParallel, Longer}
use Rattle.state_shapes.specs.From.{state_from}
use Rattle.state_shapes.proofs.Growing.{parallel_longer}
use Rattle.stations.specs.Lies.{Lies, SomeBeside, SomeMore}

-- where it fits, and there are some behind
pub lies : (shape state : StateTree) (fits : Result Bool Memory) {l m n : RegisterLists} → IsParallel l → Longer l m → (IsParallel l → fits ≡ Ok true → (x : RegisterLists) → Longer m x → state ≡ state_from x shape)
    → SomeMore fits m n → Lies shape state n
lies shape state fits {n = n} p g h s =
    record {
      are_parallel = parallel_longer (parallel_longer p g) s.longer;
      some_numbers = s.some_numbers;
      some_depths = s.some_depths;
      is_state = h p s.went n s.longer;
    }

-- there are some of one kind
pub some_there : {A : Type 0} (keys values : List A) → 0 < length values → SomeBeside keys values keys values
some_there keys values h =
    record { more_keys = []; more = []; are_beside = refl; then_keys = sym (append-nil keys); then_values = sym (append-nil values); is_some = h }

-- there are some of both kinds
pub some_more : (before : Result Bool Memory) (l m : RegisterLists) → before ≡ Ok true → SomeBeside l.keys l.numbers m.keys m.numbers → SomeBeside l.depth_keys l.depths m.depth_keys m.depths → SomeMore before l m
some_more before l m b f g =
    record {
      went = b;
      longer =
          record {
            more = record { keys = f.more_keys; numbers = f.more; depth_keys = g.more_keys; depths = g.more };
            are_parallel = record { numbers = f.are_beside; depths = g.are_beside };
            is_behind = λ i. record { keys = f.then_keys i; numbers = f.then_values i; depth_keys = g.then_keys i; depths = g.then_values i };
          };
      some_numbers = f.is_some;
      some_depths = g.is_some;
    }
