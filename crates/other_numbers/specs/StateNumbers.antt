-- Other numbers in the place of those that a state keeps: the values of historical names, and what is held. Code
-- that isn't reached stays as it is written, its literals too.
use Rattle.std.specs.Prelude.{ℤ, map}
use Rattle.delta_state.specs.StateTree.{Known, HeldName, LaterTree, StateTree, ArgumentTrees}
use Rattle.mapped_states.specs.Mapped.{mapped, mapped_arguments}
use Rattle.other_numbers.specs.Numbers.{exchanged, exchanged_value}

module _ (f : ℤ → ℤ) where
  -- a historical name with its value
  abbrev pub exchanged_known : Known → Known
  exchanged_known e = record { name = e.name; type = e.type; value = exchanged_value f e.value }

  -- a name of which something is held
  abbrev pub exchanged_held : HeldName → HeldName
  exchanged_held h = record { name = h.name; type = h.type; prefix = exchanged f h.prefix }

  -- code that isn't reached: its values alone
  abbrev pub exchanged_later : LaterTree → LaterTree
  exchanged_later l = record { term = l.term; past = map exchanged_known l.past; depth = l.depth }

  -- a state
  abbrev pub exchanged_state : StateTree → StateTree
  exchanged_state s = mapped exchanged_later (map exchanged_held) s

  -- the arguments of a call
  abbrev pub exchanged_arguments : ArgumentTrees → ArgumentTrees
  exchanged_arguments args = mapped_arguments exchanged_later (map exchanged_held) args
