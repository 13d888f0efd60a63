-- What a checked program stands for, and what it keeps.
use Rattle.std.specs.Prelude.{◌≡◌}
use Rattle.stream_type.specs.StreamType.{type_of}
use Rattle.bunch.specs.BunchTree.{as_type}
use Rattle.core_term.specs.declared.checked.Checked.TheInside.{Inside}
use Rattle.core_term.specs.declared.program.Core.{Core}
use Rattle.core_term.specs.CoreTerm.{core_of}
use Rattle.core_term.specs.FreeNames.{IsCore, HasFewNodes}
use Rattle.core_term.specs.Typing.{IsTypedCore}

-- the program
abbrev pub program_of : Inside → Core
program_of c = c.core

-- its names are bound once, it has few nodes, it is typed, and the input's type is that of main's parameters
pub record IsChecked (c : Inside) : Type 0 where
  pub is_core : IsCore (core_of c.core)
  pub has_few_nodes : HasFewNodes (core_of c.core)
  pub is_typed : IsTypedCore (core_of c.core)
  pub has_input : type_of c.input ≡ as_type (core_of c.core).main.params
