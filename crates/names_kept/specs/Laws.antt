-- What the laws of rewritings and names say.
--
-- Choices that are not obvious:
-- - Nothing is asked of types: a rewriting binds no new name, replaces no name in code that isn't reached, and binds
--   none twice, whatever type is left.
use Rattle.std.specs.Prelude.{ℕ, List}
use Rattle.std.specs.List.{All}
use Rattle.stream_type.specs.StreamType.{StreamType}
use Rattle.stream_prefix.specs.StreamPrefix.{StreamPrefix, IsPrefix}
use Rattle.bunch.specs.BunchTree.{leaf_names}
use Rattle.core_term.specs.CoreTerm.{CoreProgram}
use Rattle.core_term.specs.Typing.{IsTypedBody}
use Rattle.delta_state.specs.StateTree.{StateTree}
use Rattle.delta_state.specs.Stands.{input_type, StandsFor, output_left}
use Rattle.state_rewriting.specs.Rewriting.{SimplerBy}
use Rattle.kept_state.specs.KeptNames.{IsTidy}

-- a tidy state is tidy after any number of rewritings
abbrev pub SimplerIsTidy : Type 0
SimplerIsTidy = (params : List ℕ) (r : StreamType) (a b : StateTree) → IsTidy params a → SimplerBy r a b → IsTidy params b

-- a state stands for a program after p and is tidy
pub record StandsTidy (c : CoreProgram) (n : ℕ) (p : StreamPrefix) (s : StateTree) : Type 0 where
  pub stands : StandsFor c n p s
  pub tidy : IsTidy (leaf_names c.main.params) s

-- so does what it becomes by rewritings
abbrev pub SimplerStaysTidy : Type 0
SimplerStaysTidy =
    (c : CoreProgram) (n : ℕ) (p : StreamPrefix) (a b : StateTree) → All (IsTypedBody c.funs) c.funs → IsPrefix (input_type c) p → StandsTidy c n p a
    → SimplerBy (output_left c p) a b → StandsTidy c n p b
