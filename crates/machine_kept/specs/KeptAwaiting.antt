-- What is awaited of a program's input where a run goes on from a kept state: a tree of the shape of main's bunch
-- over the types that are left, with the marks that have come.
--
-- Choices that are not obvious:
-- - What stands left of a mark that has come stays in the tree, since the code of a state may still name it. Its
--   types are null.
use Rattle.std.specs.Prelude.{Bool, true, false, List, [], ◌∷◌}
use Rattle.stream_type.specs.StreamType.{StreamType, eps, par, cat}
use Rattle.bunch.specs.BunchTree.{BunchTree, empty, leaf, comma, semi}
use Rattle.core_term.specs.CoreTerm.{CoreProgram}
use Rattle.core_term.specs.Environment.{NameTypes}
use Rattle.machine_parts.specs.AwaitedTree.{AwaitedTree, nothing_awaited, stream_awaited, both_awaited, turns_awaited}
use Rattle.kept_state.specs.KeptTree.{KeptTree}
use Rattle.kept_state.specs.KeptPlace.{first_cuts, second_cuts}
use Rattle.kept_state.specs.KeptTyping.{types_kept}

-- what is awaited of a bunch where these types are left of its names and these marks have come
abbrev pub awaited_left : BunchTree → NameTypes → List Bool → AwaitedTree
awaited_left empty types cuts = nothing_awaited
awaited_left (leaf x t) types cuts = stream_awaited x (types x)
awaited_left (comma a b) types cuts = both_awaited (awaited_left a types (first_cuts a cuts)) (awaited_left b types (second_cuts a cuts))
awaited_left (semi a b) types [] = nothing_awaited
awaited_left (semi a b) types (cut ∷ cuts) = turns_awaited cut (awaited_left a types (first_cuts a cuts)) (awaited_left b types (second_cuts a cuts))

-- what is awaited where a run goes on from a kept state
abbrev pub awaited_kept : CoreProgram → KeptTree → AwaitedTree
awaited_kept c k = awaited_left c.main.params (types_kept c k) k.cuts

-- the type of all that is awaited
abbrev pub awaited_type : AwaitedTree → StreamType
awaited_type nothing_awaited = eps
awaited_type (stream_awaited x t) = t
awaited_type (both_awaited a b) = par (awaited_type a) (awaited_type b)
awaited_type (turns_awaited true a b) = awaited_type b
awaited_type (turns_awaited false a b) = cat (awaited_type a) (awaited_type b)
