-- Functions with their types, as the program keeps them: what the definition calls the meant form of a function.
use Rattle.std.specs.Prelude.{ℕ, List, [], map, Option, Some, None, slice_index_or}
use Rattle.std.specs.Borrow.{Bor}
use Rattle.stream_type.specs.StreamType.{StreamType, type_of, eps}
use Rattle.bunch.specs.BunchTree.{tree_of}
use Rattle.delta_tree.specs.Tree.{expression_of}
use Rattle.core_term.specs.CoreTerm.{typed_names_of, leaf_types}
use Rattle.delta_meaning.specs.KnownTypes.{names_known}
use Rattle.delta_meaning.specs.SourceBody.{SourceBody}
use Rattle.delta_elab.specs.declared.source.Source.{Source}

-- the function that one of the program stands for
abbrev pub source_of : Source → SourceBody
source_of s = record {
  name = s.name.0;
  type_names = names_known s.known.now;
  past = typed_names_of s.past.items;
  params = tree_of s.params;
  result = type_of s.result;
  body = expression_of s.body.now;
}

abbrev pub sources_of : List Source → List SourceBody
sources_of ss = map source_of ss

-- the types of a function's parameters; where there is no function there are none
abbrev pub param_types : Option (Bor Source) → List StreamType
param_types None = []
param_types (Some s) = leaf_types (tree_of s.now.params)

-- the type in turn, or `eps` past the last
abbrev pub type_in_turn : List StreamType → ℕ → StreamType
type_in_turn ts i = slice_index_or ts i eps

-- the names of entries
abbrev pub names_of : {A : Type 0} → List (ℕ × A) → List ℕ
names_of es = map (λ e. e.0) es
