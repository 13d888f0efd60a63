-- Cores where the functions and the types that are known stand in tables of the program, and what stands round a
-- form that takes a head apart.
use Rattle.std.specs.Prelude.{ℕ, List, [], ◌∷◌, Option, Some, None, option_map}
use Rattle.std.specs.declared.boxed.Box.{Box}
use Rattle.std.specs.declared.alloc.Global.{Global}
use Rattle.stream_type.specs.StreamType.{StreamType}
use Rattle.delta_tree.specs.SyntaxTree.{Expression, Head, name_head, call_head, typed_head, Expressions}
use Rattle.core_term.specs.declared.term.Node.{Node}
use Rattle.core_term.specs.CoreTerm.{CoreTerm, CoreTerms, let_term, term_of, places_of}
use Rattle.delta_meaning.specs.KnownTypes.{names_known}
use Rattle.delta_meaning.specs.SourceBody.{function_named, number_named}
use Rattle.delta_meaning.specs.SourceMeaning.{head_type}
use Rattle.delta_meaning.specs.Elaboration.{core_at, core_of_head, core_of_arguments}
use Rattle.delta_elab.specs.declared.source.Setting.{Setting}
use Rattle.delta_elab.specs.declared.scope.Scope.{Scope}
use Rattle.delta_elab.specs.Numbering.{numbers_in, name_types_in}
use Rattle.delta_elab.specs.Sources.{sources_of}

-- the core of an expression in a setting and a scope
abbrev pub core_in : Setting → Scope → Expression → StreamType → ℕ → CoreTerm
core_in s scope e r n =
    let bs = sources_of s.functions.now in
    core_at (function_named bs) (number_named bs) (names_known s.known.now) e (numbers_in scope) (name_types_in scope) r n

-- the core of a head
abbrev pub head_in : Setting → Scope → Head → ℕ → CoreTerm
head_in s scope h n =
    let bs = sources_of s.functions.now in
    core_of_head (function_named bs) (number_named bs) (names_known s.known.now) h (numbers_in scope) (name_types_in scope) n

-- the cores of arguments of parameters with these types
abbrev pub arguments_in : Setting → Scope → Expressions → List StreamType → ℕ → CoreTerms
arguments_in s scope es ts n =
    let bs = sources_of s.functions.now in
    core_of_arguments (function_named bs) (number_named bs) (names_known s.known.now) es ts (numbers_in scope) (name_types_in scope) n

-- the type of a head
abbrev pub head_type_in : Setting → Scope → Head → StreamType
head_type_in s scope h = head_type (function_named (sources_of s.functions.now)) (names_known s.known.now) h (name_types_in scope)

-- the core of a head that isn't a name
abbrev pub bound_core : Head → CoreTerm → Option CoreTerm
bound_core (name_head at x) a = None
bound_core (call_head at f ms es) a = Some a
bound_core (typed_head at e t) a = Some a

-- a term in a `let` of z, of type s, to the core, if there is one
abbrev pub rounded : Option CoreTerm → ℕ → StreamType → CoreTerm → CoreTerm
rounded None z s e = e
rounded (Some a) z s e = let_term z s a e

-- the term of a node that may be there
abbrev pub bound_of : Option (Box Node Global) → Option CoreTerm
bound_of o = option_map (λ n. term_of n.value) o

-- the place of the `let` and those of the node, if there is one
abbrev pub bound_places : ℕ → Option (Box Node Global) → List ℕ
bound_places at None = []
bound_places at (Some n) = at ∷ places_of n.value
