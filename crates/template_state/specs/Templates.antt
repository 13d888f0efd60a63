-- What the code of a program stands for.
use Rattle.std.specs.Prelude.{List, map}
use Rattle.stream_type.specs.StreamType.{type_of}
use Rattle.bunch.specs.BunchTree.{tree_of}
use Rattle.core_term.specs.CoreTerm.{CoreBody, typed_names_of}
use Rattle.template_state.specs.declared.code.Template.{Template}
use Rattle.template_state.specs.declared.code.Code.{Code}
use Rattle.template_state.specs.Readers.{op_term}

-- the body that a template stands for
abbrev pub body_in : Template → CoreBody
body_in t = record { past = typed_names_of t.past.items; params = tree_of t.params; result = type_of t.result; body = op_term t.body.value }

-- the functions of a program, by number
abbrev pub bodies_in : Code → List CoreBody
bodies_in c = map body_in c.funs.items
