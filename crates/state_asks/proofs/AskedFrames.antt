-- What is held and what comes behind it, as entries; and the body of a frame on entries for its parameters.
use Rattle.std.proofs.Common.{◌≡◌, ◌∙◌, ℕ, List, map, ap, ap₂, sym}
use Rattle.stream_type.specs.StreamType.{StreamType}
use Rattle.stream_prefix.specs.StreamPrefix.{StreamPrefix, eps_emp}
use Rattle.bunch.specs.Names.{value_at}
use Rattle.core_term.specs.CoreTerm.{CoreBody}
use Rattle.core_term.specs.Environment.{Environment, NameTypes}
use Rattle.delta_state.specs.StateTree.{HeldName, StateTree, ArgumentTrees, argument_names}
use Rattle.delta_state.specs.StateMeaning.{types_held, prefixes_held, with_held, types_of_arguments, run_arguments}
use Rattle.delta_state.specs.Rest.{held_more}
use Rattle.machine_parts.specs.declared.entry.Entry.{Entry}
use Rattle.machine_parts.specs.Entry.{entry_in}
use Rattle.machine_parts.specs.Parameters.{parameters}
use Rattle.machine_parts.proofs.HeldAndComing.{prefixes_more, types_framed, prefixes_framed}
use Rattle.other_numbers.specs.StateAsked.{asked_of}

-- what came on a name in all, where the entries have it
pub came_in_all : (held : List HeldName) (env : Environment) (entries there : List Entry) (z : ℕ) {p : StreamPrefix} → map entry_in entries ≡ held_more held env → there ≡ entries → p ≡ prefixes_held (map entry_in there) z → with_held held env z ≡ p
came_in_all held env entries there z e d h =
    sym (h ∙ (ap (λ (l : List Entry). prefixes_held (map entry_in l) z) d ∙ (ap (λ (l : List HeldName). prefixes_held l z) e ∙ ap (λ (g : Environment). g z) (prefixes_more held env))))

-- what the body of a frame asks on entries for its parameters
pub body_asks : (funs : ℕ → CoreBody) (args : ArgumentTrees) (types : NameTypes) (env : Environment) (es : List HeldName) (s : StateTree) (r : StreamType) → es ≡ parameters args (run_arguments funs args types env).outs
    → asked_of funs s (types_held es) r (prefixes_held es) ≡ asked_of funs s (types_of_arguments args) r (value_at eps_emp (argument_names args) (run_arguments funs args types env).outs)
body_asks funs args types env es s r e =
    ap₂ (λ (t : NameTypes) (d : Environment). asked_of funs s t r d) (ap types_held e ∙ types_framed funs args types env) (ap prefixes_held e ∙ prefixes_framed args (run_arguments funs args types env).outs)
