-- What is held and what comes behind it, and the parameters of a frame with what comes on each: the same as
-- environments.
use Rattle.std.proofs.Common.{◌≡◌, ℕ, ◌<◌, ◌==◌, Bool, true, false, List, [], ◌∷◌, if◌then◌else◌, refl, sym, ap, ap₂, ◌∙◌, subst}
use Rattle.std.proofs.lemmas.Bool.{eqb-true}
use Rattle.stream_type.specs.StreamType.{StreamType}
use Rattle.stream_prefix.specs.StreamPrefix.{StreamPrefix, eps_emp, join}
use Rattle.bunch.specs.Names.{value_at}
use Rattle.core_term.specs.CoreTerm.{CoreBody}
use Rattle.core_term.specs.Environment.{Environment, NameTypes}
use Rattle.core_term.specs.Run.{Run, Runs, frame_run}
use Rattle.delta_state.specs.StateTree.{HeldName, StateTree, ArgumentTrees, no_arguments, argument_before, argument_names}
use Rattle.delta_state.specs.StateMeaning.{types_held, prefixes_held, with_held, types_of_arguments, run_state, run_arguments}
use Rattle.delta_state.specs.Rest.{held_more, rest_of}
use Rattle.machine_parts.specs.Levels.{below}
use Rattle.machine_parts.specs.Parameters.{parameters}
use Rattle.machine_parts.proofs.Deeper.{frame_deep_body}

more_types : (held : List HeldName) (d : Environment) (x : ℕ) → types_held (held_more held d) x ≡ types_held held x
more_types [] d x = refl
more_types (h ∷ held) d x = ap (λ t. if x == h.name then h.type else t) (more_types held d x)

more_prefixes : (held : List HeldName) (d : Environment) (x : ℕ) → prefixes_held (held_more held d) x ≡ with_held held d x
more_prefixes [] d x = refl
more_prefixes (h ∷ held) d x = go (x == h.name) refl (more_prefixes held d x)
  where
    go : (b : Bool) → (x == h.name) ≡ b → prefixes_held (held_more held d) x ≡ with_held held d x → (if b then join h.prefix (d h.name) else prefixes_held (held_more held d) x) ≡ join (if b then h.prefix else prefixes_held held x) (d x)
    go true q e = ap (λ y. join h.prefix (d y)) (sym (eqb-true x h.name q))
    go false q e = e

-- the types of what is held stay, and what comes stands behind what was held
pub types_more : (held : List HeldName) (d : Environment) → types_held (held_more held d) ≡ types_held held
types_more held d = λ i x. more_types held d x i

pub prefixes_more : (held : List HeldName) (d : Environment) → prefixes_held (held_more held d) ≡ with_held held d
prefixes_more held d = λ i x. more_prefixes held d x i

frame_types : (funs : ℕ → CoreBody) (args : ArgumentTrees) (types : NameTypes) (env : Environment) (x : ℕ) → types_held (parameters args (run_arguments funs args types env).outs) x ≡ types_of_arguments args x
frame_types funs no_arguments types env x = refl
frame_types funs (argument_before y t s args) types env x = ap (λ u. if x == y then t else u) (frame_types funs args types env x)

frame_prefixes : (args : ArgumentTrees) (ps : List StreamPrefix) (x : ℕ) → prefixes_held (parameters args ps) x ≡ value_at eps_emp (argument_names args) ps x
frame_prefixes no_arguments ps x = refl
frame_prefixes (argument_before y t s args) [] x = refl
frame_prefixes (argument_before y t s args) (p ∷ ps) x = ap (λ q. if x == y then p else q) (frame_prefixes args ps x)

-- the parameters of a frame have their types, and on each comes what its argument gives
pub types_framed : (funs : ℕ → CoreBody) (args : ArgumentTrees) (types : NameTypes) (env : Environment) → types_held (parameters args (run_arguments funs args types env).outs) ≡ types_of_arguments args
types_framed funs args types env = λ i x. frame_types funs args types env x i

pub prefixes_framed : (args : ArgumentTrees) (ps : List StreamPrefix) → prefixes_held (parameters args ps) ≡ value_at eps_emp (argument_names args) ps
prefixes_framed args ps = λ i x. frame_prefixes args ps x i

-- the body of a frame, on entries for its parameters
module _ (funs : ℕ → CoreBody) (args : ArgumentTrees) (types : NameTypes) (env : Environment) (as' : Runs) (es : List HeldName) (is : as' ≡ run_arguments funs args types env) (names : es ≡ parameters args as'.outs) (s : StateTree) (r : StreamType) where
  entries_are : es ≡ parameters args (run_arguments funs args types env).outs
  entries_are = names ∙ ap (λ (x : Runs). parameters args x.outs) is

  entry_types : types_held es ≡ types_of_arguments args
  entry_types = ap types_held entries_are ∙ types_framed funs args types env

  entry_prefixes : prefixes_held es ≡ value_at eps_emp (argument_names args) (run_arguments funs args types env).outs
  entry_prefixes = ap prefixes_held entries_are ∙ prefixes_framed args (run_arguments funs args types env).outs

  pub body_runs : run_state funs s (types_held es) r (prefixes_held es) ≡ run_state funs s (types_of_arguments args) r (value_at eps_emp (argument_names args) (run_arguments funs args types env).outs)
  body_runs = ap₂ (λ (t : NameTypes) (d : Environment). run_state funs s t r d) entry_types entry_prefixes

  pub body_rests : rest_of funs s (types_held es) r (prefixes_held es) ≡ rest_of funs s (types_of_arguments args) r (value_at eps_emp (argument_names args) (run_arguments funs args types env).outs)
  body_rests = ap₂ (λ (t : NameTypes) (d : Environment). rest_of funs s t r d) entry_types entry_prefixes

  -- a call that is too deep in the body is so in the frame
  pub body_deep : (levels m : ℕ) → m ≡ below as'.are_shut levels → m < (run_state funs s (types_held es) r (prefixes_held es)).level
      → levels < (frame_run (run_arguments funs args types env) (run_state funs s (types_of_arguments args) r (value_at eps_emp (argument_names args) (run_arguments funs args types env).outs))).level
  body_deep levels m e h =
      frame_deep_body as' (run_arguments funs args types env) (run_state funs s (types_of_arguments args) r (value_at eps_emp (argument_names args) (run_arguments funs args types env).outs)) levels m is e (subst (λ (z : Run). m < z.level) body_runs h)

-- for functions over what is held, and over frames
pub ruleset held_forms = (types_more, prefixes_more)

pub ruleset frames = (types_framed, prefixes_framed)
