-- The head of a let is gained, and the let stands round what is behind.
use Rattle.std.proofs.Common.{◌≡◌, ◌∙◌, max, false, ap, refl}
use Rattle.stream_type.specs.StreamType.{StreamType, type_of}
use Rattle.stream_prefix.specs.declared.prefix.Prefix.{Prefix}
use Rattle.stream_prefix.specs.StreamPrefix.{der}
use Rattle.stream_prefix.specs.Tree.{prefix_of}
use Rattle.core_term.specs.Run.{deeper}
use Rattle.delta_state.specs.StateTree.{let_state}
use Rattle.delta_code.specs.Begun.{run_of, rest_of}
use Rattle.delta_code.specs.Way.{within}
use Rattle.delta_code.proofs.Gains.{gained_let}
use Rattle.delta_code.proofs.way.into_let.Goals as goal

pub returns-clause-run : goal.returns-clause-run
returns-clause-run c =
    let level : c.max-way.result ≡ max c.args.way.now.level (deeper false c.args.head.level) = c.max-way.ensures ∙ ap (max c.args.way.now.level) c.in_ok-level.ensures in
    λ b. gained_let _ _ _ _ _ _ (run_of c.args.head) b c.requires.shut refl level

pub returns-clause-rest : goal.returns-clause-rest
returns-clause-rest c s =
    c.in_ok-add_let.ensures s
    ∙ ap (λ (u : StreamType). within c.args.way.now.layers (let_state c.args.x.0 u (rest_of c.args.head) s))
    (c.in_ok-ty.ensures ∙ ap (λ (p : Prefix). der (prefix_of p) (type_of c.args.t.now)) c.deref.ensures)

pub returns-clause-calls : goal.returns-clause-calls
returns-clause-calls c = refl

pub returns-clause-level : goal.returns-clause-level
returns-clause-level c = c.max-way.ensures ∙ ap (max c.args.way.now.level) c.in_ok-level.ensures

pub returns-clause-output : goal.returns-clause-output
returns-clause-output c = refl
