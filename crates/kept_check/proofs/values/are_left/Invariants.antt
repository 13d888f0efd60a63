-- What is held of each name seen is a prefix of its type from before, and leaves its type.
use Rattle.std.proofs.Common.{◌≡◌, take}
use Rattle.std.specs.Prelude.{Some}
use Rattle.std.specs.List.{All}
use Rattle.stream_prefix.specs.StreamPrefix.{der, IsPrefix}
use Rattle.delta_check.specs.Scopes.{context_in}
use Rattle.delta_keep.specs.KeptView.{held_of}
use Rattle.kept_check.proofs.values.are_left.Given as goal

abbrev pub invariant-loop-entry : goal.invariant-loop-entry
invariant-loop-entry l =
    All (λ e. IsPrefix (held_of e).type (held_of e).prefix × ((context_in l.scope).types e.name.0 ≡ Some (der (held_of e).prefix (held_of e).type))) (take l.entry-index l.held)
