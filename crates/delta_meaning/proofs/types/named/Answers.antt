-- The last entry with the name is that of the table, and one that isn't there counts as `eps`.
use Rattle.std.proofs.Common.{◌≡◌, IfOk, sym, ◌∙◌, subst}
use Rattle.stream_type.specs.StreamType.{StreamType, type_of}
use Rattle.delta_meaning.proofs.KnownNames.{type_at_known}
use Rattle.delta_meaning.proofs.types.named.Goals as goal

pub returns : goal.returns
returns c =
    subst (λ (z : StreamType). IfOk c.copy.result (λ r. type_of r ≡ z)) (c.last_at.ensures ∙ sym (type_at_known c.args.known.now c.args.x.0)) c.copy.ensures
