-- A state that went on is put into a simpler form, or it stopped.
use Rattle.std.proofs.Common.{◌∙◌, ap, subst}
use Rattle.std.specs.Prelude.{Result}
use Rattle.stream_type.specs.StreamType.{type_of}
use Rattle.stream_prefix.specs.declared.prefix.Prefix.{Prefix}
use Rattle.stream_prefix.specs.StreamPrefix.{der}
use Rattle.stream_prefix.specs.Tree.{prefix_of}
use Rattle.machine_parts.specs.declared.stop.Stop.{Stop}
use Rattle.template_state.specs.Readers.{state_in}
use Rattle.delta_code.specs.declared.told.Told.{Told}
use Rattle.delta_code.specs.GoesOn.{GoesOn}
use Rattle.delta_code.proofs.SideBySide.{goes_right, goes_wrong}
use Rattle.delta_code.proofs.beside.settled.Goals as goal

pub returns-in-Ok-put_right : goal.returns-in-Ok-put_right
returns-in-Ok-put_right c x s n l h =
    let before = type_of c.args.output.now in
    let put = c.in-Ok-put_right.ensures in
    goes_right c.in-Ok.told x s (state_in c.args.state.now) (state_in c.put_right.new.state) before (type_of c.put_right.new.output) n l
    (subst (λ (q : Result Told Stop). GoesOn q x s (state_in c.args.state.now) n l) c.in-Ok.is h)
    (put.output ∙ ap (λ (p : Prefix). der (prefix_of p) before) c.deref.ensures)
    put.state

pub returns-in-Err : goal.returns-in-Err
returns-in-Err c x s n l h = goes_wrong (subst (λ (q : Result Told Stop). GoesOn q x s (state_in c.args.state.now) n l) c.in-Err.is h)
