-- The names are joined.
use Rattle.std.proofs.Common.{◌∙◌, ◌||◌, ◌&&◌, not, ap, sym, subst}
use Rattle.std.specs.Prelude.{Result, IfOk}
use Rattle.std.specs.declared.vec.Vec.{Vec}
use Rattle.std.specs.declared.alloc.Global.{Global}
use Rattle.stream_type.specs.declared.memory.Memory.{Memory}
use Rattle.bunch.specs.declared.name.Name.{Name}
use Rattle.bunch.specs.Names.{holds, numbers_of}
use Rattle.kept_check.specs.Free.{HasNames}
use Rattle.kept_check.proofs.FreeLists.{holds-joined}
use Rattle.kept_check.proofs.free.beside.Goals as goal

pub returns : goal.returns
returns c = λ xs h x.
    let first = subst (λ (q : Result (Vec Name Global) Memory). IfOk q (λ w. HasNames w.items xs)) c.in_ok-names.was h in
    let more = numbers_of c.args.more.now in
    let less = numbers_of c.args.less.now in
    c.in_ok-add_less.ensures x ∙ ap (λ b. b || (holds x more && not (holds x less))) (first x) ∙ sym (holds-joined x xs less more)
