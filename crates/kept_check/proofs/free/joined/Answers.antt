-- The names of both.
use Rattle.std.proofs.Common.{subst}
use Rattle.std.specs.Prelude.{Result, IfOk}
use Rattle.std.specs.declared.vec.Vec.{Vec}
use Rattle.std.specs.declared.alloc.Global.{Global}
use Rattle.std.proofs.lemmas.Result.{IfOk-weaker}
use Rattle.stream_type.specs.declared.memory.Memory.{Memory}
use Rattle.bunch.specs.declared.name.Name.{Name}
use Rattle.bunch.specs.Names.{numbers_of}
use Rattle.kept_check.specs.Free.{HasNames}
use Rattle.kept_check.proofs.FreeLists.{names_less}
use Rattle.kept_check.proofs.free.joined.Goals as goal

pub returns-in-Ok : goal.returns-in-Ok
returns-in-Ok c = λ xs zs h k.
    IfOk-weaker c.beside-all.result _ _ (λ v e. names_less v.items c.in-Ok.more.items xs (numbers_of c.args.less.now) zs e (subst (λ (q : Result (Vec Name Global) Memory). IfOk q (λ w. HasNames w.items zs)) c.in-Ok.is k))
    (rw c.deref.ensures.value at (c.beside-all.ensures xs h))
