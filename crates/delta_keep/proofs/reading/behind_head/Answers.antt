-- There are four of them.
use Rattle.std.proofs.Common.{[], ◌∷◌, ap, sym, subst, drop}
use Rattle.std.specs.Prelude.{⊤}
use Rattle.kept_state.specs.KeptForm.{exactly}
use Rattle.delta_keep.specs.Reads.{Read}
use Rattle.delta_keep.proofs.reading.behind_head.Goals as goal

pub returns-in-Ok : goal.returns-in-Ok
returns-in-Ok c =
    let four = ap (λ bs. drop 4 bs) c.in-Ok.ensures.reads.spelled in
    record { reads = subst (λ r. Read (exactly 0x44 ∷ exactly 0x53 ∷ exactly 0x54 ∷ exactly 0x01 ∷ []) c.args.bytes.now (0x44 ∷ 0x53 ∷ 0x54 ∷ 0x01 ∷ []) r ⊤) (sym four) c.in-Ok.ensures.reads }
