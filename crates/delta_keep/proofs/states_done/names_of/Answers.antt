-- Each form begins with its number.
use Rattle.std.proofs.Common.{◌≡◌, refl, arith}
use Rattle.delta_keep.proofs.Pieces.{names_fit}
use Rattle.delta_keep.proofs.states_done.names_of.Goals as goal

pub returns-in-5 : goal.returns-in-5
returns-in-5 c = record { bytes = rw c.in-5.is refl; sizes = names_fit }

pub returns-in_default : goal.returns-in_default
returns-in_default c =
    let last : c.args.n ≡ 6 = grind arith in
    record { bytes = rw last refl; sizes = names_fit }
