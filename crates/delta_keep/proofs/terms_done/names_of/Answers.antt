-- Each form begins with its number.
use Rattle.std.proofs.Common.{◌≡◌, refl, arith}
use Rattle.delta_keep.proofs.Pieces.{names_fit}
use Rattle.delta_keep.proofs.terms_done.names_of.Goals as goal

pub returns-in-11 : goal.returns-in-11
returns-in-11 c = record { bytes = rw c.in-11.is refl; sizes = names_fit }

pub returns-in_default : goal.returns-in_default
returns-in_default c =
    let last : c.args.n ≡ 12 = grind arith in
    record { bytes = rw last refl; sizes = names_fit }
