-- Each form begins with its number.
use Rattle.std.proofs.Common.{◌≡◌, refl, arith}
use Rattle.delta_keep.proofs.exprs_done.two_of.Goals as goal

pub returns-in-4 : goal.returns-in-4
returns-in-4 c = record { bytes = rw c.in-4.is refl; sizes = λ f. f }

pub returns-in_default : goal.returns-in_default
returns-in_default c =
    let last : c.args.n ≡ 11 = grind arith in
    record { bytes = rw last refl; sizes = λ f. f }
