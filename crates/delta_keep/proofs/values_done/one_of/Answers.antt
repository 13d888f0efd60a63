-- Each form begins with its number.
use Rattle.std.proofs.Common.{◌≡◌, refl, arith}
use Rattle.delta_keep.proofs.values_done.one_of.Goals as goal

pub returns-in-3 : goal.returns-in-3
returns-in-3 c = record { bytes = rw c.in-3.is refl; sizes = λ f. f }

pub returns-in_default : goal.returns-in_default
returns-in_default c =
    let last : c.args.n ≡ 4 = grind arith in
    record { bytes = rw last refl; sizes = λ f. f }
