-- Each form begins with its number.
use Rattle.std.proofs.Common.{◌≡◌, refl, arith}
use Rattle.delta_keep.proofs.terms_done.one_of.Goals as goal

pub returns-in-6 : goal.returns-in-6
returns-in-6 c = record { bytes = rw c.in-6.is refl; sizes = λ f. f }

pub returns-in_default : goal.returns-in_default
returns-in_default c =
    let last : c.args.n ≡ 7 = grind arith in
    record { bytes = rw last refl; sizes = λ f. f }
