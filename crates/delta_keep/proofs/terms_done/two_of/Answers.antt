-- Each form begins with its number.
use Rattle.std.proofs.Common.{◌≡◌, refl, arith}
use Rattle.delta_keep.proofs.terms_done.two_of.Goals as goal

pub returns-in-4 : goal.returns-in-4
returns-in-4 c = record { bytes = rw c.in-4.is refl; sizes = λ f. f }

pub returns-in-5 : goal.returns-in-5
returns-in-5 c = record { bytes = rw c.in-5.is refl; sizes = λ f. f }

pub returns-in_default : goal.returns-in_default
returns-in_default c =
    let last : c.args.n ≡ 9 = grind arith in
    record { bytes = rw last refl; sizes = λ f. f }
