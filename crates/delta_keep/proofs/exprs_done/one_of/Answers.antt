-- Each form begins with its number.
use Rattle.std.proofs.Common.{◌≡◌, refl, arith}
use Rattle.delta_keep.proofs.exprs_done.one_of.Goals as goal

pub returns-in-5 : goal.returns-in-5
returns-in-5 c = record { bytes = rw c.in-5.is refl; sizes = λ f. f }

pub returns-in-6 : goal.returns-in-6
returns-in-6 c = record { bytes = rw c.in-6.is refl; sizes = λ f. f }

pub returns-in-7 : goal.returns-in-7
returns-in-7 c = record { bytes = rw c.in-7.is refl; sizes = λ f. f }

pub returns-in_default : goal.returns-in_default
returns-in_default c =
    let last : c.args.n ≡ 8 = grind arith in
    record { bytes = rw last refl; sizes = λ f. f }
