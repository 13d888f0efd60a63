use Rattle.std.proofs.Common.{◌≡◌, ℕ, zero, suc, ◌<◌, take, refl, arith}
use Rattle.delta_parse.specs.declared.whole_reader.Stop.TheVariants as stops
use Rattle.delta_parse.specs.Terminals.{plains}
use Rattle.delta_parse.specs.Programs.{StopsAt}
use Rattle.delta_parse.proofs.Firsts.{front_begins, front_ends, front_stops}
use Rattle.delta_parse.proofs.checked_reader.read_front.Goals as goal

-- what isn't none is some
some_left : (n : ℕ) → (n ≡ 0 → ⊥) → 0 < n
some_left zero f = absurd (f refl)
some_left (suc n) f = omega arith

pub returns-in-None : goal.returns-in-None
returns-in-None c = c.requires.last (front_begins c.args.tokens.now c.args.cut c.in-None.ensures.none)

pub returns-in-Some-NoMain : goal.returns-in-Some-NoMain
returns-in-Some-NoMain c =
    let us = plains (take c.args.cut c.args.tokens.now) in
    let stop : StopsAt us c.in-Some-NoMain.field-0 = c.in-Some-NoMain.ensures.some in
    let no_main : StopsAt us stops.NoMain = (rw c.in-Some-NoMain.field-0-is at stop) in
    c.requires.last (front_begins c.args.tokens.now c.args.cut no_main.1)

pub returns-in-Some-Misfit : goal.returns-in-Some-Misfit
returns-in-Some-Misfit c =
    let us = plains (take c.args.cut c.args.tokens.now) in
    let stop : StopsAt us c.in-Some-Misfit.field-0 = c.in-Some-Misfit.ensures.some in
    let here : StopsAt us (stops.Misfit c.in-Some-Misfit.left) = (rw c.in-Some-Misfit.field-0-is at stop) in
    front_stops c.args.tokens.now c.args.cut c.in-Some-Misfit.left c.requires.cut (some_left c.in-Some-Misfit.left c.in-Some-Misfit.left-test.1) here

pub returns-in-Some-Misfit-eq0 : goal.returns-in-Some-Misfit-eq0
returns-in-Some-Misfit-eq0 c =
    let us = plains (take c.args.cut c.args.tokens.now) in
    let stop : StopsAt us c.in-Some-Misfit-eq0.field-0 = c.in-Some-Misfit-eq0.ensures.some in
    let here : StopsAt us (stops.Misfit c.in-Some-Misfit-eq0.field-0-0) = (rw c.in-Some-Misfit-eq0.field-0-is at stop) in
    let last : StopsAt us (stops.Misfit 0) = (rw c.in-Some-Misfit-eq0.field-0-0-test at here) in
    c.requires.last (front_ends c.args.tokens.now c.args.cut last)
