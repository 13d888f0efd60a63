-- What is wrong first where no mark and no name is wrong before.
use Rattle.std.proofs.Common.{None, Some}
use Rattle.delta_parse.specs.declared.whole_reader.Stop.TheVariants as stops
use Rattle.delta_parse.specs.Terminals.{plains}
use Rattle.delta_parse.specs.Programs.{StopsAt}
use Rattle.delta_parse.specs.Causes.{IsFirstCut}
use Rattle.delta_parse.proofs.Firsts.{whole_stops, whole_no_main}
use Rattle.delta_parse.proofs.checked_reader.read_checked.Goals as goal

pub returns-in-Err-Misfit-clause-complaint : goal.returns-in-Err-Misfit-clause-complaint
returns-in-Err-Misfit-clause-complaint c =
    let ts = plains c.args.tokens.now in
    let found : IsFirstCut ts c.in_ok-cut.field-0 = c.in_ok-cut.ensures in
    let uncut : IsFirstCut ts None = (rw c.in_default.is at found) in
    let stop : StopsAt ts c.in-Err-Misfit.field-0 = c.in-Err-Misfit.ensures.stopped in
    let here : StopsAt ts (stops.Misfit c.in-Err-Misfit.left) = (rw c.in-Err-Misfit.field-0-is at stop) in
    whole_stops c.args.tokens.now c.in-Err-Misfit.left uncut.0 uncut.1 here

pub returns-in-Err-NoMain-clause-complaint : goal.returns-in-Err-NoMain-clause-complaint
returns-in-Err-NoMain-clause-complaint c =
    let ts = plains c.args.tokens.now in
    let found : IsFirstCut ts c.in_ok-cut.field-0 = c.in_ok-cut.ensures in
    let uncut : IsFirstCut ts None = (rw c.in_default.is at found) in
    let stop : StopsAt ts c.in-Err-NoMain.field-0 = c.in-Err-NoMain.ensures.stopped in
    let here : StopsAt ts stops.NoMain = (rw c.in-Err-NoMain.field-0-is at stop) in
    whole_no_main c.args.tokens.now uncut.0 uncut.1 here

pub read_front-requires-clause-cut : goal.read_front-requires-clause-cut
read_front-requires-clause-cut c =
    let ts = plains c.args.tokens.now in
    let found : IsFirstCut ts c.in_ok-cut.field-0 = c.in_ok-cut.ensures in
    let cut : IsFirstCut ts (Some (c.in-Some.cut, c.in-Some.last)) = (rw c.in-Some.is at found) in
    cut.0

pub read_front-requires-clause-last : goal.read_front-requires-clause-last
read_front-requires-clause-last c =
    let ts = plains c.args.tokens.now in
    let found : IsFirstCut ts c.in_ok-cut.field-0 = c.in_ok-cut.ensures in
    let cut : IsFirstCut ts (Some (c.in-Some.cut, c.in-Some.last)) = (rw c.in-Some.is at found) in
    cut.1

pub returns-in-Some-clause-complaint : goal.returns-in-Some-clause-complaint
returns-in-Some-clause-complaint c = c.read_front.ensures

pub returns-in-Ok-clause-shallow : goal.returns-in-Ok-clause-shallow
returns-in-Ok-clause-shallow c =
    let ts = plains c.args.tokens.now in
    let found : IsFirstCut ts c.in_ok-cut.field-0 = c.in_ok-cut.ensures in
    let uncut : IsFirstCut ts None = (rw c.in_default.is at found) in
    uncut.0

pub returns-in-Ok-clause-named : goal.returns-in-Ok-clause-named
returns-in-Ok-clause-named c =
    let ts = plains c.args.tokens.now in
    let found : IsFirstCut ts c.in_ok-cut.field-0 = c.in_ok-cut.ensures in
    let uncut : IsFirstCut ts None = (rw c.in_default.is at found) in
    uncut.1
