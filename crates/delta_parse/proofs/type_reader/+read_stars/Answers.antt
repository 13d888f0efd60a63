-- One star more, or none.
use Rattle.std.proofs.Common.{arith}
use Rattle.delta_parse.proofs.InTurn.{reads_is, at_once, refused}
use Rattle.delta_parse.proofs.FlatTypes as flat
use Rattle.delta_parse.proofs.type_reader.+read_stars.Goals as goal

pub returns-in-None : goal.returns-in-None
returns-in-None t c n l = at_once l (flat.stars_none _ _ _ c.in-None.ensures.none)

pub returns-in-Ok : goal.returns-in-Ok
returns-in-Ok t c n l =
    let s = c.in-Some.ensures.shorter in
    reads_is (flat.stars_more _ _ _ _ _ c.in-Some.ensures.some c.in-Some.ensures.kind) (rw c.in-Ok.ensures at (c.read_stars.ensures n (omega (arith, s, l))))

pub returns-in-Err : goal.returns-in-Err
returns-in-Err t c n l = refused
