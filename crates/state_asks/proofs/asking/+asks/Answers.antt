-- Where no function is, a call asks nothing.
use Rattle.std.proofs.Common.{sym, arith}
use Rattle.template_state.specs.Templates.{bodies_in}
use Rattle.machine_parts.proofs.Entering.{missing_is}
use Rattle.delta_code.specs.Steps.{funs_of}
use Rattle.state_asks.proofs.AskedInTurn.{asks_none, asks_same}
use Rattle.state_asks.proofs.AskedCalls.{missing_asks}
use Rattle.state_asks.proofs.asking.+asks.Goals as goal

pub add_called-returns-in_default : goal.add_called-returns-in_default
add_called-returns-in_default t c =
    asks_same (sym (missing_asks (funs_of c.args.code.now) c.args.f c.args.k _ _ (missing_is (bodies_in c.args.code.now) c.args.f c.in_default.ensures.none) (omega (arith, c.requires)))) (asks_none c.args.found.now.items)
