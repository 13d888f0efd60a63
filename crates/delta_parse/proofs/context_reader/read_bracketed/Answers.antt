-- The parameters in their brackets.
use Rattle.delta_tree.specs.Tree.{context_of}
use Rattle.delta_parse.specs.Terminals.{plains}
use Rattle.delta_parse.proofs.InTurn.{reads_is, then, stops, at_once, before_reads}
use Rattle.delta_parse.proofs.FlatContexts as flat
use Rattle.delta_parse.proofs.context_reader.read_bracketed.Goals as goal

pub returns-in-Err : goal.returns-in-Err
returns-in-Err c = reads_is (flat.parameters_flat (plains c.args.tokens.now)) (stops _ c.in-Err.ensures)

pub returns-in-Some : goal.returns-in-Some
returns-in-Some c = reads_is (flat.parameters_flat (plains c.args.tokens.now)) (then _ c.in-Ok.ensures (at_once c.in-Some.ensures.shorter (flat.inside_none _ _ _ c.in-Some.ensures.some c.in-Some.ensures.kind)))

pub returns-in-None : goal.returns-in-None
returns-in-None c = reads_is (flat.parameters_flat (plains c.args.tokens.now)) (then _ c.in-Ok.ensures (reads_is (flat.inside_some _ c.in-None.ensures.none) (before_reads context_of c.followed_by.ensures c.read_context.ensures)))
