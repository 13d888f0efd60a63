-- What is read in turn.
use Rattle.delta_tree.specs.Tree.{hist_of}
use Rattle.delta_parse.specs.Terminals.{plains}
use Rattle.delta_parse.proofs.InTurn.{reads_is, read_so, then, made, stops, before_reads}
use Rattle.delta_parse.proofs.Flat as flat
use Rattle.delta_parse.proofs.forms_done.read_braces.Goals as goal

pub returns-in-Err : goal.returns-in-Err
returns-in-Err c = reads_is (flat.braces_flat (plains c.args.tokens.now)) (stops _ c.in-Err.ensures)

pub returns-in-Err-followed_by : goal.returns-in-Err-followed_by
returns-in-Err-followed_by c = reads_is (flat.braces_flat (plains c.args.tokens.now)) (then _ c.in-Ok.ensures (stops _ (before_reads hist_of c.in-Err-followed_by.ensures (read_so c.read_history.ensures.given c.read_history.ensures.shorter))))

pub returns-in-Ok-followed_by : goal.returns-in-Ok-followed_by
returns-in-Ok-followed_by c = reads_is (flat.braces_flat (plains c.args.tokens.now)) (then _ c.in-Ok.ensures (made _ (before_reads hist_of c.in-Ok-followed_by.ensures (read_so c.read_history.ensures.given c.read_history.ensures.shorter)) c.whole.ensures))
