-- What is read in turn.
use Rattle.delta_parse.specs.Terminals.{plains}
use Rattle.delta_parse.proofs.InTurn.{reads_is, found}
use Rattle.delta_parse.proofs.FlatDeclarations as flat
use Rattle.delta_parse.proofs.declaration_reader.read_declaration.Goals as goal

pub returns-then-starts_with : goal.returns-then-starts_with
returns-then-starts_with c = reads_is (flat.declaration_alias (plains c.args.tokens.now) (found c.starts_with.ensures.value c.if-starts_with.true)) c.read_alias.ensures

pub returns : goal.returns
returns c = reads_is (flat.declaration_function (plains c.args.tokens.now) (found c.starts_with.ensures.value c.if-starts_with.false)) c.read_function.ensures
