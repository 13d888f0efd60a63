-- A text has the tokens into which it divides, and their tree can be printed and read again.
use Rattle.std.specs.Str.{chars}
use Rattle.delta_lex.proofs.Divisions.{read_divides}
use Rattle.delta_print.proofs.ParsedTrees.{parsed_is_read}
use Rattle.commands.proofs.laws.printed_is_read.Goals as goal

pub returns : goal.returns
returns c text p is =
    parsed_is_read text is.tokens p is.are_its.is_text.utf8 (read_divides 0 0 (chars text) is.tokens is.are_its.read) is.belongs.is_tree
