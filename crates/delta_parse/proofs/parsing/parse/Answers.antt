use Rattle.std.proofs.Common.{◌≡◌, ◌≤◌, length, arith}
use Rattle.std.proofs.lemmas.List.{length-map}
use Rattle.delta_lex.specs.Tokens.{lexeme_of, lexemes}
use Rattle.delta_parse.proofs.Shorts.{short}
use Rattle.delta_parse.proofs.parsing.parse.Goals as goal

pub plain_tokens-requires : goal.plain_tokens-requires
plain_tokens-requires c =
    let few = (short (lexemes c.args.tokens.now) c.requires).few in
    let count : length (lexemes c.args.tokens.now) ≡ length c.args.tokens.now = length-map c.args.tokens.now lexeme_of in
    omega arith

pub program-requires : goal.program-requires
program-requires c =
    let few = (short (lexemes c.args.tokens.now) c.requires).few in
    let count : length (lexemes c.args.tokens.now) ≡ length c.args.tokens.now = length-map c.args.tokens.now lexeme_of in
    let names : length c.in_ok-plain.names.items ≤ length c.args.tokens.now = c.in_ok-plain.ensures.few in
    omega arith

pub fault_of-requires-clause-short : goal.fault_of-requires-clause-short
fault_of-requires-clause-short c = short (lexemes c.args.tokens.now) c.requires
