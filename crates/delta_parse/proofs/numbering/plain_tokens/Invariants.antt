use Rattle.std.proofs.Common.{◌≡◌, ◌≤◌, ◌++◌, [], map, length, drop, string_bytes}
use Rattle.delta_lex.specs.Tokens.{lexemes}
use Rattle.delta_parse.specs.Terminals.{plains}
use Rattle.delta_parse.specs.Plain.{numbered, names_from, names_in, texts_of}
use Rattle.delta_parse.proofs.numbering.plain_tokens.Given as goal

abbrev pub invariant-loop-token : goal.invariant-loop-token
invariant-loop-token l = record {
  so_far : plains l.found.items ++ numbered (texts_of l.names) (lexemes (drop l.token-index l.tokens)) ≡ numbered [] (lexemes l.tokens);
  rest : names_from (texts_of l.names) (lexemes (drop l.token-index l.tokens)) ≡ names_in (lexemes l.tokens);
  same : map string_bytes l.texts.items ≡ texts_of l.names;
  few : length (texts_of l.names) ≤ l.token-index;
}
