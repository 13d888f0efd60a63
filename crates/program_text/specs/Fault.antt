-- The refusals that faults of tokens and of grammar stand for.
use Rattle.std.specs.Prelude.{ℕ}
use Rattle.delta_lex.specs.declared.fault.LexFault.{LexFault}
use Rattle.delta_lex.specs.declared.fault.LexFault.TheVariants as lex
use Rattle.delta_lex.specs.Tokens.{longest}
use Rattle.delta_parse.specs.declared.fault.ParseFault.{ParseFault}
use Rattle.delta_parse.specs.declared.fault.ParseFault.TheVariants as parse
use Rattle.program_refusal.specs.declared.refusal.RefusalName.{RefusalName}
use Rattle.program_refusal.specs.declared.refusal.RefusalName.TheVariants.{LongText, BadUtf8, BadChar, BigNumber, Deep, Expected, Twice, Many, NoMain}
use Rattle.program_text.specs.declared.fault.TextFault.{TextFault}
use Rattle.program_text.specs.declared.fault.TextFault.TheVariants.{Memory, Refused}

abbrev pub refused_for : RefusalName → ℕ → TextFault
refused_for name at = Refused (record { name = name; at = at })

-- a text that is too long is refused behind the last byte that it may have
abbrev pub of_tokens : LexFault → TextFault
of_tokens lex.Memory = Memory
of_tokens lex.LongText = refused_for LongText longest
of_tokens (lex.BadUtf8 at) = refused_for BadUtf8 at
of_tokens (lex.BadChar at) = refused_for BadChar at
of_tokens (lex.BigNumber at) = refused_for BigNumber at

abbrev pub of_grammar : ParseFault → TextFault
of_grammar parse.Memory = Memory
of_grammar (parse.Deep at) = refused_for Deep at
of_grammar (parse.Expected at) = refused_for Expected at
of_grammar (parse.Twice at) = refused_for Twice at
of_grammar (parse.Many at) = refused_for Many at
of_grammar (parse.NoMain at) = refused_for NoMain at
