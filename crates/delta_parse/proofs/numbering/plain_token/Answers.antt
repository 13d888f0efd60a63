use Rattle.std.proofs.Common.{rules, ◌∙◌}
use Rattle.std.proofs.lemmas.Int.{to_z-of_z}
use Rattle.std.specs.Int.{w64}
use Rattle.delta_parse.specs.Plain.{texts_of}
use Rattle.delta_parse.proofs.Numbers.{token_made}
use Rattle.delta_parse.proofs.numbering.plain_token.Goals as goal

pub returns-clause-plain : goal.returns-clause-plain
returns-clause-plain c =
    token_made (texts_of c.args.names.now) c.args.token.now _ _ _ c.terminal.ensures c.in_ok-name.ensures.number (to_z-of_z w64 c.worth.result (search rules) ∙ c.worth.ensures.value)
