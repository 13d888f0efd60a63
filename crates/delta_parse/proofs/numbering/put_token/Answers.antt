-- The token stands behind those that were found.
use Rattle.std.proofs.Common.{◌∙◌, ◌++◌, ◌∷◌, [], ap}
use Rattle.std.proofs.lemmas.List.{map-append}
use Rattle.delta_parse.specs.Terminals.{plain_of, plains}
use Rattle.delta_parse.proofs.numbering.put_token.Goals as goal

pub returns-clause-plain : goal.returns-clause-plain
returns-clause-plain c =
    ap plains c.in_ok-push.ensures.items ∙ map-append plain_of c.args.found.now.items (c.in_ok-plain.plain ∷ []) ∙ ap (λ q. plains c.args.found.now.items ++ (q ∷ [])) c.in_ok-plain.ensures.plain

pub returns-clause-names : goal.returns-clause-names
returns-clause-names c = c.in_ok-plain.ensures.names

pub returns-clause-same : goal.returns-clause-same
returns-clause-same c = c.in_ok-plain.ensures.same
