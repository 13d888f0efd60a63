-- The command that is built is the whole one, which clap reads as simple.
use Rattle.std.proofs.Common.{◌≡◌, ◌∙◌, ap, sym, map, string_bytes, rules}
use Rattle.clap.specs.Words.{App, app_of, kind_of, fault_of, is_simple, is_simple_and_free, subcommand_of}
use Rattle.clap.specs.declared.error.kind.ErrorKind.TheVariants as kind
use Rattle.delta_words.proofs.ClapSimple.{delta_is_simple, delta_is_free, is_refused}
use Rattle.delta_words.proofs.parser.find_matches.Goals as goal

pub returns-in-Ok-try_get_matches_from-clause-taken : goal.returns-in-Ok-try_get_matches_from-clause-taken
returns-in-Ok-try_get_matches_from-clause-taken c =
    ap (λ (a : App). fault_of a (map string_bytes c.args.words.now)) (sym c.in-Ok.ensures)
    ∙ c.in-Ok-try_get_matches_from.ensures.kinds (ap is_simple_and_free c.in-Ok.ensures ∙ delta_is_free)

pub returns-in-Ok-try_get_matches_from-clause-rows : goal.returns-in-Ok-try_get_matches_from-clause-rows
returns-in-Ok-try_get_matches_from-clause-rows c =
    (c.in-Ok-try_get_matches_from.ensures.matches (ap is_simple c.in-Ok.ensures ∙ delta_is_simple)).1
    ∙ ap (λ (a : App). subcommand_of a (map string_bytes c.args.words.now)) c.in-Ok.ensures

pub returns-clause-usage : goal.returns-clause-usage
returns-clause-usage c is none =
    is_refused (app_of c.in-Ok.parser) (map string_bytes c.args.words.now) c.in-Err.error c.in-Ok.ensures c.in-Err.ensures.kinds
    (λ (memory : kind_of c.in-Err.error ≡ kind.OutOfMemory). search rules) none
