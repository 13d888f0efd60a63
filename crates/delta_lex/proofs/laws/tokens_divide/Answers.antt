-- What is read divides so, and what divides so is read.
use Rattle.std.specs.Str.{chars}
use Rattle.delta_lex.proofs.Divisions.{read_divides, divides_read}
use Rattle.delta_lex.proofs.laws.tokens_divide.Goals as goal

pub returns : goal.returns
returns c text tokens is =
    (λ h. read_divides 0 0 (chars text) tokens h.read, λ d. record { is_text = is; read = divides_read d })
