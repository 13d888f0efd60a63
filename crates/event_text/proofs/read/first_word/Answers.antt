-- The line is cut at its first space, or at its end.
use Rattle.std.proofs.Common.{◌≡◌, ℕ, ◌∷◌, take, drop, ap, ◌∙◌, sym, arith}
use Rattle.std.specs.Prelude.{◌==◌}
use Rattle.std.specs.List.{position_or_len}
use Rattle.event_text.specs.Words.{behind}
use Rattle.event_text.proofs.Splitting.{space_found, words_cut}
use Rattle.event_text.proofs.read.first_word.Goals as goal

pub split_at-requires : goal.split_at-requires
split_at-requires c =
    let found = space_found c.args.line.now in
    let place : c.unwrap_or.result ≡ position_or_len (λ byte. byte == 32) c.args.line.now = cc (found.0, c.unwrap_or.ensures, c.first_space.ensures) in
    omega (arith, place, found.1)

pub returns-clause-words : goal.returns-clause-words
returns-clause-words c =
    let found = space_found c.args.line.now in
    let place : c.unwrap_or.result ≡ position_or_len (λ byte. byte == 32) c.args.line.now = cc (found.0, c.unwrap_or.ensures, c.first_space.ensures) in
    words_cut c.args.line.now ∙ ap (λ (n : ℕ). take n c.args.line.now ∷ behind (drop n c.args.line.now)) (sym place) ∙ cc (c.split_at.ensures.front, c.split_at.ensures.back)
