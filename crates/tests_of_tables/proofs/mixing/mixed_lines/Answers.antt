-- Both words are words of a column, and stand side by side.
use Rattle.std.proofs.Common.{◌≡◌, [], ◌∷◌, ap₂, ◌∙◌, sym, subst}
use Rattle.stream_type.specs.StreamType.{StreamType, type_of, int, par, star}
use Rattle.table_feed.specs.Mixing.{AreWords}
use Rattle.tests_of_tables.proofs.mixing.mixed_lines.Goals as goal

pub mixed-requires-clause-words : goal.mixed-requires-clause-words
mixed-requires-clause-words c =
    let kind : type_of c.in_ok-both.both ≡ par (star int) (star int) = c.in_ok-both.ensures ∙ ap₂ par (c.in_ok-copy.ensures ∙ c.in_ok-column.ensures) c.in_ok-star.ensures in
    subst (λ (s : StreamType). AreWords s (c.in_ok-word_of.field-0.items ∷ c.in_ok-word_of-2.field-0.items ∷ [])) (sym kind) (c.in_ok-word_of.ensures, c.in_ok-word_of-2.ensures)
