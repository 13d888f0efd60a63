-- The table is the one in the file.
use Rattle.std.proofs.Common.{List, ℕ, [], ◌∷◌, ◌∙◌, ap, refl}
use Rattle.event_word.specs.StreamEvent.{StreamEvent}
use Rattle.table_feed.proofs.Values.{if_ok_both}
use Rattle.commands.proofs.reading.read_word.Goals as goal

pub returns-in-Ok-clause-word : goal.returns-in-Ok-clause-word
returns-in-Ok-clause-word g c =
    if_ok_both c.word_of.result _ _ _
    (λ word is good. record {
      tables = c.deref.result.now ∷ [];
      held = λ files tells. ap (λ (bytes : List ℕ). bytes ∷ []) (c.deref.ensures.value ∙ c.in-Ok.ensures.bytes files tells);
      count = refl;
      good = good;
      are = ap (λ (w : List StreamEvent). w ∷ []) is;
    })
    c.word_of.ensures.word c.word_of.ensures.good
