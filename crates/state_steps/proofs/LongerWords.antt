-- A word of a type with one event more.
use Rattle.std.proofs.Common.{◌≡◌, ◌∙◌, List, [], ◌∷◌, ◌++◌, ap, subst, sym}
use Rattle.stream_type.specs.StreamType.{StreamType}
use Rattle.stream_prefix.specs.StreamPrefix.{der, join}
use Rattle.stream_prefix.proofs.Derivations.{Derives}
use Rattle.event_word.specs.Admits.{Admits}
use Rattle.event_word.specs.StreamEvent.{StreamEvent}
use Rattle.event_word.specs.Word.{one_of, after_word, IsWord, pre}
use Rattle.event_word.proofs.Words.{one_of_derives, after_word-pre, word_push, pre-push}

module _ (S : StreamType) (w : List StreamEvent) (x : StreamEvent) (word : IsWord S w) (admits : Admits (after_word w S) x) where
  -- an event that is admitted after a word is a prefix of what is left,
  pub event_follows : Derives (der (pre S w) S) (one_of x (after_word w S))
  event_follows = subst (λ t. Derives t (one_of x (after_word w S))) (after_word-pre S w word) (one_of_derives (after_word w S) x admits)

  -- the word with it is a word,
  pub word_with_event : IsWord S (w ++ x ∷ [])
  word_with_event = word_push S w x word (subst (λ t. Admits t x) (after_word-pre S w word) admits)

  -- which is what the word is and then what the event is
  pub prefix_with_event : pre S (w ++ x ∷ []) ≡ join (pre S w) (one_of x (after_word w S))
  prefix_with_event =
      let e = after_word-pre S w word in
      pre-push S w x word (subst (λ t. Admits t x) e admits) ∙ ap (λ t. join (pre S w) (one_of x t)) (sym e)
