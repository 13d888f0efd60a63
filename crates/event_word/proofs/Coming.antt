-- How the prefix of a word grows, event by event.
use Rattle.std.proofs.Common.{◌≡◌, ℕ, ◌+◌, ◌<◌, List, [], ◌∷◌, length, get_or, drop, sym, ap, subst, ◌∙◌}
use Rattle.std.proofs.lemmas.List.{drop_more}
use Rattle.stream_type.specs.StreamType.{StreamType}
use Rattle.stream_prefix.specs.StreamPrefix.{StreamPrefix, emp, der, join, IsPrefix, Follows, follows}
use Rattle.stream_prefix.proofs.Derivations.{derives, is_prefix}
use Rattle.stream_prefix.proofs.Joins.{emp_is_prefix, join-emp, der-join, join_is_prefix, join_assoc, der-emp, join-emp-der}
use Rattle.event_word.specs.StreamEvent.{StreamEvent}
use Rattle.event_word.specs.Admits.{Admits}
use Rattle.event_word.specs.Word.{one_of, after, IsWord, pre}
use Rattle.event_word.proofs.Words.{one_of_derives, one_of_is_prefix, word_derives}

-- of a word so much came, and the rest is a word of what that left
pub record Comes (s : StreamType) (came : StreamPrefix) (rest word : List StreamEvent) : Type 0 where
  pub came_is_prefix : IsPrefix s came
  pub rest_is_word : IsWord (der came s) rest
  pub whole : join came (pre (der came s) rest) ≡ pre s word

pub comes_first : (s : StreamType) (w : List StreamEvent) → IsWord s w → Comes s (emp s) w w
comes_first s w h = record {
  came_is_prefix = is_prefix (emp_is_prefix s);
  rest_is_word = rw (der-emp s) h;
  whole = rw (der-emp s) (join-emp (word_derives s w h));
}

pub comes_next : (s : StreamType) (came : StreamPrefix) (x : StreamEvent) (rest word : List StreamEvent) → Comes s came (x ∷ rest) word → Comes s (join came (one_of x (der came s))) rest word
comes_next s came x rest word h =
    let left = der came s in
    let p = derives s came h.came_is_prefix in
    let q = one_of_derives left x h.rest_is_word.0 in
    let r = word_derives (after x left) rest h.rest_is_word.1 in
    record {
      came_is_prefix = is_prefix (join_is_prefix p q);
      rest_is_word = rw (der-join p q) h.rest_is_word.1;
      whole = rw (der-join p q) (join_assoc p q r ∙ h.whole);
    }

pub comes_last : (s : StreamType) (came : StreamPrefix) (word : List StreamEvent) → Comes s came [] word → came ≡ pre s word
comes_last s came word h = sym (join-emp-der (derives s came h.came_is_prefix)) ∙ h.whole

-- the next event is a prefix of what is left
pub comes_after : (s : StreamType) (came : StreamPrefix) (x : StreamEvent) (rest word : List StreamEvent) → Comes s came (x ∷ rest) word → Follows came (one_of x (der came s))
comes_after s came x rest word h =
    follows s h.came_is_prefix (one_of_is_prefix (der came s) x h.rest_is_word.0)

-- the type admits the next event
pub admits_next : (s : StreamType) (came : StreamPrefix) (x : StreamEvent) (rest word : List StreamEvent) → Comes s came (x ∷ rest) word → Admits (der came s) x
admits_next s came x rest word h = h.rest_is_word.0

-- what the next event leaves is left after all that came
pub leaves_next : (s : StreamType) (came : StreamPrefix) (x : StreamEvent) (rest word : List StreamEvent) → Comes s came (x ∷ rest) word → after x (der came s) ≡ der (join came (one_of x (der came s))) s
leaves_next s came x rest word h =
    sym (der-join (derives s came h.came_is_prefix) (one_of_derives (der came s) x h.rest_is_word.0))

-- the next event by its place in the word
pub comes_at : (s : StreamType) (came : StreamPrefix) (word : List StreamEvent) (i : ℕ) (x : StreamEvent) → i < length word → x ≡ get_or word i x → Comes s came (drop i word) word → Comes s came (x ∷ drop (i + 1) word) word
comes_at s came word i x l e h =
    subst (λ rest. Comes s came rest word) (drop_more word i x l ∙ ap (λ y. y ∷ drop (i + 1) word) (sym e)) h
