-- An event with other numbers has the same path.
use Rattle.std.proofs.Common.{ℕ, ℤ, ◌≤◌, ◌<◌, List, [], length, map, sym, subst}
use Rattle.std.proofs.lemmas.List.{get_or-map, length-map}
use Rattle.std.proofs.lemmas.List.Elements.{All-get_or, All-from_get_or}
use Rattle.event_word.specs.declared.event.Leaf.TheVariants.{One}
use Rattle.event_word.specs.StreamEvent.{StreamEvent, IsWithin}
use Rattle.other_numbers.specs.EventNumbers.{exchanged_event}

some_event : StreamEvent
some_event = record { path = []; leaf = One }

-- so where such events are short enough for frames, they were
pub paths : (n : ℕ) (f : ℤ → ℤ) (word : List StreamEvent) → IsWithin n (map (exchanged_event f) word) → IsWithin n word
paths n f word h =
    All-from_get_or (λ (x : StreamEvent). length x.path ≤ n) word some_event
    (λ i l. subst (λ (y : StreamEvent). length y.path ≤ n) (get_or-map (exchanged_event f) word i some_event some_event l)
    (All-get_or (λ (x : StreamEvent). length x.path ≤ n) (map (exchanged_event f) word) i some_event (subst (λ m. i < m) (sym (length-map word (exchanged_event f))) l) h))
