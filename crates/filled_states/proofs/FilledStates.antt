-- What is done to all numbers and depths of a filled state is done to its registers; and the code of a filled state.
use Rattle.std.proofs.Common.{◌≡◌, ◌∙◌, ℕ, ℤ, List, map, ap, refl, sym}
use Rattle.std.proofs.lemmas.List.Elements.{All-same, All-map}
use Rattle.event_word.specs.declared.event.Leaf.{Leaf}
use Rattle.event_word.specs.declared.event.Leaf.TheVariants.{Int}
use Rattle.delta_state.specs.StateTree.{LaterTree, StateTree, laters_of}
use Rattle.mapped_states.proofs.MappedTwice.{mapped_twice, laters_mapped}
use Rattle.other_numbers.specs.Numbers.{exchanged, exchanged_value}
use Rattle.other_numbers.specs.EventNumbers.{exchanged_leaf, exchanged_event}
use Rattle.other_numbers.specs.StateNumbers.{exchanged_held, exchanged_later, exchanged_state}
use Rattle.other_numbers.proofs.TwiceNumbers.{prefix_twice, value_twice, numbers_twice, numbers_stay}
use Rattle.other_depths.specs.Depths.{deepened_later, deepened}
use Rattle.other_depths.specs.Suits.{SuitsAt, Suits}
use Rattle.other_depths.proofs.DeepStates.{depths_twice, depths_stay}
use Rattle.filled_states.specs.Registers.{number_at, depth_at}
use Rattle.filled_states.specs.Filled.{filled_state}
use Rattle.filled_states.specs.Laws.{FilledAfter, ValuesFilledAfter, PrefixesFilledAfter, EventsFilledAfter, FilledWithNone}
use Rattle.filled_states.proofs.Found.{numbers_found, depths_found}

-- numbers and depths don't meet
either_first : (f : ℤ → ℤ) (g : ℕ → ℕ) (s : StateTree) → exchanged_state f (deepened g s) ≡ deepened g (exchanged_state f s)
either_first f g s =
    mapped_twice (exchanged_later f) (deepened_later g) (map (exchanged_held f)) (λ held. held) s ∙ sym (mapped_twice (deepened_later g) (exchanged_later f) (λ held. held) (map (exchanged_held f)) s)

leaf_twice : (f g : ℤ → ℤ) (x : Leaf) → exchanged_leaf f (exchanged_leaf g x) ≡ exchanged_leaf (λ n. f (g n)) x
leaf_twice f g (Int n) = refl
leaf_twice f g _ = refl

-- depths suit a state with other numbers where they suit it
pub suits_exchanged : (f : ℤ → ℤ) (g : ℕ → ℕ) (n : ℕ) (s : StateTree) → Suits g n s → Suits g n (exchanged_state f s)
suits_exchanged f g n s h = let P : LaterTree → Type 0 = λ l. SuitsAt g n l.depth in All-same P _ _ (laters_mapped _ _ s) (All-map P (exchanged_later f) (laters_of s) h)

-- the code of a filled state
pub laters_filled : (ks vs : List ℤ) (ds es : List ℕ) (s : StateTree) → laters_of (filled_state ks vs ds es s) ≡ map (deepened_later (depth_at ds es)) (map (exchanged_later (number_at ks vs)) (laters_of s))
laters_filled ks vs ds es s = laters_mapped _ _ (exchanged_state (number_at ks vs) s) ∙ ap (map (deepened_later (depth_at ds es))) (laters_mapped _ _ s)

pub filled_after : FilledAfter
filled_after f g ks vs ds es s h i =
    ap (deepened g) (either_first f (depth_at ds es) (exchanged_state (number_at ks vs) s))
    ∙ (depths_twice g (depth_at ds es) (exchanged_state f (exchanged_state (number_at ks vs) s))
    ∙ (ap (deepened (λ d. g (depth_at ds es d))) (numbers_twice f (number_at ks vs) s)
    ∙ sym (λ j. deepened (λ d. depths_found g ds es d i j) (exchanged_state (λ n. numbers_found f ks vs n h j) s))))

pub values_filled_after : ValuesFilledAfter
values_filled_after f ks vs v h = value_twice f (number_at ks vs) v ∙ sym (λ j. exchanged_value (λ n. numbers_found f ks vs n h j) v)

pub prefixes_filled_after : PrefixesFilledAfter
prefixes_filled_after f ks vs p h = prefix_twice f (number_at ks vs) p ∙ sym (λ j. exchanged (λ n. numbers_found f ks vs n h j) p)

pub events_filled_after : EventsFilledAfter
events_filled_after f ks vs x h =
    ap (λ l. record { path = x.path; leaf = l }) (leaf_twice f (number_at ks vs) x.leaf) ∙ sym (λ j. exchanged_event (λ n. numbers_found f ks vs n h j) x)

pub filled_with_none : FilledWithNone
filled_with_none ks ds s = depths_stay (exchanged_state (λ n. n) s) ∙ numbers_stay s
