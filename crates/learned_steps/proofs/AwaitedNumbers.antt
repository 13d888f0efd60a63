-- What is awaited, where what comes has other numbers: the names have them in what comes on them, and all else stays.
use Rattle.std.proofs.Common.{◌≡◌, ◌∙◌, ℤ, true, false, List, [], ◌∷◌, ◌++◌, map, ap, ap₂, refl, sym}
use Rattle.std.proofs.lemmas.List.{map-append}
use Rattle.stream_type.specs.StreamType.{StreamType}
use Rattle.stream_prefix.specs.StreamPrefix.{StreamPrefix, par_both, cat_fst, cat_both}
use Rattle.delta_state.specs.StateTree.{HeldName}
use Rattle.delta_state.specs.StateMeaning.{types_held, prefixes_held}
use Rattle.event_word.specs.StreamEvent.{StreamEvent}
use Rattle.event_word.specs.Word.{one_of}
use Rattle.machine_parts.specs.AwaitedTree.{AwaitedTree, nothing_awaited, stream_awaited, both_awaited, turns_awaited, still_entries, entries_on, awaited_after}
use Rattle.other_numbers.specs.Numbers.{exchanged, exchanged_environment}
use Rattle.other_numbers.specs.EventNumbers.{exchanged_event}
use Rattle.other_numbers.specs.StateNumbers.{exchanged_held}
use Rattle.other_numbers.proofs.PrefixNumbers.{emp_stays, der_stays}
use Rattle.other_numbers.proofs.HeldNumbers.{types_held_stay, along_prefixes}
use Rattle.other_numbers.proofs.NameNumbers.{along_same}
use Rattle.other_numbers.proofs.EventNumbers.{events_go_along}
use Rattle.learned_steps.specs.Learned.{names_at}

module _ (f : ℤ → ℤ) where
  joined : (xs ys xs' ys' : List HeldName) → xs' ≡ map (exchanged_held f) xs → ys' ≡ map (exchanged_held f) ys → xs' ++ ys' ≡ map (exchanged_held f) (xs ++ ys)
  joined xs ys xs' ys' e h = ap₂ ◌++◌ e h ∙ sym (map-append (exchanged_held f) xs ys)

  -- where nothing comes there are no numbers
  still_stays : (a : AwaitedTree) → still_entries a ≡ map (exchanged_held f) (still_entries a)
  still_stays nothing_awaited = refl
  still_stays (stream_awaited x t) = ap (λ p. record { name = x; type = t; prefix = p } ∷ []) (sym (emp_stays f t))
  still_stays (both_awaited a b) = joined (still_entries a) (still_entries b) _ _ (still_stays a) (still_stays b)
  still_stays (turns_awaited cut a b) = joined (still_entries a) (still_entries b) _ _ (still_stays a) (still_stays b)

  -- the names, with what comes on them
  pub entries_go : (a : AwaitedTree) (d : StreamPrefix) → entries_on a (exchanged f d) ≡ map (exchanged_held f) (entries_on a d)
  entries_go (stream_awaited x t) d = refl
  entries_go (both_awaited a b) (par_both d e) = joined (entries_on a d) (entries_on b e) _ _ (entries_go a d) (entries_go b e)
  entries_go (turns_awaited false a b) (cat_fst d) = joined (entries_on a d) (still_entries b) _ _ (entries_go a d) (still_stays b)
  entries_go (turns_awaited false a b) (cat_both d e) = joined (entries_on a d) (entries_on b e) _ _ (entries_go a d) (entries_go b e)
  entries_go (turns_awaited true a b) d = joined (still_entries a) (entries_on b d) _ _ (still_stays a) (entries_go b d)
  entries_go _ d = refl

  -- what is awaited then
  pub awaited_stays : (a : AwaitedTree) (d : StreamPrefix) → awaited_after a (exchanged f d) ≡ awaited_after a d
  awaited_stays (stream_awaited x t) d = ap (stream_awaited x) (der_stays f d t)
  awaited_stays (both_awaited a b) (par_both d e) = ap₂ both_awaited (awaited_stays a d) (awaited_stays b e)
  awaited_stays (turns_awaited false a b) (cat_fst d) = ap (λ l. turns_awaited false l b) (awaited_stays a d)
  awaited_stays (turns_awaited false a b) (cat_both d e) = ap₂ (turns_awaited true) (awaited_stays a d) (awaited_stays b e)
  awaited_stays (turns_awaited true a b) d = ap (turns_awaited true a) (awaited_stays b d)
  awaited_stays a d = refl

  module _ (awaited : AwaitedTree) (input : StreamType) (x : StreamEvent) where
    -- the names at an event
    pub names_go : names_at awaited input (exchanged_event f x) ≡ map (exchanged_held f) (names_at awaited input x)
    names_go = ap (entries_on awaited) (events_go_along f input x) ∙ entries_go awaited (one_of x input)

    pub types_at_event : types_held (names_at awaited input (exchanged_event f x)) ≡ types_held (names_at awaited input x)
    types_at_event = ap types_held names_go ∙ types_held_stay f (names_at awaited input x)

    pub prefixes_at_event : prefixes_held (names_at awaited input (exchanged_event f x)) ≡ exchanged_environment f (prefixes_held (names_at awaited input x))
    prefixes_at_event =
        ap prefixes_held names_go
        ∙ along_same (exchanged f) (prefixes_held (names_at awaited input x)) (prefixes_held (map (exchanged_held f) (names_at awaited input x))) (along_prefixes f (names_at awaited input x))

    -- and what is awaited behind it
    pub awaited_at_event : awaited_after awaited (one_of x input) ≡ awaited_after awaited (one_of (exchanged_event f x) input)
    awaited_at_event = sym (ap (awaited_after awaited) (events_go_along f input x) ∙ awaited_stays awaited (one_of x input))
