-- Words of events, and the prefixes that they stand for.
use Rattle.std.specs.Prelude.{List, [], ◌∷◌, ⊤}
use Rattle.stream_type.specs.StreamType.{StreamType, one, int, cat, par, sum, star}
use Rattle.stream_prefix.specs.StreamPrefix.{StreamPrefix, one_full, int_full, par_both, cat_fst, cat_both, in_left, in_right, star_done, star_first, emp, der, join}
use Rattle.event_word.specs.declared.event.Step.{Step}
use Rattle.event_word.specs.declared.event.Step.TheVariants.{Left, Right, First}
use Rattle.event_word.specs.declared.event.Leaf.{Leaf}
use Rattle.event_word.specs.declared.event.Leaf.TheVariants.{One, Int, Inl, Inr, Cut, Item, End}
use Rattle.event_word.specs.StreamEvent.{StreamEvent}
use Rattle.event_word.specs.Admits.{Admits}

-- a leaf at the end of its steps, as a prefix; what the type doesn't admit counts as nothing
abbrev pub one_at : List Step → Leaf → StreamType → StreamPrefix
one_at (Left ∷ ps) x (par s t) = par_both (one_at ps x s) (emp t)
one_at (Right ∷ ps) x (par s t) = par_both (emp s) (one_at ps x t)
one_at (First ∷ ps) x (cat s t) = cat_fst (one_at ps x s)
one_at [] Cut (cat s t) = cat_both (emp s) (emp t)
one_at [] One one = one_full
one_at [] (Int n) int = int_full n
one_at [] Inl (sum s t) = in_left (emp s)
one_at [] Inr (sum s t) = in_right (emp t)
one_at [] Item (star s) = star_first (emp s)
one_at [] End (star s) = star_done
one_at _ _ s = emp s

-- one event as a prefix of the type
abbrev pub one_of : StreamEvent → StreamType → StreamPrefix
one_of x s = one_at x.path x.leaf s

-- what is left of a type after an event
abbrev pub after : StreamEvent → StreamType → StreamType
after x s = der (one_of x s) s

-- what is left of a type after a word, event by event
abbrev pub after_word : List StreamEvent → StreamType → StreamType
after_word [] s = s
after_word (x ∷ w) s = after_word w (after x s)

-- each event is admitted after those before it
abbrev pub IsWord : StreamType → List StreamEvent → Type 0
IsWord s [] = ⊤
IsWord s (x ∷ w) = Admits s x × IsWord (after x s) w

-- the prefix that a word stands for
abbrev pub pre : StreamType → List StreamEvent → StreamPrefix
pre s [] = emp s
pre s (x ∷ w) = join (one_of x s) (pre (after x s) w)
