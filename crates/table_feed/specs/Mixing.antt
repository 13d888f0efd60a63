-- One word of several, side by side, whose events come in the order that a schedule says.
--
-- A schedule is a list of numbers of words, from 0. It is gone through over and over. At each number the next event
-- of that word comes; a number whose word is used up, or that no word has, is passed over. Once all words that the schedule names are
-- used up, the others follow, one after another. A round takes at least one event of each word that the schedule
-- names and that isn't used up, so as many rounds as the longest word has events are enough; where nothing is left
-- to take, a round changes nothing.
use Rattle.std.specs.Prelude.{ℕ, zero, suc, max, List, [], ◌∷◌, ◌++◌, map, length, Option, Some, None, option_map}
use Rattle.stream_type.specs.StreamType.{StreamType, par}
use Rattle.stream_prefix.specs.StreamPrefix.{StreamPrefix, eps_emp, par_both, emp, IsPrefix}
use Rattle.event_word.specs.declared.event.Step.TheVariants.{Left, Right}
use Rattle.event_word.specs.StreamEvent.{StreamEvent, under}
use Rattle.event_word.specs.Word.{IsWord, pre}

-- what comes of words side by side: the events so far, and what is left of each word
pub record Taken : Type 0 where
  pub events : List StreamEvent
  pub left : List (List StreamEvent)

-- words of the parts of a type, which stand side by side and are grouped to the right
abbrev pub AreWords : StreamType → List (List StreamEvent) → Type 0
AreWords s [] = ⊥
AreWords s (w ∷ []) = IsWord s w
AreWords (par s t) (w ∷ v ∷ ws) = IsWord s w × AreWords t (v ∷ ws)
AreWords s (w ∷ v ∷ ws) = ⊥

-- the prefixes of these words side by side
abbrev pub pre_beside : StreamType → List (List StreamEvent) → StreamPrefix
pre_beside s [] = emp s
pre_beside s (w ∷ []) = pre s w
pre_beside (par s t) (w ∷ v ∷ ws) = par_both (pre s w) (pre_beside t (v ∷ ws))
pre_beside s (w ∷ v ∷ ws) = emp s

-- prefixes of the parts of a type, which stand side by side and are grouped to the right
abbrev pub ArePrefixes : StreamType → List StreamPrefix → Type 0
ArePrefixes s [] = ⊥
ArePrefixes s (p ∷ []) = IsPrefix s p
ArePrefixes (par s t) (p ∷ q ∷ ps) = IsPrefix s p × ArePrefixes t (q ∷ ps)
ArePrefixes s (p ∷ q ∷ ps) = ⊥

-- prefixes side by side, as one
abbrev pub beside : List StreamPrefix → StreamPrefix
beside [] = eps_emp
beside (p ∷ []) = p
beside (p ∷ q ∷ ps) = par_both p (beside (q ∷ ps))

-- the next event of the word of a number, under the steps that lead to it, and what is then left of the words
abbrev pub next_of : ℕ → List (List StreamEvent) → Option (StreamEvent × List (List StreamEvent))
next_of i [] = None
next_of zero ([] ∷ ws) = None
next_of zero ((x ∷ w) ∷ []) = Some (x, w ∷ [])
next_of zero ((x ∷ w) ∷ v ∷ ws) = Some (under Left x, w ∷ v ∷ ws)
next_of (suc i) (w ∷ ws) = option_map (λ next. (under Right next.0, w ∷ next.1)) (next_of i ws)

-- one event more in front of what comes
abbrev pub before : StreamEvent → Taken → Taken
before x taken = record { events = x ∷ taken.events; left = taken.left }

-- the next event and what comes after it; where there is none, what comes without it
abbrev pub take_or_pass : (List (List StreamEvent) → Taken) → Option (StreamEvent × List (List StreamEvent)) → List (List StreamEvent) → Taken
take_or_pass later None ws = later ws
take_or_pass later (Some next) ws = before next.0 (later next.1)

-- the events at these numbers, in turn
abbrev pub take_at : List ℕ → List (List StreamEvent) → Taken
take_at [] ws = record { events = []; left = ws }
take_at (i ∷ schedule) ws = take_or_pass (take_at schedule) (next_of i ws) ws

-- so many rounds of the schedule
abbrev pub rounds : ℕ → List ℕ → List (List StreamEvent) → Taken
rounds zero schedule ws = record { events = []; left = ws }
rounds (suc n) schedule ws = record {
  events = (take_at schedule ws).events ++ (rounds n schedule (take_at schedule ws).left).events;
  left = (rounds n schedule (take_at schedule ws).left).left;
}

-- all events of the words, one word after another
abbrev pub in_order : List (List StreamEvent) → List StreamEvent
in_order [] = []
in_order (w ∷ []) = w
in_order (w ∷ v ∷ ws) = map (under Left) w ++ map (under Right) (in_order (v ∷ ws))

-- how many events the longest word has
abbrev pub longest : List (List StreamEvent) → ℕ
longest [] = 0
longest (w ∷ ws) = max (length w) (longest ws)

-- the words as one, in the order that the schedule says
abbrev pub mixed_word : List ℕ → List (List StreamEvent) → List StreamEvent
mixed_word schedule ws = let taken = rounds (longest ws) schedule ws in taken.events ++ in_order taken.left
