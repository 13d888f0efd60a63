-- What the laws of filled states say.
--
-- Choices that are not obvious:
-- - Registers aren't empty where something is done to all of them: what is no key has the first of them then, and is
--   changed with it.
-- - Nothing is asked of a shape: a number or a depth in it that is no key is filled in too.
use Rattle.std.specs.Prelude.{ℕ, ℤ, ◌+◌, ◌-◌, ◌*◌, ◌<◌, ◌≤◌, ◌≡◌, true, List, [], ◌++◌, length, map, get_or}
use Rattle.std.specs.List.{All}
use Rattle.stream_prefix.specs.StreamPrefix.{StreamPrefix}
use Rattle.event_word.specs.StreamEvent.{StreamEvent}
use Rattle.bunch.specs.Names.{holds}
use Rattle.hist_value.specs.HistValue.{HistValue}
use Rattle.core_term.specs.FreeNames.{is_distinct}
use Rattle.delta_state.specs.StateTree.{StateTree, laters_of}
use Rattle.other_numbers.specs.Numbers.{exchanged, exchanged_value}
use Rattle.other_numbers.specs.EventNumbers.{exchanged_event}
use Rattle.other_numbers.specs.StateNumbers.{exchanged_state}
use Rattle.other_depths.specs.Depths.{deepened}
use Rattle.other_depths.specs.Suits.{Suits}
use Rattle.filled_states.specs.Registers.{number_at, depth_at, is_key, are_distinct}
use Rattle.filled_states.specs.Filled.{filled_value, filled_prefix, filled_event, filled_state}
use Rattle.filled_states.specs.Shifts.{AreSpread, spread_from, shift}

-- where f is done to all numbers it is done to what is found
abbrev pub NumbersFound : Type 0
NumbersFound = (f : ℤ → ℤ) (ks vs : List ℤ) (n : ℤ) → 0 < length vs → number_at ks (map f vs) n ≡ f (number_at ks vs n)

abbrev pub DepthsFound : Type 0
DepthsFound = (g : ℕ → ℕ) (ds es : List ℕ) (d : ℕ) → 0 < length es → depth_at ds (map g es) d ≡ g (depth_at ds es d)

-- keys of which none stands twice find what stands beside them, in turn
abbrev pub NumbersInTurn : Type 0
NumbersInTurn = (ks vs : List ℤ) → are_distinct ks ≡ true → length ks ≡ length vs → map (number_at ks vs) ks ≡ vs

abbrev pub DepthsInTurn : Type 0
DepthsInTurn = (ds es : List ℕ) → is_distinct ds ≡ true → length ds ≡ length es → map (depth_at ds es) ds ≡ es

-- so a key's place tells what stands beside it
abbrev pub NumbersByPlace : Type 0
NumbersByPlace =
    (ks vs : List ℤ) (i : ℕ) (k v : ℤ) → are_distinct ks ≡ true → length ks ≡ length vs → i < length ks
    → number_at ks vs (get_or ks i k) ≡ get_or vs i v

abbrev pub DepthsByPlace : Type 0
DepthsByPlace =
    (ds es : List ℕ) (i d e : ℕ) → is_distinct ds ≡ true → length ds ≡ length es → i < length ds → depth_at ds es (get_or ds i d) ≡ get_or es i e

-- what is found among the first keys stays when others follow them
abbrev pub NumbersFirst : Type 0
NumbersFirst =
    (ks vs others numbers : List ℤ) (n : ℤ) → length ks ≡ length vs → is_key n ks ≡ true → number_at (ks ++ others) (vs ++ numbers) n ≡ number_at ks vs n

abbrev pub DepthsFirst : Type 0
DepthsFirst =
    (ds es others depths : List ℕ) (d : ℕ) → length ds ≡ length es → holds d ds ≡ true → depth_at (ds ++ others) (es ++ depths) d ≡ depth_at ds es d

-- what is done to all numbers and to all depths of a filled state is done to its registers
abbrev pub FilledAfter : Type 0
FilledAfter =
    (f : ℤ → ℤ) (g : ℕ → ℕ) (ks vs : List ℤ) (ds es : List ℕ) (s : StateTree) → 0 < length vs → 0 < length es
    → deepened g (exchanged_state f (filled_state ks vs ds es s)) ≡ filled_state ks (map f vs) ds (map g es) s

abbrev pub ValuesFilledAfter : Type 0
ValuesFilledAfter = (f : ℤ → ℤ) (ks vs : List ℤ) (v : HistValue) → 0 < length vs → exchanged_value f (filled_value ks vs v) ≡ filled_value ks (map f vs) v

abbrev pub PrefixesFilledAfter : Type 0
PrefixesFilledAfter = (f : ℤ → ℤ) (ks vs : List ℤ) (p : StreamPrefix) → 0 < length vs → exchanged f (filled_prefix ks vs p) ≡ filled_prefix ks (map f vs) p

abbrev pub EventsFilledAfter : Type 0
EventsFilledAfter = (f : ℤ → ℤ) (ks vs : List ℤ) (x : StreamEvent) → 0 < length vs → exchanged_event f (filled_event ks vs x) ≡ filled_event ks (map f vs) x

-- a shape filled with nothing is itself
abbrev pub FilledWithNone : Type 0
FilledWithNone = (ks : List ℤ) (ds : List ℕ) (s : StateTree) → filled_state ks [] ds [] s ≡ s

-- what is at most m below one of the depths at which a step was learned is moved as that is
abbrev pub ShiftMoves : Type 0
ShiftMoves =
    (bs es : List ℕ) (m b j : ℕ) → AreSpread m bs → length bs ≡ length es → holds b bs ≡ true → j ≤ m → j ≤ b
    → shift bs es m (b - j) ≡ depth_at bs es b - j

-- so what is a little below the depth at a place is moved to what is as much below what stands at that place now
abbrev pub ShiftByPlace : Type 0
ShiftByPlace =
    (bs es : List ℕ) (m i j b e : ℕ) → AreSpread m bs → length bs ≡ length es → i < length bs → j ≤ m → j ≤ get_or bs i b
    → shift bs es m (get_or bs i b - j) ≡ get_or es i e - j

-- the depths at which it was learned become those that are there
abbrev pub ShiftsAll : Type 0
ShiftsAll = (bs es : List ℕ) (m : ℕ) → AreSpread m bs → length bs ≡ length es → map (shift bs es m) bs ≡ es

-- and they suit n calls, where each code of the filled state has a depth of n or more
abbrev pub ShiftSuits : Type 0
ShiftSuits =
    (ks vs us : List ℤ) (ds bs es : List ℕ) (m n : ℕ) (s : StateTree) → AreSpread m bs → All (λ b. m ≤ b) bs → 0 < length bs → length bs ≡ length es → n ≤ m
    → All (λ l. n ≤ l.depth) (laters_of (filled_state ks us ds es s)) → Suits (shift bs es m) n (filled_state ks vs ds bs s)

-- no such depth stands twice
abbrev pub SpreadIsDistinct : Type 0
SpreadIsDistinct = (m : ℕ) (bs : List ℕ) → AreSpread m bs → is_distinct bs ≡ true

-- depths from b down are such, where b is great enough
abbrev pub SpreadDown : Type 0
SpreadDown = (m b n : ℕ) → n * (m + 1) ≤ b + 1 → AreSpread m (spread_from m b n) × (All (λ d. m ≤ d) (spread_from m b n) × (length (spread_from m b n) ≡ n))
