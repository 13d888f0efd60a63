-- How many events of each word are left, and that the rounds use up each word that the schedule names.
use Rattle.std.proofs.Common.{◌≡◌, ℕ, zero, suc, ◌+◌, ◌-◌, ◌≤◌, List, [], ◌∷◌, length, Option, Some, None, refl, arith}
use Rattle.std.specs.Prelude.{All, option_map}
use Rattle.std.proofs.lemmas.List.Elements.{All-nil, All-cons, All-weaker}
use Rattle.event_word.specs.declared.event.Step.TheVariants.{Right}
use Rattle.event_word.specs.StreamEvent.{StreamEvent, under}
use Rattle.table_feed.specs.Mixing.{next_of, take_or_pass, take_at, rounds, longest}

-- how many events the word of a number has
abbrev size_of : ℕ → List (List StreamEvent) → ℕ
size_of i [] = 0
size_of zero (w ∷ ws) = length w
size_of (suc i) (w ∷ ws) = size_of i ws

size-longest : (i : ℕ) (ws : List (List StreamEvent)) → size_of i ws ≤ longest ws
size-longest i [] = omega arith
size-longest zero (w ∷ ws) = omega arith
size-longest (suc i) (w ∷ ws) = omega (arith, size-longest i ws)

-- a word without events has no next one
none_left : (i : ℕ) (ws : List (List StreamEvent)) → size_of i ws ≡ 0 → next_of i ws ≡ None
none_left i [] e = refl
none_left zero ([] ∷ ws) e = refl
none_left zero ((x ∷ w) ∷ ws) e = absurd (omega arith)
none_left (suc i) (w ∷ ws) e = rw (none_left i ws e) refl

-- one event of a word fewer, and no more of any other
record Shrinks (i : ℕ) (old new : List (List StreamEvent)) : Type 0 where
  pub fewer : size_of i new + 1 ≡ size_of i old
  pub others : (j : ℕ) → size_of j new ≤ size_of j old

shrinks_later : (i : ℕ) (w : List StreamEvent) (old new : List (List StreamEvent)) → Shrinks i old new → Shrinks (suc i) (w ∷ old) (w ∷ new)
shrinks_later i w old new h = record { fewer = h.fewer; others = others }
  where
    others : (j : ℕ) → size_of j (w ∷ new) ≤ size_of j (w ∷ old)
    others zero = omega arith
    others (suc j) = h.others j

shrinks_first : (x : StreamEvent) (w : List StreamEvent) (ws : List (List StreamEvent)) → Shrinks zero ((x ∷ w) ∷ ws) (w ∷ ws)
shrinks_first x w ws = record { fewer = omega arith; others = others }
  where
    others : (j : ℕ) → size_of j (w ∷ ws) ≤ size_of j ((x ∷ w) ∷ ws)
    others zero = omega arith
    others (suc j) = omega arith

-- where there is no next event the word has none
record IsEmpty (i : ℕ) (ws : List (List StreamEvent)) : Type 0 where
  pub empty : size_of i ws ≡ 0

-- what the next event of a word leaves
abbrev Leaves : ℕ → List (List StreamEvent) → Option (StreamEvent × List (List StreamEvent)) → Type 0
Leaves i ws None = IsEmpty i ws
Leaves i ws (Some next) = Shrinks i ws next.1

leaves_later : (i : ℕ) (w : List StreamEvent) (ws : List (List StreamEvent)) (next : Option (StreamEvent × List (List StreamEvent)))
    → Leaves i ws next → Leaves (suc i) (w ∷ ws) (option_map (λ (next : StreamEvent × List (List StreamEvent)). (under Right next.0, w ∷ next.1)) next)
leaves_later i w ws None h = record { empty = h.empty }
leaves_later i w ws (Some next) h = shrinks_later i w ws next.1 h

next_leaves : (i : ℕ) (ws : List (List StreamEvent)) → Leaves i ws (next_of i ws)
next_leaves i [] = record { empty = refl }
next_leaves zero ([] ∷ ws) = record { empty = refl }
next_leaves zero ((x ∷ w) ∷ []) = shrinks_first x w []
next_leaves zero ((x ∷ w) ∷ v ∷ ws) = shrinks_first x w (v ∷ ws)
next_leaves (suc i) (w ∷ ws) = leaves_later i w ws (next_of i ws) (next_leaves i ws)

-- after a list of numbers no word has more events
record NoMore (old new : List (List StreamEvent)) : Type 0 where
  pub sizes : (j : ℕ) → size_of j new ≤ size_of j old

take_no_more : (schedule : List ℕ) (ws : List (List StreamEvent)) → NoMore ws (take_at schedule ws).left
take_no_more [] ws = record { sizes = λ j. omega arith }
take_no_more (i ∷ schedule) ws = by_next (λ vs. take_no_more schedule vs) (next_of i ws) (next_leaves i ws)
  where
    by_next : ((vs : List (List StreamEvent)) → NoMore vs (take_at schedule vs).left) → (next : Option (StreamEvent × List (List StreamEvent))) → Leaves i ws next → NoMore ws (take_or_pass (take_at schedule) next ws).left
    by_next more None h = more ws
    by_next more (Some next) h =
        let later = more next.1 in
        record { sizes = λ j. omega (arith, h.others j, later.sizes j) }

-- each word that the schedule names has one event fewer after a round, or none
abbrev IsFewer : ℕ → List (List StreamEvent) → List (List StreamEvent) → ℕ → Type 0
IsFewer n old new i = size_of i new ≤ size_of i old - n

take_fewer : (schedule : List ℕ) (ws : List (List StreamEvent)) → All (IsFewer 1 ws (take_at schedule ws).left) schedule
take_fewer [] ws = All-nil _
take_fewer (i ∷ schedule) ws = by_next (λ vs. take_fewer schedule vs) (next_of i ws) (next_leaves i ws)
  where
    by_next : ((vs : List (List StreamEvent)) → All (IsFewer 1 vs (take_at schedule vs).left) schedule) → (next : Option (StreamEvent × List (List StreamEvent))) → Leaves i ws next → All (IsFewer 1 ws (take_or_pass (take_at schedule) next ws).left) (i ∷ schedule)
    by_next more None h =
        let later = take_no_more schedule ws in
        let here : IsFewer 1 ws (take_at schedule ws).left i = omega (arith, h.empty, later.sizes i) in
        All-cons (IsFewer 1 ws (take_at schedule ws).left) i schedule here (more ws)
    by_next more (Some next) h =
        let later = take_no_more schedule next.1 in
        let here : IsFewer 1 ws (take_at schedule next.1).left i = omega (arith, h.fewer, later.sizes i) in
        let rest : All (IsFewer 1 ws (take_at schedule next.1).left) schedule =
        All-weaker (IsFewer 1 next.1 (take_at schedule next.1).left) (IsFewer 1 ws (take_at schedule next.1).left) (λ j k. omega (arith, k, h.others j)) schedule (more next.1) in
        All-cons (IsFewer 1 ws (take_at schedule next.1).left) i schedule here rest

-- and as many fewer as rounds went by
rounds_fewer : (n : ℕ) (schedule : List ℕ) (ws : List (List StreamEvent)) (i : ℕ) → ((vs : List (List StreamEvent)) → IsFewer 1 vs (take_at schedule vs).left i) → IsFewer n ws (rounds n schedule ws).left i
rounds_fewer zero schedule ws i h = omega arith
rounds_fewer (suc n) schedule ws i h = omega (arith, h ws, rounds_fewer n schedule (take_at schedule ws).left i h)

-- what holds of each number, by its place in the list
each : (P : List (List StreamEvent) → ℕ → Type 0) (schedule : List ℕ) → ((vs : List (List StreamEvent)) → All (P vs) schedule) → All (λ i. (vs : List (List StreamEvent)) → P vs i) schedule
each P schedule h = λ k d l vs. h vs k d l

pub named_are_used_up : (schedule : List ℕ) (ws : List (List StreamEvent)) → All (λ i. next_of i (rounds (longest ws) schedule ws).left ≡ None) schedule
named_are_used_up schedule ws =
    All-weaker (λ i. (vs : List (List StreamEvent)) → IsFewer 1 vs (take_at schedule vs).left i) (λ i. next_of i (rounds (longest ws) schedule ws).left ≡ None)
    (λ i h.
    let few = rounds_fewer (longest ws) schedule ws i h in
    none_left i (rounds (longest ws) schedule ws).left (omega (arith, few, size-longest i ws)))
    schedule
    (each (λ vs i. IsFewer 1 vs (take_at schedule vs).left i) schedule (λ vs. take_fewer schedule vs))
