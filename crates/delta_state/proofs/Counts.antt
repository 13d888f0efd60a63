-- Counts that stop at the greatest number of 64 bits, and what one part more adds to a count.
use Rattle.std.proofs.Common.{◌≡◌, ℕ, ◌+◌, ◌<◌, add-one, take, get_or, List, [], ◌∷◌, ◌++◌, map, length, sym, ap, ◌∙◌, arith, length-append}
use Rattle.std.proofs.Math.Seq.{take-suc}
use Rattle.std.proofs.lemmas.List.{length-map}
use Rattle.stream_prefix.specs.declared.prefix.Prefix.{Prefix}
use Rattle.stream_prefix.specs.StreamPrefix.{StreamPrefix, star_emp, star_rest}
use Rattle.stream_prefix.specs.Tree.{prefix_of, star_of}
use Rattle.event_word.specs.StreamEvent.{under, leaf_of}
use Rattle.event_word.specs.declared.event.Step.TheVariants.{First}
use Rattle.event_word.specs.declared.event.Leaf.TheVariants.{Cut}
use Rattle.event_word.specs.Canon.{canon}
use Rattle.delta_state.specs.declared.state.Argument.{Argument}
use Rattle.delta_state.specs.PlainState.{capped, argument_of, arguments_from, state_of, events_held, events_held_by, state_count, state_counts}

-- a sum of two counts that stopped stops where the sum of the counts does
pub capped-sum : (a b : ℕ) → capped (capped a + capped b) ≡ capped (a + b)
capped-sum a b = omega arith

-- one argument more
state_counts-snoc : (xs : List Argument) (a : Argument) → state_counts (arguments_from (map argument_of (xs ++ a ∷ []))) ≡ state_counts (arguments_from (map argument_of xs)) + state_count (state_of a.state)
state_counts-snoc [] a = omega arith
state_counts-snoc (x ∷ xs) a = let ih = state_counts-snoc xs a in omega (arith, ih)

events_held_by-snoc : (xs : List Argument) (a : Argument) → events_held_by (arguments_from (map argument_of (xs ++ a ∷ []))) ≡ events_held_by (arguments_from (map argument_of xs)) + events_held (state_of a.state)
events_held_by-snoc [] a = omega arith
events_held_by-snoc (x ∷ xs) a = let ih = events_held_by-snoc xs a in omega (arith, ih)

-- the word of an item and what comes after it: the item's own stands between Item and Cut
canon-star_rest-length : (p e : StreamPrefix) → length (canon (star_rest p e)) ≡ length (canon p) + (2 + length (canon e))
canon-star_rest-length p e =
    let joined = length-append (map (under First) (canon p)) (leaf_of Cut ∷ canon e) in
    let inside = length-map (canon p) (under First) in
    omega (arith, joined, inside)

-- the word of whole items and what comes after them
pub canon-star_of-length : (ps : List StreamPrefix) (e : StreamPrefix) → length (canon (star_of ps e)) ≡ length (canon (star_of ps star_emp)) + length (canon e)
canon-star_of-length [] e = omega arith
canon-star_of-length (p ∷ ps) e =
    let left = canon-star_rest-length p (star_of ps e) in
    let right = canon-star_rest-length p (star_of ps star_emp) in
    let ih = canon-star_of-length ps e in
    omega (arith, left, right, ih)

-- one whole item more
canon-item-length : (ps : List Prefix) (p : Prefix) → length (canon (star_of (map prefix_of (ps ++ p ∷ [])) star_emp)) ≡ length (canon (star_of (map prefix_of ps) star_emp)) + (length (canon (prefix_of p)) + 2)
canon-item-length [] p = let item = canon-star_rest-length (prefix_of p) star_emp in omega (arith, item)
canon-item-length (q ∷ ps) p =
    let left = canon-star_rest-length (prefix_of q) (star_of (map prefix_of (ps ++ p ∷ [])) star_emp) in
    let right = canon-star_rest-length (prefix_of q) (star_of (map prefix_of ps) star_emp) in
    let ih = canon-item-length ps p in
    omega (arith, left, right, ih)

-- the front of a list with one part more
pub take-next : {A : Type 0} (xs : List A) (i : ℕ) (a : A) → i < length xs → a ≡ get_or xs i a → take (i + 1) xs ≡ take i xs ++ a ∷ []
take-next xs i a h e = ap (λ n. take n xs) (add-one i) ∙ take-suc xs i a h ∙ ap (λ b. take i xs ++ b ∷ []) (sym e)

-- what the next part adds to a count
pub state_counts-next : (xs : List Argument) (i : ℕ) (a : Argument) → i < length xs → a ≡ get_or xs i a
    → state_counts (arguments_from (map argument_of (take (i + 1) xs))) ≡ state_counts (arguments_from (map argument_of (take i xs))) + state_count (state_of a.state)
state_counts-next xs i a h e = ap (λ l. state_counts (arguments_from (map argument_of l))) (take-next xs i a h e) ∙ state_counts-snoc (take i xs) a

pub events_held_by-next : (xs : List Argument) (i : ℕ) (a : Argument) → i < length xs → a ≡ get_or xs i a
    → events_held_by (arguments_from (map argument_of (take (i + 1) xs))) ≡ events_held_by (arguments_from (map argument_of (take i xs))) + events_held (state_of a.state)
events_held_by-next xs i a h e = ap (λ l. events_held_by (arguments_from (map argument_of l))) (take-next xs i a h e) ∙ events_held_by-snoc (take i xs) a

pub canon-item-next : (ps : List Prefix) (i : ℕ) (p : Prefix) → i < length ps → p ≡ get_or ps i p
    → length (canon (star_of (map prefix_of (take (i + 1) ps)) star_emp)) ≡ length (canon (star_of (map prefix_of (take i ps)) star_emp)) + (length (canon (prefix_of p)) + 2)
canon-item-next ps i p h e = ap (λ l. length (canon (star_of (map prefix_of l) star_emp))) (take-next ps i p h e) ∙ canon-item-length (take i ps) p

-- for the functions that count
pub ruleset counts = (capped-sum, canon-star_of-length)
