-- How many steps the events of a canonical word have.
use Rattle.std.proofs.Common.{ℕ, ◌+◌, ◌≤◌, List, [], ◌∷◌, ◌++◌, map, length, arith}
use Rattle.std.proofs.lemmas.List.Elements.{All-nil, All-cons, All-append, All-map, All-weaker}
use Rattle.stream_type.specs.StreamType.{StreamType, reach_of}
use Rattle.stream_prefix.specs.StreamPrefix.{StreamPrefix, eps_emp, one_emp, one_full, int_emp, int_full, par_both, cat_fst, cat_both, sum_emp, in_left, in_right, star_emp, star_done, star_first, star_rest, IsPrefix}
use Rattle.stream_prefix.proofs.Derivations.{Derives, derives, eps_has_emp, one_has_emp, one_has_full, int_has_emp, int_has_full, par_has_both, cat_has_fst, cat_has_both, sum_has_emp, sum_has_left, sum_has_right, star_has_emp, star_has_done, star_has_first, star_has_rest}
use Rattle.event_word.specs.declared.event.Step.{Step}
use Rattle.event_word.specs.declared.event.Leaf.{Leaf}
use Rattle.event_word.specs.StreamEvent.{StreamEvent, under, leaf_of, IsWithin}
use Rattle.event_word.specs.Admits.{Admits}
use Rattle.event_word.specs.Word.{after, IsWord}
use Rattle.event_word.specs.Canon.{canon}
use Rattle.event_word.specs.Steps.{steps_of}
use Rattle.event_word.proofs.Standing.{Stands, stands, at_left, at_right, at_first, at_cut, at_one, at_int, at_inl, at_inr, at_item, at_end}
use Rattle.event_word.proofs.Words.{one_of_derives}
use Rattle.event_word.proofs.Spelling.{canon_is_word}
use Rattle.stream_prefix.proofs.Joins.{reach_of-der}

-- an event has at most n steps
abbrev Short : ℕ → StreamEvent → Type 0
Short n x = length x.path ≤ n

-- a greater bound
pub within_more : (n m : ℕ) (w : List StreamEvent) → n ≤ m → IsWithin n w → IsWithin m w
within_more n m w l h = All-weaker (Short n) (Short m) (λ x k. omega arith) w h

-- one step more
within_under : (n m : ℕ) (i : Step) (w : List StreamEvent) → 1 + n ≤ m → IsWithin n w → IsWithin m (map (under i) w)
within_under n m i w l h =
    All-map (Short m) (under i) w (All-weaker (Short n) (λ x. Short m (under i x)) (λ x k. omega arith) w h)

-- an event with no step in front
within_leaf : (n : ℕ) (x : _) (w : List StreamEvent) → IsWithin n w → IsWithin n (leaf_of x ∷ w)
within_leaf n x w h = All-cons (Short n) (leaf_of x) w (omega arith) h

within_both : (n : ℕ) (v w : List StreamEvent) → IsWithin n v → IsWithin n w → IsWithin n (v ++ w)
within_both n v w h k = All-append (Short n) v w h k

-- the canonical word has no more steps than its prefix tells
pub canon_within : (p : StreamPrefix) → IsWithin (steps_of p) (canon p)
canon_within eps_emp = All-nil (Short 0)
canon_within one_emp = All-nil (Short 0)
canon_within one_full = within_leaf 0 _ [] (All-nil (Short 0))
canon_within int_emp = All-nil (Short 0)
canon_within (int_full n) = within_leaf 0 _ [] (All-nil (Short 0))
canon_within (par_both p q) =
    within_both _ _ _ (within_under (steps_of p) _ _ (canon p) (omega arith) (canon_within p)) (within_under (steps_of q) _ _ (canon q) (omega arith) (canon_within q))
canon_within (cat_fst p) = within_under (steps_of p) _ _ (canon p) (omega arith) (canon_within p)
canon_within (cat_both p q) =
    within_both _ _ _ (within_under (steps_of p) _ _ (canon p) (omega arith) (canon_within p)) (within_leaf _ _ (canon q) (within_more (steps_of q) _ (canon q) (omega arith) (canon_within q)))
canon_within sum_emp = All-nil (Short 0)
canon_within (in_left p) = within_leaf (steps_of p) _ (canon p) (canon_within p)
canon_within (in_right p) = within_leaf (steps_of p) _ (canon p) (canon_within p)
canon_within star_emp = All-nil (Short 0)
canon_within star_done = within_leaf 0 _ [] (All-nil (Short 0))
canon_within (star_first p) =
    within_leaf _ _ _ (within_under (steps_of p) _ _ (canon p) (omega arith) (canon_within p))
canon_within (star_rest p q) =
    within_leaf _ _ _ (within_both _ _ _ (within_under (steps_of p) _ _ (canon p) (omega arith) (canon_within p)) (within_leaf _ _ (canon q) (within_more (steps_of q) _ (canon q) (omega arith) (canon_within q))))

steps_of-reach_of : {s : StreamType} {p : StreamPrefix} → Derives s p → steps_of p ≤ reach_of s
steps_of-reach_of eps_has_emp = omega arith
steps_of-reach_of one_has_emp = omega arith
steps_of-reach_of one_has_full = omega arith
steps_of-reach_of int_has_emp = omega arith
steps_of-reach_of int_has_full = omega arith
steps_of-reach_of (par_has_both h k) = omega (arith, steps_of-reach_of h, steps_of-reach_of k)
steps_of-reach_of (cat_has_fst h) = omega (arith, steps_of-reach_of h)
steps_of-reach_of (cat_has_both h m k) = omega (arith, steps_of-reach_of h, steps_of-reach_of k)
steps_of-reach_of sum_has_emp = omega arith
steps_of-reach_of (sum_has_left h) = omega (arith, steps_of-reach_of h)
steps_of-reach_of (sum_has_right h) = omega (arith, steps_of-reach_of h)
steps_of-reach_of star_has_emp = omega arith
steps_of-reach_of star_has_done = omega arith
steps_of-reach_of (star_has_first h) = omega (arith, steps_of-reach_of h)
steps_of-reach_of (star_has_rest h m k) = omega (arith, steps_of-reach_of h, steps_of-reach_of k)

-- a prefix needs no more steps than its type's reach
pub steps_within_reach : (s : StreamType) (p : StreamPrefix) → IsPrefix s p → steps_of p ≤ reach_of s
steps_within_reach s p h = steps_of-reach_of (derives s p h)

-- an event reaches no deeper than its type
stands_within : {s : StreamType} {ps : List Step} {x : Leaf} → Stands s ps x → length ps ≤ reach_of s
stands_within (at_left h) = omega (arith, stands_within h)
stands_within (at_right h) = omega (arith, stands_within h)
stands_within (at_first h) = omega (arith, stands_within h)
stands_within (at_cut m) = omega arith
stands_within at_one = omega arith
stands_within at_int = omega arith
stands_within at_inl = omega arith
stands_within at_inr = omega arith
stands_within at_item = omega arith
stands_within at_end = omega arith

pub admitted_within : (s : StreamType) (x : StreamEvent) → Admits s x → length x.path ≤ reach_of s
admitted_within s x h = stands_within (stands s x h)

-- nor does any event of a word, since what an event leaves has no greater reach
pub word_within : (s : StreamType) (w : List StreamEvent) → IsWord s w → IsWithin (reach_of s) w
word_within s [] h = All-nil (Short (reach_of s))
word_within s (x ∷ w) h =
    let falls = reach_of-der (one_of_derives s x h.0) in
    All-cons (Short (reach_of s)) x w (admitted_within s x h.0) (within_more (reach_of (after x s)) (reach_of s) w falls (word_within (after x s) w h.1))

-- so the canonical word is a word of events
pub canon_within_reach : (s : StreamType) (p : StreamPrefix) → IsPrefix s p → IsWithin (reach_of s) (canon p)
canon_within_reach s p h = word_within s (canon p) (canon_is_word s p h)
