-- What the calls that spell a canonical word are proved with.
use Rattle.std.proofs.Common.{◌≡◌, ◌+◌, ◌≤◌, max, List, [], ◌∷◌, ◌++◌, map, refl, sym, ap, ◌∙◌, arith, append_assoc}
use Rattle.std.specs.declared.vec.Vec.{Vec}
use Rattle.std.specs.declared.alloc.Global.{Global}
use Rattle.stream_prefix.specs.StreamPrefix.{StreamPrefix, star_emp}
use Rattle.stream_prefix.specs.declared.prefix.Prefix.{Prefix}
use Rattle.stream_prefix.specs.declared.prefix.Prefix.TheVariants.{Star}
use Rattle.stream_prefix.specs.declared.prefix.StarEnd.{StarEnd}
use Rattle.stream_prefix.specs.Tree.{prefix_of, end_of, star_of}
use Rattle.stream_prefix.proofs.Rows.{row_of-hidden, prefix_of-star}
use Rattle.event_word.specs.declared.event.Step.{Step}
use Rattle.event_word.specs.declared.event.Step.TheVariants.{First}
use Rattle.event_word.specs.declared.event.Leaf.TheVariants.{Item, Cut}
use Rattle.event_word.specs.StreamEvent.{StreamEvent, under, leaf_of, IsWithin}
use Rattle.event_word.specs.Canon.{canon}
use Rattle.event_word.specs.Steps.{steps_of}
use Rattle.event_word.proofs.Spelling.{canon_is_word, pre-canon}
use Rattle.event_word.proofs.Reaches.{steps_within_reach, canon_within, within_more}

-- the word of a star: its whole items, and then what comes after them
pub canon-star_of : (ps : List StreamPrefix) (e : StreamPrefix) → canon (star_of ps e) ≡ canon (star_of ps star_emp) ++ canon e
canon-star_of [] e = refl
canon-star_of (p ∷ ps) e =
    ap (λ w. leaf_of Item ∷ (map (under First) (canon p) ++ leaf_of Cut ∷ w)) (canon-star_of ps e) ∙ ap (λ w. leaf_of Item ∷ w) (sym (append_assoc (map (under First) (canon p)) (leaf_of Cut ∷ canon (star_of ps star_emp)) (canon e)))

-- a star needs the steps of its whole items, and of what comes after them
pub steps_of-star_of : (ps : List StreamPrefix) (e : StreamPrefix) → steps_of (star_of ps e) ≡ max (steps_of (star_of ps star_emp)) (steps_of e)
steps_of-star_of [] e = omega arith
steps_of-star_of (p ∷ ps) e = omega (arith, steps_of-star_of ps e)

-- an event is known by its steps and its leaf
pub is_under : (e x : StreamEvent) (i : Step) → e.path ≡ i ∷ x.path → e.leaf ≡ x.leaf → e ≡ under i x
is_under e x i h k = λ j. record { path = h j; leaf = k j }

-- of a star's steps, those of its whole items
pub items_within : (v : Vec Prefix Global) (e : StarEnd) → steps_of (prefix_of (Star v e)) ≤ 63 → steps_of (star_of (map prefix_of v.items) star_emp) ≤ 63
items_within v e h =
    let split = ap steps_of (prefix_of-star v e) ∙ steps_of-star_of (map prefix_of v.items) (end_of e) in
    omega (arith, split, h)

-- and those of what comes after them
pub end_within : (v : Vec Prefix Global) (e : StarEnd) → steps_of (prefix_of (Star v e)) ≤ 63 → steps_of (end_of e) ≤ 63
end_within v e h =
    let split = ap steps_of (prefix_of-star v e) ∙ steps_of-star_of (map prefix_of v.items) (end_of e) in
    omega (arith, split, h)

-- a canonical word with room for a step more
pub liftable : (p : StreamPrefix) (w : List StreamEvent) → 1 + steps_of p ≤ 63 → w ≡ canon p → IsWithin 62 w
liftable p w l e = rw e (within_more (steps_of p) 62 (canon p) (omega arith) (canon_within p))

pub ruleset canons = (row_of-hidden, canon-star_of, steps_of-star_of, steps_within_reach, canon_is_word, pre-canon)
