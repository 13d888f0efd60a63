-- Events with other numbers: they are admitted where they were, stand for the same prefix with these numbers in it, and
-- make its canonical word.
use Rattle.std.proofs.Common.{◌≡◌, ◌∙◌, ℤ, List, [], ◌∷◌, ◌++◌, map, ap, ap₂, refl, sym}
use Rattle.std.proofs.lemmas.List.{map-append}
use Rattle.stream_type.specs.StreamType.{StreamType, one, int, cat, par, sum, star}
use Rattle.stream_prefix.specs.StreamPrefix.{StreamPrefix, par_both, cat_fst, cat_both, in_left, in_right, star_first, star_rest}
use Rattle.event_word.specs.declared.event.Step.{Step}
use Rattle.event_word.specs.declared.event.Step.TheVariants.{Left, Right, First}
use Rattle.event_word.specs.declared.event.Leaf.{Leaf}
use Rattle.event_word.specs.declared.event.Leaf.TheVariants.{One, Int, Inl, Inr, Cut, Item, End}
use Rattle.event_word.specs.StreamEvent.{StreamEvent, leaf_of, under}
use Rattle.event_word.specs.Admits.{AdmitsAt}
use Rattle.event_word.specs.Word.{one_at}
use Rattle.event_word.specs.Canon.{canon}
use Rattle.other_numbers.specs.Numbers.{exchanged}
use Rattle.other_numbers.specs.EventNumbers.{exchanged_leaf, exchanged_event}
use Rattle.other_numbers.specs.Laws.{EventsGoAlong, AdmittedGoAlong, CanonGoesAlong}
use Rattle.other_numbers.proofs.PrefixNumbers.{emp_stays}

module _ (f : ℤ → ℤ) where
  -- a leaf at the end of its steps, as a prefix
  one_at_goes : (ps : List Step) (x : Leaf) (s : StreamType) → one_at ps (exchanged_leaf f x) s ≡ exchanged f (one_at ps x s)
  one_at_goes (Left ∷ ps) x (par s t) = ap₂ par_both (one_at_goes ps x s) (sym (emp_stays f t))
  one_at_goes (Right ∷ ps) x (par s t) = ap₂ par_both (sym (emp_stays f s)) (one_at_goes ps x t)
  one_at_goes (First ∷ ps) x (cat s t) = ap cat_fst (one_at_goes ps x s)
  one_at_goes [] Cut (cat s t) = ap₂ cat_both (sym (emp_stays f s)) (sym (emp_stays f t))
  one_at_goes [] One one = refl
  one_at_goes [] (Int n) int = refl
  one_at_goes [] Inl (sum s t) = ap in_left (sym (emp_stays f s))
  one_at_goes [] Inr (sum s t) = ap in_right (sym (emp_stays f t))
  one_at_goes [] Item (star s) = ap star_first (sym (emp_stays f s))
  one_at_goes [] End (star s) = refl
  one_at_goes _ _ s = sym (emp_stays f s)

  -- it is admitted where it was
  admitted_goes : (s : StreamType) (ps : List Step) (x : Leaf) → AdmitsAt s ps x → AdmitsAt s ps (exchanged_leaf f x)
  admitted_goes (par s t) (Left ∷ ps) x h = admitted_goes s ps x h
  admitted_goes (par s t) (Right ∷ ps) x h = admitted_goes t ps x h
  admitted_goes (cat s t) (First ∷ ps) x h = admitted_goes s ps x h
  admitted_goes (cat s t) [] Cut h = h
  admitted_goes one [] One h = tt
  admitted_goes int [] (Int n) h = tt
  admitted_goes (sum s t) [] Inl h = tt
  admitted_goes (sum s t) [] Inr h = tt
  admitted_goes (star s) [] Item h = tt
  admitted_goes (star s) [] End h = tt
  admitted_goes _ _ _ h = absurd h

  -- a step in front of each event
  under_goes : (i : Step) (w : List StreamEvent) → map (under i) (map (exchanged_event f) w) ≡ map (exchanged_event f) (map (under i) w)
  under_goes i [] = refl
  under_goes i (x ∷ w) = ap (λ v. under i (exchanged_event f x) ∷ v) (under_goes i w)

  -- two words, one after the other
  words_go : (w v w' v' : List StreamEvent) → w' ≡ map (exchanged_event f) w → v' ≡ map (exchanged_event f) v → w' ++ v' ≡ map (exchanged_event f) (w ++ v)
  words_go w v w' v' g h = ap₂ ◌++◌ g h ∙ sym (map-append (exchanged_event f) w v)

  -- the word of a part
  part_goes : (i : Step) (w w' : List StreamEvent) → w' ≡ map (exchanged_event f) w → map (under i) w' ≡ map (exchanged_event f) (map (under i) w)
  part_goes i w w' h = ap (map (under i)) h ∙ under_goes i w

  -- a part, a mark and what follows
  behind_mark : (p q : StreamPrefix) → canon (exchanged f p) ≡ map (exchanged_event f) (canon p) → canon (exchanged f q) ≡ map (exchanged_event f) (canon q)
      → map (under First) (canon (exchanged f p)) ++ leaf_of Cut ∷ canon (exchanged f q) ≡ map (exchanged_event f) (map (under First) (canon p) ++ leaf_of Cut ∷ canon q)
  behind_mark p q g h = words_go (map (under First) (canon p)) (leaf_of Cut ∷ canon q) _ _ (part_goes First (canon p) (canon (exchanged f p)) g) (ap (λ w. leaf_of Cut ∷ w) h)

  canon_goes : (p : StreamPrefix) → canon (exchanged f p) ≡ map (exchanged_event f) (canon p)
  canon_goes (par_both p q) =
      words_go (map (under Left) (canon p)) (map (under Right) (canon q)) _ _ (part_goes Left (canon p) (canon (exchanged f p)) (canon_goes p)) (part_goes Right (canon q) (canon (exchanged f q)) (canon_goes q))
  canon_goes (cat_fst p) = part_goes First (canon p) (canon (exchanged f p)) (canon_goes p)
  canon_goes (cat_both p q) = behind_mark p q (canon_goes p) (canon_goes q)
  canon_goes (in_left p) = ap (λ w. leaf_of Inl ∷ w) (canon_goes p)
  canon_goes (in_right p) = ap (λ w. leaf_of Inr ∷ w) (canon_goes p)
  canon_goes (star_first p) = ap (λ w. leaf_of Item ∷ w) (part_goes First (canon p) (canon (exchanged f p)) (canon_goes p))
  canon_goes (star_rest p q) = ap (λ w. leaf_of Item ∷ w) (behind_mark p q (canon_goes p) (canon_goes q))
  canon_goes _ = refl

pub events_go_along : EventsGoAlong
events_go_along f s x = one_at_goes f x.path x.leaf s

pub admitted_go_along : AdmittedGoAlong
admitted_go_along f s x h = admitted_goes f s x.path x.leaf h

pub canon_goes_along : CanonGoesAlong
canon_goes_along f p = canon_goes f p
