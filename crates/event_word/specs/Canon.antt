-- The canonical word of a prefix.
use Rattle.std.specs.Prelude.{List, [], ◌∷◌, ◌++◌, map}
use Rattle.stream_prefix.specs.StreamPrefix.{StreamPrefix, eps_emp, one_emp, one_full, int_emp, int_full, par_both, cat_fst, cat_both, sum_emp, in_left, in_right, star_emp, star_done, star_first, star_rest}
use Rattle.event_word.specs.declared.event.Step.TheVariants.{Left, Right, First}
use Rattle.event_word.specs.declared.event.Leaf.TheVariants.{One, Int, Inl, Inr, Cut, Item, End}
use Rattle.event_word.specs.StreamEvent.{StreamEvent, leaf_of, under}

-- the word that says a prefix: of a pair the left word first, of a sequence the first part, Cut and the second
abbrev pub canon : StreamPrefix → List StreamEvent
canon eps_emp = []
canon one_emp = []
canon one_full = leaf_of One ∷ []
canon int_emp = []
canon (int_full n) = leaf_of (Int n) ∷ []
canon (par_both p q) = map (under Left) (canon p) ++ map (under Right) (canon q)
canon (cat_fst p) = map (under First) (canon p)
canon (cat_both p q) = map (under First) (canon p) ++ leaf_of Cut ∷ canon q
canon sum_emp = []
canon (in_left p) = leaf_of Inl ∷ canon p
canon (in_right p) = leaf_of Inr ∷ canon p
canon star_emp = []
canon star_done = leaf_of End ∷ []
canon (star_first p) = leaf_of Item ∷ map (under First) (canon p)
canon (star_rest p q) = leaf_of Item ∷ (map (under First) (canon p) ++ leaf_of Cut ∷ canon q)
