-- Worked examples of events, faults, words and canonical words.
use Rattle.std.proofs.Common.{◌≡◌, [], ◌∷◌, Some, None, refl}
use Rattle.std.specs.Prelude.{pos}
use Rattle.stream_type.specs.StreamType.{eps, one, int, cat, par, star}
use Rattle.stream_prefix.specs.StreamPrefix.{int_emp, int_full, par_both, cat_fst, cat_both, in_right, star_emp, star_first, star_rest, emp}
use Rattle.event_word.specs.declared.event.Step.TheVariants.{Left, Right, First}
use Rattle.event_word.specs.declared.event.Leaf.TheVariants.{One, Int, Inr, Cut, Item, End}
use Rattle.event_word.specs.declared.fault.EventFault.TheVariants.{Ended, WrongStep, WrongLeaf, EarlyCut}
use Rattle.event_word.specs.StreamEvent.{leaf_of, under}
use Rattle.event_word.specs.EventFault.{fault_of}
use Rattle.event_word.specs.Word.{one_of, after, after_word, pre}
use Rattle.event_word.specs.Canon.{canon}
use Rattle.event_word.specs.Steps.{steps_of}

-- the first number of `Int . Int`
first_number : one_of (under First (leaf_of (Int (pos 1)))) (cat int int) ≡ cat_fst (int_full (pos 1))
first_number = refl

-- a cut, where nothing more can come on the first part
cut : one_of (leaf_of Cut) (cat eps int) ≡ cat_both (emp eps) int_emp
cut = refl

-- an item begins: one number and then the rest of them
item : after (leaf_of Item) (star int) ≡ cat int (star int)
item = refl

-- a star ends
end : after_word (leaf_of Item ∷ under First (leaf_of (Int (pos 3))) ∷ leaf_of Cut ∷ leaf_of End ∷ []) (star int) ≡ eps
end = refl

-- that nothing more can come is seen before the step and before the leaf
ended : fault_of (under Left (leaf_of One)) (par eps eps) ≡ Some (Ended 0)
ended = refl

ended_inside : fault_of (under Left (leaf_of One)) (par eps int) ≡ Some (Ended 1)
ended_inside = refl

wrong_step : fault_of (under First (under Left (leaf_of One))) (cat int one) ≡ Some (WrongStep 1)
wrong_step = refl

wrong_leaf : fault_of (under First (leaf_of One)) (cat int one) ≡ Some (WrongLeaf 1)
wrong_leaf = refl

early_cut : fault_of (leaf_of Cut) (cat int one) ≡ Some (EarlyCut 0)
early_cut = refl

no_fault : fault_of (under Right (leaf_of Cut)) (par int (cat eps one)) ≡ None
no_fault = refl

-- a pair's events come in any order, and stand for one prefix
left_first : pre (par int int) (under Left (leaf_of (Int (pos 1))) ∷ under Right (leaf_of (Int (pos 2))) ∷ []) ≡ par_both (int_full (pos 1)) (int_full (pos 2))
left_first = refl

right_first : pre (par int int) (under Right (leaf_of (Int (pos 2))) ∷ under Left (leaf_of (Int (pos 1))) ∷ []) ≡ par_both (int_full (pos 1)) (int_full (pos 2))
right_first = refl

-- the canonical word has the left one first
pair_word : canon (par_both (int_full (pos 1)) (int_full (pos 2))) ≡ under Left (leaf_of (Int (pos 1))) ∷ under Right (leaf_of (Int (pos 2))) ∷ []
pair_word = refl

-- a whole item, and then one of which nothing came
star_word : canon (star_rest (int_full (pos 3)) (star_first int_emp)) ≡ leaf_of Item ∷ under First (leaf_of (Int (pos 3))) ∷ leaf_of Cut ∷ leaf_of Item ∷ []
star_word = refl

-- the second part's steps do not lie under the first
second_word : canon (cat_both (int_full (pos 3)) (in_right (cat_fst (int_full (pos 4))))) ≡ under First (leaf_of (Int (pos 3))) ∷ leaf_of Cut ∷ leaf_of Inr ∷ under First (leaf_of (Int (pos 4))) ∷ []
second_word = refl

-- the bound of a star's steps is that of an item's and one
star_steps : steps_of (star_rest (par_both (int_full (pos 3)) int_emp) star_emp) ≡ 2
star_steps = refl
