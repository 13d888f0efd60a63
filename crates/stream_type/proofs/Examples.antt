-- The definitions at single types: each answer was worked out by hand, and the check computes it.
use Rattle.std.proofs.Common.{◌≡◌, true, false, refl}
use Rattle.stream_type.specs.StreamType.{eps, one, int, cat, par, sum, star, null_of, height_of, reach_of, size_of}

-- a leaf has no step, one level and one node
reach_of-int : reach_of int ≡ 0
reach_of-int = refl

height_of-int : height_of int ≡ 1
height_of-int = refl

-- `Int . 1*`: one step to the number, and one to an item of what is left after the cut
reach_of-list_after_number : reach_of (cat int (star one)) ≡ 1
reach_of-list_after_number = refl

height_of-list_after_number : height_of (cat int (star one)) ≡ 3
height_of-list_after_number = refl

size_of-list_after_number : size_of (cat int (star one)) ≡ 4
size_of-list_after_number = refl

-- a cut makes no step: a long chain of second parts has the reach of one
reach_of-chain : reach_of (cat int (cat int (cat int int))) ≡ 1
reach_of-chain = refl

-- a chain of first parts does not
reach_of-nested : reach_of (cat (cat (cat int int) int) int) ≡ 3
reach_of-nested = refl

-- a choice makes no step, and either side of a `par` makes one
reach_of-choice : reach_of (sum one (par int int)) ≡ 1
reach_of-choice = refl

reach_of-deep_side : reach_of (par one (star int)) ≡ 2
reach_of-deep_side = refl

-- nothing comes on two streams where nothing comes on either
null_of-two_empty : null_of (par eps (par eps eps)) ≡ true
null_of-two_empty = refl

null_of-one_side : null_of (par eps one) ≡ false
null_of-one_side = refl

-- the mark between two parts, and the mark that ends a list, still come
null_of-empty_parts : null_of (cat eps eps) ≡ false
null_of-empty_parts = refl

null_of-empty_items : null_of (star eps) ≡ false
null_of-empty_items = refl

null_of-empty_choice : null_of (sum eps eps) ≡ false
null_of-empty_choice = refl
