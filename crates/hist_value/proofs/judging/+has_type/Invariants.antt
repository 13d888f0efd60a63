-- The items seen so far have the type, so the rest decides.
use Rattle.std.proofs.Common.{◌↔◌, drop, map}
use Rattle.hist_value.specs.HistType.{hist_type_of, list_type}
use Rattle.hist_value.specs.HistValue.{hist_value_of, list_of, HasType}
use Rattle.hist_value.proofs.judging.+has_type.Given as goal

abbrev pub invariant-all_have-loop-item : goal.invariant-all_have-loop-item
invariant-all_have-loop-item l =
    HasType (list_type (hist_type_of l.s)) (list_of (map hist_value_of l.items)) ↔ HasType (list_type (hist_type_of l.s)) (list_of (map hist_value_of (drop l.item-index l.items)))
