-- The next entry is kept, or it is hidden.
use Rattle.std.proofs.Common.{◌≡◌, ◌∙◌, ◌+◌, ◌∷◌, [], ◌++◌, take, ap}
use Rattle.std.proofs.lemmas.Bool.{ne_eqb, eq-eqb}
use Rattle.std.proofs.lemmas.List.{take_all}
use Rattle.hist_value.specs.HistType.{hist_type_of}
use Rattle.hist_value.specs.Environment.{types_of}
use Rattle.bunch_rules.specs.Derivation.{hidden}
use Rattle.delta_derive.proofs.HandedOn.{there}
use Rattle.delta_derive.proofs.KnownNames.{kept-next, hidden-next}
use Rattle.delta_derive.proofs.open.hidden.Goals.{then-entry-x+in-Ok, else-entry-x}
use Rattle.delta_derive.proofs.open.hidden.Goals as goal

pub loop-entry-preserved : goal.loop-entry-preserved
loop-entry-preserved c =
    elim c.if-entry-x.branch [
      | then-entry-x+in-Ok w ↦
          there w.copy_type.result (λ t. hist_type_of t ≡ hist_type_of c.entry-item.result.1) (λ t. w.put_entry.new.known.items ≡ c.loop-entry.kept.items ++ (c.entry-item.result.0, t) ∷ [])
          (types_of c.if-entry-x.kept.items ≡ hidden c.args.x.0 (types_of (take (c.loop-entry.entry-index + 1) c.args.known.now))) w.copy_type.ensures w.in-Ok.ensures
          (λ t same is. ap (λ v. types_of v.items) w.kept-is ∙ ap types_of is
          ∙ kept-next c.args.x.0 c.args.known.now c.loop-entry.kept.items c.loop-entry.entry-index c.entry-item.result t c.loop-entry-test.true c.entry-item.is same (ne_eqb _ _ w.if-entry-x.true) c.loop-entry.invariant)
      | else-entry-x w ↦
          ap (λ v. types_of v.items) w.kept-is
          ∙ hidden-next c.args.x.0 c.args.known.now c.loop-entry.kept.items c.loop-entry.entry-index c.entry-item.result c.loop-entry-test.true c.entry-item.is (eq-eqb _ _ w.if-entry-x.false) c.loop-entry.invariant
    ]

pub returns : goal.returns
returns c = c.loop-entry.invariant ∙ ap (λ l. hidden c.args.x.0 (types_of l)) (take_all c.loop-entry.entry-index c.args.known.now c.loop-entry-test.false)
