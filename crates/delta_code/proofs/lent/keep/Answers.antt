-- What the argument gave stands behind what was found, with its type from before.
use Rattle.std.proofs.Common.{◌∙◌, ◌||◌, ◌++◌, ◌∷◌, [], Bool, map, ap, sym, refl}
use Rattle.std.proofs.lemmas.List.{map-append}
use Rattle.stream_type.specs.StreamType.{type_of}
use Rattle.stream_prefix.specs.declared.prefix.Prefix.{Prefix}
use Rattle.stream_prefix.specs.StreamPrefix.{is_maximal}
use Rattle.stream_prefix.specs.Tree.{prefix_of}
use Rattle.machine_parts.specs.Entry.{entry_in}
use Rattle.delta_code.proofs.lent.keep.Goals as goal
use Rattle.delta_code.proofs.lent.keep.Goals.{then-is_name, else-is_name}

pub returns-clause-ty : goal.returns-clause-ty
returns-clause-ty c = ap type_of c.replace-ty.ensures.after

pub returns-clause-found : goal.returns-clause-found
returns-clause-found c =
    let before = c.args.found.now.items in
    ap (map entry_in) c.in_ok-push.ensures.items
    ∙ (map-append entry_in before (record { name = c.args.x; ty = c.replace-ty.result; prefix = c.into_inner-prefix.result } ∷ [])
    ∙ (λ j. map entry_in before ++ record { name = c.args.x.0; type = type_of (c.replace-ty.ensures.value j); prefix = prefix_of (c.into_inner-prefix.ensures j) } ∷ []))

pub returns-clause-calls : goal.returns-clause-calls
returns-clause-calls c = refl

pub returns-clause-level : goal.returns-clause-level
returns-clause-level c = refl

pub returns-clause-are_shut : goal.returns-clause-are_shut
returns-clause-are_shut c =
    let whole = is_maximal (prefix_of c.args.told.output.value) in
    elim c.if-is_name.branch [
      | then-is_name w ↦ w.one-is ∙ (w.if-is_name.true ∙ ap (λ (b : Bool). b || whole) (sym w.if-is_name.true))
      | else-is_name w ↦ w.one-is ∙ (w.maximal.ensures ∙ (ap (λ (p : Prefix). is_maximal (prefix_of p)) w.deref.ensures ∙ ap (λ (b : Bool). b || whole) (sym w.if-is_name.false)))
    ]
