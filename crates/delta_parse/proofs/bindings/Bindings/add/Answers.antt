use Rattle.std.proofs.Common.{◌≡◌, ◌∙◌, false, ap, [], ◌∷◌, ◌++◌}
use Rattle.delta_parse.specs.Bindings.{bound_of, has}
use Rattle.delta_parse.proofs.BindingSteps.{added_name}
use Rattle.delta_parse.proofs.bindings.Bindings.add.Goals as goal

pub returns-in_ok-insert-in-NamesType : goal.returns-in_ok-insert-in-NamesType
returns-in_ok-insert-in-NamesType c =
    let s = bound_of c.args.self.now in
    let new : has c.args.self.now.types.keys c.args.name ≡ false = (rw c.in-NamesType.is at c.requires.once) in
    let keys : c.insert.new.self.keys ≡ c.args.self.now.types.keys ++ (c.args.name ∷ []) = c.in_ok-insert-in-NamesType.ensures.keys ∙ added_name c.args.self.now.types.keys c.args.name new in
    rw c.in-NamesType.is (ap (λ ts. record s { types = ts }) keys)
