-- The first name with its value comes last, and where no name is left, nothing is bound.
use Rattle.std.proofs.Common.{◌≡◌, List, [], ◌∷◌, length, map, refl, ap, ap₂, ◌∙◌, arith}
use Rattle.std.proofs.lemmas.Result.{err_from_is_err_and}
use Rattle.bunch.specs.Names.{put, value_at}
use Rattle.hist_value.specs.HistValue.{unit_value, hist_value_of}
use Rattle.hist_value.specs.Environment.{environment_of}
use Rattle.core_term.specs.Params.{names_in}
use Rattle.core_term.proofs.ValueEntries.{environment-push}
use Rattle.delta_meaning.proofs.scope.+bound.Goals as goal

pub returns-in_ok-push-in-Some-split_first : goal.returns-in_ok-push-in-Some-split_first
returns-in_ok-push-in-Some-split_first t c =
    let x = c.in-Some.name.now.0 in
    let w = c.in_ok-copy_value-in-Some-split_first.field-0 in
    let es = c.in_ok-entries-in-Some-split_first.entries.items in
    let n : c.args.names.now ≡ c.in-Some.name.now ∷ c.in-Some.rest.now = c.in-Some.ensures.cases.0 in
    let m : c.args.values.now ≡ c.in-Some-split_first.v.now ∷ c.in-Some-split_first.others.now = c.in-Some-split_first.ensures.cases.0 in
    let v : hist_value_of w ≡ hist_value_of c.in-Some-split_first.v.now = c.in_ok-copy_value-in-Some-split_first.ensures in
    let h : environment_of es ≡ value_at unit_value (names_in c.in-Some.rest.now) (map hist_value_of c.in-Some-split_first.others.now) = c.in_ok-entries-in-Some-split_first.ensures in
    let e : environment_of c.push.new.self.items ≡ put x.0 (hist_value_of w) (environment_of es) = rw c.in_ok-push-in-Some-split_first.ensures.items (environment-push es (x, w)) in
    rw (n, m) (e ∙ ap₂ (put x.0) v h)

no_item : {A : Type 0} (xs : List A) → length xs ≡ 0 → xs ≡ []
no_item [] h = refl
no_item (x ∷ xs) h = absurd (omega (arith, h))

pub returns-in-None : goal.returns-in-None
returns-in-None t c =
    let none : c.args.names.now ≡ [] = no_item c.args.names.now c.in-None.ensures.cases in
    rw (c.new.ensures.items, none) refl

pub bound-requires : goal.bound-requires
bound-requires t c =
    let n : c.args.names.now ≡ c.in-Some.name.now ∷ c.in-Some.rest.now = c.in-Some.ensures.cases.0 in
    let longer : length c.args.names.now ≡ length (c.in-Some.name.now ∷ c.in-Some.rest.now) = ap length n in
    (omega (arith, longer), tt)

pub returns-in_err-entries-in-Some-split_first : goal.returns-in_err-entries-in-Some-split_first
returns-in_err-entries-in-Some-split_first t c =
    let exit = err_from_is_err_and c.from_residual.result c.from_residual.ensures.1 in
    rw exit.1 tt

pub returns-in_err-copy_value-in-Some-split_first : goal.returns-in_err-copy_value-in-Some-split_first
returns-in_err-copy_value-in-Some-split_first t c =
    let exit = err_from_is_err_and c.from_residual-in_err-copy_value-in-Some-split_first.result c.from_residual-in_err-copy_value-in-Some-split_first.ensures.1 in
    rw exit.1 tt

pub returns-in_err-push-in-Some-split_first : goal.returns-in_err-push-in-Some-split_first
returns-in_err-push-in-Some-split_first t c =
    let exit = err_from_is_err_and c.from_residual-in_err-push-in-Some-split_first.result c.from_residual-in_err-push-in-Some-split_first.ensures.1 in
    rw exit.1 tt
