-- What stands after a head, branches, arguments and calls: runs of equal parts are equal, and where more calls are
-- made than were left in a part, so they are in the whole.
use Rattle.std.proofs.Common.{◌≡◌, ℕ, ◌-◌, false, List, [], ◌∷◌, map, refl, ap, ◌∙◌}
use Rattle.bunch.specs.declared.name.Name.{Name}
use Rattle.stream_type.specs.declared.ty.Ty.{Ty}
use Rattle.stream_type.specs.StreamType.{StreamType, type_of, eps}
use Rattle.stream_prefix.specs.StreamPrefix.{StreamPrefix, eps_emp}
use Rattle.bunch.specs.Names.{value_at}
use Rattle.bunch.specs.BunchTree.{tree_of, leaf_names}
use Rattle.hist_value.specs.HistValue.{HistValue, unit_value, list_of}
use Rattle.delta_tree.specs.Tree.{expression_of}
use Rattle.core_term.specs.CoreTerm.{leaf_types, typed_names_of}
use Rattle.core_term.specs.Environment.{Environment, NameTypes, by_side}
use Rattle.core_term.specs.Agreement.{types_in}
use Rattle.core_term.specs.Meaning.{Past, no_past, Calls}
use Rattle.core_term.specs.Run.{Run}
use Rattle.core_term.specs.Params.{names_in}
use Rattle.delta_meaning.specs.KnownTypes.{names_known}
use Rattle.delta_meaning.specs.SourceBody.{SourceBody}
use Rattle.delta_meaning.specs.SourceMeaning.{source_run, source_body_run, source_past}
use Rattle.delta_meaning.specs.Evaluated.{is_left}
use Rattle.delta_meaning.specs.Functions.{body_of}
use Rattle.delta_meaning.specs.declared.functions.Function.{Function}
use Rattle.delta_meaning.proofs.MainRuns.{params_have_types}

-- a list is no value of the left side of a sum
pub list_is_not_left : (vs : List HistValue) → is_left (list_of vs) ≡ false
list_is_not_left [] = refl
list_is_not_left (v ∷ vs) = refl

past_names-listed : (ps : List (Name × Ty)) → names_in ps ≡ map (λ (e : ℕ × StreamType). e.0) (typed_names_of ps)
past_names-listed [] = refl
past_names-listed (p ∷ ps) = ap (λ (l : List ℕ). p.0.0 ∷ l) (past_names-listed ps)

-- a function's body, in the scope of its parameters
pub body_runs : (functions : ℕ → SourceBody) (call : Calls) (f : Function) (b : SourceBody) (vs : List HistValue) (ps : List StreamPrefix) (xs : List ℕ) (ts : List StreamType) (past : Past)
    → body_of f ≡ b → xs ≡ leaf_names (tree_of f.params) → ts ≡ leaf_types (tree_of f.params) → past ≡ by_side xs no_past (value_at unit_value (names_in f.past.items) vs)
    → source_run functions call (names_known f.known.items) (expression_of f.body.now) (value_at eps xs ts) (type_of f.result) (value_at eps_emp xs ps) past ≡ source_body_run functions call b vs ps
body_runs functions call f b vs ps xs ts past e n m k =
    let t : value_at eps xs ts ≡ types_in (tree_of f.params) = params_have_types (tree_of f.params) xs ts n m in
    let s : value_at eps_emp xs ps ≡ value_at eps_emp (leaf_names (tree_of f.params)) ps = ap (λ (l : List ℕ). value_at eps_emp l ps) n in
    let p : past ≡ source_past (body_of f) vs =
    k ∙ (ap (λ (l : List ℕ). by_side l no_past (value_at unit_value (names_in f.past.items) vs)) n ∙ ap (λ (l : List ℕ). by_side (leaf_names (tree_of f.params)) no_past (value_at unit_value l vs)) (past_names-listed f.past.items)) in
    let f1 : NameTypes → Run = λ l. source_run functions call (names_known f.known.items) (expression_of f.body.now) l (type_of f.result) (value_at eps_emp xs ps) past in
    let f2 : Environment → Run = λ l. source_run functions call (names_known f.known.items) (expression_of f.body.now) (types_in (tree_of f.params)) (type_of f.result) l past in
    let f3 : Past → Run = λ l. source_run functions call (names_known f.known.items) (expression_of f.body.now) (types_in (tree_of f.params)) (type_of f.result) (value_at eps_emp (leaf_names (tree_of f.params)) ps) l in
    let f4 : SourceBody → Run = λ l. source_body_run functions call l vs ps in
    ap f1 t ∙ (ap f2 s ∙ (ap f3 p ∙ ap f4 e))
