-- A form of a written type stands for what its parts stand for.
use Rattle.std.proofs.Common.{sym, ap, ap₂, ◌∙◌}
use Rattle.std.proofs.lemmas.Result.{err_from_is_err_and, IfOk-weaker}
use Rattle.stream_type.specs.StreamType.{StreamType, cat, par, sum, star}
use Rattle.delta_tree.specs.declared.types.TyForm.{TyForm}
use Rattle.delta_tree.specs.Tree.{type_form_of}
use Rattle.delta_meaning.specs.TypeNames.{type_meant}
use Rattle.delta_meaning.specs.KnownTypes.{names_known}
use Rattle.delta_meaning.proofs.types.+meant.Goals as goal

pub form_meant-returns-in_ok-boxed_type-in-Cat-2 : goal.form_meant-returns-in_ok-boxed_type-in-Cat-2
form_meant-returns-in_ok-boxed_type-in-Cat-2 t c =
    λ at. ap₂ (λ (a b : StreamType). cat a b) c.in_ok-boxed_type-in-Cat.ensures c.in_ok-boxed_type-in-Cat-2.ensures
    ∙ sym (ap (λ (f : TyForm). type_meant (names_known c.args.known.now) (type_form_of at f)) c.in-Cat.is)

pub form_meant-returns-in_ok-boxed_type-in-Par-2 : goal.form_meant-returns-in_ok-boxed_type-in-Par-2
form_meant-returns-in_ok-boxed_type-in-Par-2 t c =
    λ at. ap₂ (λ (a b : StreamType). par a b) c.in_ok-boxed_type-in-Par.ensures c.in_ok-boxed_type-in-Par-2.ensures
    ∙ sym (ap (λ (f : TyForm). type_meant (names_known c.args.known.now) (type_form_of at f)) c.in-Par.is)

pub form_meant-returns-in_ok-boxed_type-in-Sum-2 : goal.form_meant-returns-in_ok-boxed_type-in-Sum-2
form_meant-returns-in_ok-boxed_type-in-Sum-2 t c =
    λ at. ap₂ (λ (a b : StreamType). sum a b) c.in_ok-boxed_type-in-Sum.ensures c.in_ok-boxed_type-in-Sum-2.ensures
    ∙ sym (ap (λ (f : TyForm). type_meant (names_known c.args.known.now) (type_form_of at f)) c.in-Sum.is)

pub form_meant-returns-in_ok-boxed_type-in-Star : goal.form_meant-returns-in_ok-boxed_type-in-Star
form_meant-returns-in_ok-boxed_type-in-Star t c = λ at. ap (λ (a : StreamType). star a) c.in_ok-boxed_type-in-Star.ensures ∙ sym (ap (λ (f : TyForm). type_meant (names_known c.args.known.now) (type_form_of at f)) c.in-Star.is)

pub form_meant-returns-in-Named : goal.form_meant-returns-in-Named
form_meant-returns-in-Named t c =
    IfOk-weaker c.named.result _ _ (λ a k at. k ∙ sym (ap (λ (f : TyForm). type_meant (names_known c.args.known.now) (type_form_of at f)) c.in-Named.is)) c.named.ensures

pub form_meant-returns-in_err-boxed_type-in-Cat : goal.form_meant-returns-in_err-boxed_type-in-Cat
form_meant-returns-in_err-boxed_type-in-Cat t c =
    let exit = err_from_is_err_and c.from_residual.result c.from_residual.ensures.1 in
    rw exit.1 tt

pub form_meant-returns-in_err-boxed_type-in-Cat-2 : goal.form_meant-returns-in_err-boxed_type-in-Cat-2
form_meant-returns-in_err-boxed_type-in-Cat-2 t c =
    let exit = err_from_is_err_and c.from_residual-in_err-boxed_type-in-Cat-2.result c.from_residual-in_err-boxed_type-in-Cat-2.ensures.1 in
    rw exit.1 tt

pub form_meant-returns-in_err-boxed_type-in-Par : goal.form_meant-returns-in_err-boxed_type-in-Par
form_meant-returns-in_err-boxed_type-in-Par t c =
    let exit = err_from_is_err_and c.from_residual-in_err-boxed_type-in-Par.result c.from_residual-in_err-boxed_type-in-Par.ensures.1 in
    rw exit.1 tt

pub form_meant-returns-in_err-boxed_type-in-Par-2 : goal.form_meant-returns-in_err-boxed_type-in-Par-2
form_meant-returns-in_err-boxed_type-in-Par-2 t c =
    let exit = err_from_is_err_and c.from_residual-in_err-boxed_type-in-Par-2.result c.from_residual-in_err-boxed_type-in-Par-2.ensures.1 in
    rw exit.1 tt

pub form_meant-returns-in_err-boxed_type-in-Sum : goal.form_meant-returns-in_err-boxed_type-in-Sum
form_meant-returns-in_err-boxed_type-in-Sum t c =
    let exit = err_from_is_err_and c.from_residual-in_err-boxed_type-in-Sum.result c.from_residual-in_err-boxed_type-in-Sum.ensures.1 in
    rw exit.1 tt

pub form_meant-returns-in_err-boxed_type-in-Sum-2 : goal.form_meant-returns-in_err-boxed_type-in-Sum-2
form_meant-returns-in_err-boxed_type-in-Sum-2 t c =
    let exit = err_from_is_err_and c.from_residual-in_err-boxed_type-in-Sum-2.result c.from_residual-in_err-boxed_type-in-Sum-2.ensures.1 in
    rw exit.1 tt

pub form_meant-returns-in_err-boxed_type-in-Star : goal.form_meant-returns-in_err-boxed_type-in-Star
form_meant-returns-in_err-boxed_type-in-Star t c =
    let exit = err_from_is_err_and c.from_residual-in_err-boxed_type-in-Star.result c.from_residual-in_err-boxed_type-in-Star.ensures.1 in
    rw exit.1 tt
