-- What came on the two parts of a sequence, by what was copied.
use Rattle.std.proofs.Common.{sym, ap, ◌∙◌}
use Rattle.std.proofs.lemmas.Result.{err_from_is_err_and}
use Rattle.stream_type.specs.StreamType.{type_of}
use Rattle.stream_prefix.specs.declared.prefix.Prefix.{Prefix}
use Rattle.stream_prefix.specs.Tree.{prefix_of}
use Rattle.core_term.specs.Parts.{first_part, second_part}
use Rattle.delta_meaning.proofs.parts.cat_parts.Goals as goal

pub returns-in_ok-nothing_yet-in-CatFst : goal.returns-in_ok-nothing_yet-in-CatFst
returns-in_ok-nothing_yet-in-CatFst c =
    let t = type_of c.args.t.now in
    record {
      first = c.in_ok-copied-in-CatFst.ensures ∙ (ap (λ (x : Prefix). prefix_of x) c.deref.ensures ∙ sym (ap (λ (x : Prefix). first_part (prefix_of x)) c.in-CatFst.is));
      second = c.in_ok-nothing_yet-in-CatFst.ensures ∙ sym (ap (λ (x : Prefix). second_part t (prefix_of x)) c.in-CatFst.is);
    }

pub returns-in_ok-copied-in-CatBoth-2 : goal.returns-in_ok-copied-in-CatBoth-2
returns-in_ok-copied-in-CatBoth-2 c =
    let t = type_of c.args.t.now in
    record {
      first = c.in_ok-copied-in-CatBoth.ensures ∙ (ap (λ (x : Prefix). prefix_of x) c.deref-in-CatBoth.ensures ∙ sym (ap (λ (x : Prefix). first_part (prefix_of x)) c.in-CatBoth.is));
      second = c.in_ok-copied-in-CatBoth-2.ensures ∙ (ap (λ (x : Prefix). prefix_of x) c.deref-in-CatBoth-2.ensures ∙ sym (ap (λ (x : Prefix). second_part t (prefix_of x)) c.in-CatBoth.is));
    }

pub returns-in_err-copied-in-CatFst : goal.returns-in_err-copied-in-CatFst
returns-in_err-copied-in-CatFst c =
    let exit = err_from_is_err_and c.from_residual.result c.from_residual.ensures.1 in
    rw exit.1 (record { first = tt; second = tt })

pub returns-in_err-copied-in-CatBoth : goal.returns-in_err-copied-in-CatBoth
returns-in_err-copied-in-CatBoth c =
    let exit = err_from_is_err_and c.from_residual-in_err-copied-in-CatBoth.result c.from_residual-in_err-copied-in-CatBoth.ensures.1 in
    rw exit.1 (record { first = tt; second = tt })
