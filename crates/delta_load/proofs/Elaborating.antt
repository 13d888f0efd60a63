-- The load's program elaborates to its core, which is typed.
use Rattle.std.proofs.Common.{◌≡◌, true≢false, [], Ok, refl, sym}
use Rattle.std.specs.Fmt.{digits}
use Rattle.std.proofs.lemmas.List.Elements.{All-nil, All-cons}
use Rattle.hist_value.specs.Typing.{gives_variable, gives_literal, gives_reckoned}
use Rattle.core_term.specs.Typing.{IsTypedBody, IsTypedCore}
use Rattle.delta_meaning.specs.Elaborated.{elaborate}
use Rattle.delta_load.specs.LoadCore.{over_core, load_core}
use Rattle.delta_load.specs.LoadText.{load_tree}

pub elaborates : elaborate load_tree ≡ Ok load_core
unfolding digits
elaborates = refl

pub is_typed : IsTypedCore load_core
is_typed = record {
  funs_typed = All-cons (IsTypedBody load_core.funs) over_core [] (
    refl,
    refl,
    refl,
    (
      refl,
      (
        refl,
        refl,
        refl,
        (
          refl,
          refl,
          refl,
          (
            gives_reckoned (gives_literal refl) (gives_variable refl refl) refl,
            (
              refl,
              refl,
              (gives_variable refl refl, (refl, refl, tt, (refl, tt), λ u v o. absurd (true≢false (sym o))), λ x y m n. absurd (true≢false (sym m))),
              (refl, refl, tt, (refl, tt), λ u v o. absurd (true≢false (sym o))),
            ),
          ),
        ),
      ),
    ),
  ) (All-nil (IsTypedBody load_core.funs));
  main_typed = (refl, refl, tt, (refl, tt), λ u v o. absurd (true≢false (sym o)));
}
