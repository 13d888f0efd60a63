-- Clap reads the whole command as simple, so what it answers is told by its words alone.
use Rattle.std.proofs.Common.{◌≡◌, inl, inr, ◌∙◌, ap, refl, subst, List, [], true}
use Rattle.clap.specs.Words.{App, HasKind, IsAmong, kind_of, fault_of, is_simple, is_simple_and_free}
use Rattle.clap.specs.Walk.{Text}
use Rattle.clap.specs.declared.error.Error.{Error}
use Rattle.clap.specs.declared.error.kind.ErrorKind.TheVariants as kind
use Rattle.delta_words.specs.ClapCommand.{delta_app, with_rule_if}

pub delta_is_simple : is_simple delta_app ≡ true
unfolding with_rule_if
delta_is_simple = refl

pub delta_is_free : is_simple_and_free delta_app ≡ true
unfolding with_rule_if
delta_is_free = refl

-- an error that isn't want of memory has a fault of the words
pub is_refused : (a : App) (words : List Text) (e : Error) → a ≡ delta_app → (is_simple_and_free a ≡ true → HasKind (fault_of a words) e) → (kind_of e ≡ kind.OutOfMemory → ⊥)
    → fault_of delta_app words ≡ [] → ⊥
is_refused a words e same kinds other none = by_kind (kinds (ap is_simple_and_free same ∙ delta_is_free))
  where
    by_kind : HasKind (fault_of a words) e → ⊥
    by_kind (inl memory) = other memory
    by_kind (inr among) = subst (IsAmong (kind_of e)) (ap (λ (b : App). fault_of b words) same ∙ none) among
