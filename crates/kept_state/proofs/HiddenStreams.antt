-- A term in a context where some names of streams are hidden.
use Rattle.std.proofs.Common.{◌≡◌, ◌∙◌, ℕ, Bool, true, false, true≢false, List, if◌then◌else◌, ap, sym}
use Rattle.std.proofs.lemmas.Bool.{false_from_ne_true}
use Rattle.std.specs.Prelude.{Some, None, is_some}
use Rattle.stream_type.specs.StreamType.{StreamType}
use Rattle.bunch.specs.Names.{holds}
use Rattle.core_term.specs.CoreTerm.{CoreTerm, CoreBody}
use Rattle.core_term.specs.FreeNames.{free_names}
use Rattle.core_term.specs.Typing.{Context, HasType}
use Rattle.core_term.proofs.TypedRuns.{free_are_streams}
use Rattle.state_steps.proofs.FactsWithin.{within_itself}
use Rattle.state_steps.proofs.Seeing.{Sees}
use Rattle.state_steps.proofs.NarrowedTerms.{narrow}
use Rattle.kept_state.specs.KeptTyping.{hiding}
use Rattle.kept_state.specs.Laws.{HidingIsNotUsing}

module _ (funs : List CoreBody) (counts : ℕ → Bool) (c : Context) (names : List ℕ) (e : CoreTerm) (r : StreamType) where
  -- what is a stream where these names are hidden is one in the context too,
  seen : Sees (free_names e) (hiding names c) c
  seen = record { types = λ x s m k. go x s (holds x names) k; order = within_itself _ _; past = λ x h k. k }
    where
      go : (x : ℕ) (s : StreamType) (b : Bool) → (if b then None else c.types x) ≡ Some s → c.types x ≡ Some s
      go x s true k = absurd (cc k)
      go x s false k = k

  -- a term that is typed where they are hidden uses none of them,
  unused : HasType funs counts (hiding names c) e r → (x : ℕ) → holds x names ≡ true → holds x (free_names e) ≡ false
  unused h x m = false_from_ne_true (holds x (free_names e)) (λ k. true≢false (sym ((free_are_streams funs counts e (hiding names c) r h).at x k) ∙ ap (λ b. is_some (if b then None else c.types x)) m))

  -- and a stream that a term uses is still one, where it uses none of them
  hides : ((x : ℕ) → holds x names ≡ true → holds x (free_names e) ≡ false) → Sees (free_names e) c (hiding names c)
  hides f = record { types = λ x s m k. ap (λ b. if b then None else c.types x) (false_from_ne_true (holds x names) (λ i. true≢false (sym m ∙ f x i))) ∙ k; order = within_itself _ _; past = λ x h k. k }

-- both ways
pub hiding_is_not_using : HidingIsNotUsing
hiding_is_not_using funs counts c names e r =
    (λ h. (narrow funs counts e (hiding names c) c r (seen funs counts c names e r) h, unused funs counts c names e r h), λ h. narrow funs counts e c (hiding names c) r (hides funs counts c names e r h.1) h.0)
