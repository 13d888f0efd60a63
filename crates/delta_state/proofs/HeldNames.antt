-- What is held of names, and behind it what comes: prefixes of the types from before.
use Rattle.std.proofs.Common.{◌≡◌, ◌∙◌, ℕ, Bool, true, false, true≢false, ◌||◌, List, [], ◌∷◌, ap, refl, sym, subst, eqb, if◌then◌else◌}
use Rattle.std.specs.Prelude.{Some, IsTrue}
use Rattle.std.proofs.lemmas.Bool.{eqb-true}
use Rattle.std.specs.List.{All}
use Rattle.std.proofs.lemmas.List.Elements.{All-head, All-tail}
use Rattle.stream_type.specs.StreamType.{StreamType, eps}
use Rattle.stream_prefix.specs.StreamPrefix.{StreamPrefix, eps_emp, emp, is_maximal, der, join, IsPrefix, IsPart}
use Rattle.stream_prefix.proofs.Derivations.{Derives, derives, eps_has_emp}
use Rattle.stream_prefix.proofs.Joins.{join-emp-der, join_is_prefix, join_assoc, der-join, is_maximal-join}
use Rattle.stream_prefix.proofs.Parts.{part, rest_derives, part_refl}
use Rattle.bunch.specs.Names.{holds}
use Rattle.core_term.specs.Environment.{Environment, NameTypes}
use Rattle.core_term.specs.Typing.{Context}
use Rattle.core_term.proofs.TypedTerms.{PastTypes, Extends}
use Rattle.core_term.proofs.GrowingRuns.{Streams, Continues}
use Rattle.delta_state.specs.StateTree.{HeldName, ArgumentTrees, no_arguments, argument_before, held_names}
use Rattle.delta_state.specs.StateMeaning.{types_held, prefixes_held, with_held, types_of_arguments}
use Rattle.delta_state.specs.StateTyping.{IsHeld, marks_held, marks_of_arguments, context_of_arguments, no_pasts}

-- what is true of each held name's type and prefix is true of those at a held name
pub held_at : (R : ℕ → StreamType → StreamPrefix → Type 0) (held : List HeldName) → All (λ h. R h.name h.type h.prefix) held → (z : ℕ) → holds z (held_names held) ≡ true → R z (types_held held z) (prefixes_held held z)
held_at R [] a z m = absurd (true≢false (sym m))
held_at R (h ∷ held) a z m = by_name (eqb z h.name) refl m (held_at R held (All-tail (λ h. R h.name h.type h.prefix) h held a) z)
  where
    by_name : (b : Bool) → eqb z h.name ≡ b → (b || holds z (held_names held)) ≡ true → (holds z (held_names held) ≡ true → R z (types_held held z) (prefixes_held held z))
        → R z (if b then h.type else types_held held z) (if b then h.prefix else prefixes_held held z)
    by_name true e m rest = subst (λ x. R x h.type h.prefix) (sym (eqb-true z h.name e)) (All-head (λ h. R h.name h.type h.prefix) h held a)
    by_name false e m rest = rest m

-- the type from before of a held name is that of its mark
pub mark_is : (held : List HeldName) (z : ℕ) (t : StreamType) → marks_held held z ≡ Some t → types_held held z ≡ t
mark_is [] z t e = absurd (cc e)
mark_is (h ∷ held) z t e = by_name (eqb z h.name) e (mark_is held z t)
  where
    by_name : (b : Bool) → (if b then Some h.type else marks_held held z) ≡ Some t → (marks_held held z ≡ Some t → types_held held z ≡ t) → (if b then h.type else types_held held z) ≡ t
    by_name true e rest = cc e
    by_name false e rest = rest e

module _ (c : Context) (T : NameTypes) (H : PastTypes) (extends : Extends c T H) (free : List ℕ) (held : List HeldName) (is_held : IsHeld c free held) (z : ℕ) (used : holds z free ≡ true) where
  is_there : holds z (held_names held) ≡ true
  is_there = is_held.are_free z ∙ used

  -- what is held of a free name is a prefix of its type from before
  pub held_prefix : IsPrefix (types_held held z) (prefixes_held held z)
  held_prefix = held_at (λ x t p. IsPrefix t p) held is_held.are_prefixes z is_there

  -- which leaves the name's type
  pub held_left : T z ≡ der (prefixes_held held z) (types_held held z)
  held_left = extends.stream z _ (held_at (λ x t p. c.types x ≡ Some (der p t)) held is_held.are_left z is_there)

  -- and where nothing comes, nothing is added to it
  pub nothing_more : (d : Environment) → d z ≡ emp (T z) → with_held held d z ≡ prefixes_held held z
  nothing_more d nothing =
      ap (join (prefixes_held held z)) (nothing ∙ ap emp held_left) ∙ join-emp-der (derives (types_held held z) (prefixes_held held z) held_prefix)

-- a name that isn't held has type `eps` and nothing
pub unheld : (held : List HeldName) (z : ℕ) → holds z (held_names held) ≡ false → (types_held held z ≡ eps) × (prefixes_held held z ≡ eps_emp)
unheld [] z m = (refl, refl)
unheld (h ∷ held) z m = by_name (eqb z h.name) m (unheld held z)
  where
    by_name : (b : Bool) → (b || holds z (held_names held)) ≡ false → (holds z (held_names held) ≡ false → (types_held held z ≡ eps) × (prefixes_held held z ≡ eps_emp))
        → ((if b then h.type else types_held held z) ≡ eps) × ((if b then h.prefix else prefixes_held held z) ≡ eps_emp)
    by_name true m rest = absurd (true≢false m)
    by_name false m rest = rest m

-- more of what comes gives more of the whole
more_after : {s : StreamType} {p q r : StreamPrefix} → Derives s p → Derives (der p s) q → IsPart (der p s) q r → IsPart s (join p q) (join p r)
more_after {s = s} {p = p} h k g =
    let i = rest_derives g in part (subst (λ t. Derives t g.rest) (sym (der-join h k)) i) (join_assoc h k i ∙ ap (join p) g.joins)

module _ (c : Context) (T : NameTypes) (H : PastTypes) (extends : Extends c T H) (free : List ℕ) (held : List HeldName) (is_held : IsHeld c free held) where
  -- the type that is left of a held name
  pub left_of_held : (z : ℕ) → holds z (held_names held) ≡ true → T z ≡ der (prefixes_held held z) (types_held held z)
  left_of_held z m = extends.stream z _ (held_at (λ x t p. c.types x ≡ Some (der p t)) held is_held.are_left z m)

  -- what is held of a name is a prefix of its type from before
  pub held_derives : (z : ℕ) → holds z (held_names held) ≡ true → Derives (types_held held z) (prefixes_held held z)
  held_derives z m = derives (types_held held z) (prefixes_held held z) (held_at (λ x t p. IsPrefix t p) held is_held.are_prefixes z m)

  -- what was held and what comes are prefixes of the types from before
  pub held_streams : (d : Environment) → Streams T d → Streams (types_held held) (with_held held d)
  held_streams d h = record { at = λ z. by_held z (holds z (held_names held)) refl }
    where
      by_held : (z : ℕ) (b : Bool) → holds z (held_names held) ≡ b → Derives (types_held held z) (join (prefixes_held held z) (d z))
      by_held z true m = join_is_prefix (held_derives z m) (subst (λ t. Derives t (d z)) (left_of_held z m) (h.at z))
      by_held z false m =
          let no = unheld held z m in
          subst (λ t. Derives t (join (prefixes_held held z) (d z))) (sym no.0) (subst (λ p. Derives eps (join p (d z))) (sym no.1) eps_has_emp)

  -- and more of them where more comes
  pub held_continues : (d e : Environment) → Streams T d → Continues T d e → Continues (types_held held) (with_held held d) (with_held held e)
  held_continues d e h g = record { at = λ z. by_held z (holds z (held_names held)) refl }
    where
      by_held : (z : ℕ) (b : Bool) → holds z (held_names held) ≡ b → IsPart (types_held held z) (join (prefixes_held held z) (d z)) (join (prefixes_held held z) (e z))
      by_held z true m = more_after (held_derives z m) (subst (λ t. Derives t (d z)) (left_of_held z m) (h.at z)) (subst (λ t. IsPart t (d z) (e z)) (left_of_held z m) (g.at z))
      by_held z false m =
          let no = unheld held z m in
          subst (λ t. IsPart t (join (prefixes_held held z) (d z)) (join (prefixes_held held z) (e z))) (sym no.0)
          (subst (λ p. IsPart eps (join p (d z)) (join p (e z))) (sym no.1) (part_refl eps_has_emp))

  -- a free name on which all comes is whole, with what was held of it
  pub held_whole : (d : Environment) → Streams T d → (z : ℕ) → holds z free ≡ true → IsTrue (is_maximal (d z)) → IsTrue (is_maximal (with_held held d z))
  held_whole d h z used m =
      let there = is_held.are_free z ∙ used in is_maximal-join (held_derives z there) (subst (λ t. Derives t (d z)) (left_of_held z there) (h.at z)) ∙ m

-- the context of a called body has the types that its environment takes
parameter_type : (args : ArgumentTrees) (x : ℕ) (s : StreamType) → marks_of_arguments args x ≡ Some s → types_of_arguments args x ≡ s
parameter_type no_arguments x s e = absurd (cc e)
parameter_type (argument_before u t a args) x s e = by_name (eqb x u) e (parameter_type args x s)
  where
    by_name : (b : Bool) → (if b then Some t else marks_of_arguments args x) ≡ Some s → (marks_of_arguments args x ≡ Some s → types_of_arguments args x ≡ s) → (if b then t else types_of_arguments args x) ≡ s
    by_name true e rest = cc e
    by_name false e rest = rest e

pub arguments_extend : (c : Context) (args : ArgumentTrees) → Extends (context_of_arguments c args) (types_of_arguments args) no_pasts
arguments_extend c args = record { stream = parameter_type args; historical = λ x h e. absurd (cc e) }
