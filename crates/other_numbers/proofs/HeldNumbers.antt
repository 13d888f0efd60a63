-- What a state keeps, with other numbers: the values of historical names, what is held, and arguments. Names and
-- types stay as they are.
use Rattle.std.proofs.Common.{◌≡◌, ◌∙◌, ℕ, ℤ, Bool, true, false, List, [], ◌∷◌, map, eqb, if◌then◌else◌, ap, ap₂, refl}
use Rattle.stream_type.specs.StreamType.{StreamType}
use Rattle.stream_prefix.specs.StreamPrefix.{StreamPrefix, eps_emp, join}
use Rattle.bunch.specs.Names.{put, value_at}
use Rattle.hist_value.specs.HistValue.{HistValue}
use Rattle.core_term.specs.Environment.{Environment, NameTypes}
use Rattle.delta_state.specs.StateTree.{Known, HeldName, ArgumentTrees, argument_names}
use Rattle.delta_state.specs.StateMeaning.{past_in, types_held, prefixes_held, with_held}
use Rattle.delta_state.specs.Rest.{taken, held_more, known_of}
use Rattle.mapped_states.proofs.MappedForms.{argument_names_stay}
use Rattle.other_numbers.specs.Numbers.{exchanged, exchanged_value}
use Rattle.other_numbers.specs.StateNumbers.{exchanged_known, exchanged_held, exchanged_arguments}
use Rattle.other_numbers.proofs.PrefixNumbers.{join_goes}
use Rattle.other_numbers.proofs.NameNumbers.{Along, along_values}

module _ (f : ℤ → ℤ) where
  -- the values of historical names
  pub along_known : (es : List Known) → Along (exchanged_value f) (past_in es) (past_in (map (exchanged_known f) es))
  along_known es = record { at = at es }
    where
      at : (es : List Known) (x : ℕ) → past_in (map (exchanged_known f) es) x ≡ exchanged_value f (past_in es x)
      at [] x = refl
      at (e ∷ es) x = go (eqb x e.name) (at es x)
        where
          go : (b : Bool) → past_in (map (exchanged_known f) es) x ≡ exchanged_value f (past_in es x) → (if b then exchanged_value f e.value else past_in (map (exchanged_known f) es) x) ≡ exchanged_value f (if b then e.value else past_in es x)
          go true h = refl
          go false h = h

  -- the historical parameters of a body
  pub known_of_goes : (es : List (ℕ × StreamType)) (vs : List HistValue) → known_of es (map (exchanged_value f) vs) ≡ map (exchanged_known f) (known_of es vs)
  known_of_goes [] vs = refl
  known_of_goes (e ∷ es) [] = refl
  known_of_goes (e ∷ es) (v ∷ vs) = ap (λ ks. record { name = e.0; type = e.1; value = exchanged_value f v } ∷ ks) (known_of_goes es vs)

  -- the types of held names from before
  pub types_held_stay : (held : List HeldName) → types_held (map (exchanged_held f) held) ≡ types_held held
  types_held_stay [] = refl
  types_held_stay (h ∷ held) = ap (put h.name h.type) (types_held_stay held)

  -- what is held of each name
  prefixes_go : (held : List HeldName) (x : ℕ) → prefixes_held (map (exchanged_held f) held) x ≡ exchanged f (prefixes_held held x)
  prefixes_go [] x = refl
  prefixes_go (h ∷ held) x = go (eqb x h.name) (prefixes_go held x)
    where
      go : (b : Bool) → prefixes_held (map (exchanged_held f) held) x ≡ exchanged f (prefixes_held held x)
          → (if b then exchanged f h.prefix else prefixes_held (map (exchanged_held f) held) x) ≡ exchanged f (if b then h.prefix else prefixes_held held x)
      go true e = refl
      go false e = e

  pub along_prefixes : (held : List HeldName) → Along (exchanged f) (prefixes_held held) (prefixes_held (map (exchanged_held f) held))
  along_prefixes held = record { at = prefixes_go held }

  -- and behind it what comes
  pub along_held : (held : List HeldName) (d d' : Environment) → Along (exchanged f) d d' → Along (exchanged f) (with_held held d) (with_held (map (exchanged_held f) held) d')
  along_held held d d' h = let k = along_prefixes held in record { at = λ x. ap₂ join (k.at x) (h.at x) ∙ join_goes f (prefixes_held held x) (d x) }

  -- so is what is held then
  pub held_more_goes : (held : List HeldName) (d d' : Environment) → Along (exchanged f) d d' → held_more (map (exchanged_held f) held) d' ≡ map (exchanged_held f) (held_more held d)
  held_more_goes [] d d' h = refl
  held_more_goes (n ∷ held) d d' h =
      ap₂ (λ p ns. record { name = n.name; type = n.type; prefix = p } ∷ ns) (ap (join (exchanged f n.prefix)) (h.at n.name) ∙ join_goes f n.prefix (d n.name)) (held_more_goes held d d' h)

  -- and what is first held of names
  pub taken_goes : (names : List ℕ) (T : NameTypes) (d d' : Environment) → Along (exchanged f) d d' → taken names T d' ≡ map (exchanged_held f) (taken names T d)
  taken_goes [] T d d' h = refl
  taken_goes (x ∷ xs) T d d' h = ap₂ (λ p ns. record { name = x; type = T x; prefix = p } ∷ ns) (h.at x) (taken_goes xs T d d' h)

  -- what comes on the parameters that have arguments
  pub along_arguments : (args : ArgumentTrees) (ps ps' : List StreamPrefix) → ps' ≡ map (exchanged f) ps
      → Along (exchanged f) (value_at eps_emp (argument_names args) ps) (value_at eps_emp (argument_names (exchanged_arguments f args)) ps')
  along_arguments args ps ps' e =
      let a = along_values (exchanged f) eps_emp refl (argument_names args) ps in record { at = λ x. ap₂ (λ us qs. value_at eps_emp us qs x) (argument_names_stay _ _ args) e ∙ a.at x }
