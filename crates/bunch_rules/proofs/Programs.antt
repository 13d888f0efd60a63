-- Derived bodies and programs are typed.
use Rattle.std.proofs.Common.{◌≡◌, ◌∙◌, ℕ, true, false, true≢false, List, ◌++◌, inl, inr, if◌then◌else◌, ap, refl, sym, length}
use Rattle.std.specs.Prelude.{Some, None, slice_index_or}
use Rattle.std.specs.List.{All}
use Rattle.stream_type.specs.StreamType.{StreamType}
use Rattle.bunch.specs.Names.{put}
use Rattle.bunch.specs.BunchTree.{BunchTree, empty, leaf, comma, semi, leaf_names, IsDistinct}
use Rattle.core_term.specs.CoreTerm.{CoreBody, no_body, fun_at, past_names}
use Rattle.core_term.specs.FreeNames.{bound_names, IsBoundOnce}
use Rattle.core_term.specs.Environment.{untyped}
use Rattle.core_term.specs.Agreement.{types_in}
use Rattle.core_term.specs.Inert.{is_inert_fun}
use Rattle.core_term.specs.Typing.{context_of, past_params, IsTypedBody}
use Rattle.core_term.proofs.Sides.{by_left, by_right, put-same}
use Rattle.core_term.proofs.BoundOnce.{distinct_left, distinct_right, parts_apart, distinct_bunch}
use Rattle.core_term.proofs.TypedRuns.{at_index, all_at}
use Rattle.bunch_rules.specs.Derivation.{HasLeaf, eps_rule, IsDerivedBody}
use Rattle.bunch_rules.specs.Laws.{Serves, AreDistinct, DerivedIsTyped, DerivedBodyIsTyped, DerivedProgramIsTyped}
use Rattle.bunch_rules.proofs.Replacing.{leaf_is_name}
use Rattle.bunch_rules.proofs.Derivations.{typed}

pub derived_is_typed : DerivedIsTyped
derived_is_typed funs counts known g e r c distinct i v d n = typed funs counts distinct i c v d n

-- in a distinct bunch a leaf has the type of its name
type_of_leaf : (g : BunchTree) → IsDistinct g → (x : ℕ) (t : StreamType) → HasLeaf g x t → types_in g x ≡ t
type_of_leaf empty d x t m = absurd m
type_of_leaf (leaf z s) d x t m = ap (λ w. put z s untyped w) (sym m.0) ∙ (put-same z s untyped ∙ m.1)
type_of_leaf (comma a b) d x t (inl m) = by_left (leaf_names a) (types_in a) (types_in b) x (leaf_is_name a x t m) ∙ type_of_leaf a d.0 x t m
type_of_leaf (comma a b) d x t (inr m) = by_right (leaf_names a) (types_in a) (types_in b) x (d.2 x (leaf_is_name b x t m)) ∙ type_of_leaf b d.1 x t m
type_of_leaf (semi a b) d x t (inl m) = by_left (leaf_names a) (types_in a) (types_in b) x (leaf_is_name a x t m) ∙ type_of_leaf a d.0 x t m
type_of_leaf (semi a b) d x t (inr m) = by_right (leaf_names a) (types_in a) (types_in b) x (d.2 x (leaf_is_name b x t m)) ∙ type_of_leaf b d.1 x t m

-- the context of a body serves its parameters
serves_params : (b : CoreBody) → IsDistinct b.params → Serves (past_params b.past) b.params (context_of b)
serves_params b d = record {
  knows = refl;
  has_name = λ x t m. ap (λ c. if c then Some (types_in b.params x) else None) (leaf_is_name b.params x t m) ∙ ap (λ s. Some s) (type_of_leaf b.params d x t m);
  has_fact = λ x y m. m;
}

pub distinct_params : (texts : ℕ) (b : CoreBody) → IsBoundOnce texts b → IsDistinct b.params
distinct_params texts b o = distinct_bunch b.params (distinct_left (leaf_names b.params) (bound_names b.body) (distinct_right (past_names b) (leaf_names b.params ++ bound_names b.body) o.is_once))

pub derived_body_is_typed : DerivedBodyIsTyped
derived_body_is_typed funs texts b distinct o i =
    let once = distinct_right (past_names b) (leaf_names b.params ++ bound_names b.body) o.is_once in
    typed funs (is_inert_fun funs) distinct i (context_of b) (serves_params b (distinct_params texts b o)) (distinct_params texts b o)
    (record { once = distinct_right (leaf_names b.params) (bound_names b.body) once; new = parts_apart (leaf_names b.params) (bound_names b.body) once })

-- of two things that are true of all of a list
all_of_both : {A : Type 0} (P Q R : A → Type 0) (d : A) (xs : List A) → ((a : A) → P a → Q a → R a) → P d → Q d → All P xs → All Q xs → All R xs
all_of_both P Q R d xs f p q h k = all_at R d xs (λ i. f (slice_index_or xs i d) (at_index P d xs h p i) (at_index Q d xs k q i))

pub nothing_bound : (texts : ℕ) → IsBoundOnce texts no_body
nothing_bound texts = record { is_once = refl; has_text = λ x m. absurd (true≢false (sym m)) }

pub derived_program_is_typed : DerivedProgramIsTyped
derived_program_is_typed c core derived = record {
  funs_typed = all_of_both (IsBoundOnce (length c.texts)) (IsDerivedBody c.funs) (IsTypedBody c.funs) no_body c.funs (λ b. derived_body_is_typed c.funs (length c.texts) b distinct) (nothing_bound (length c.texts)) eps_derived core.funs_once derived.funs_derived;
  main_typed = derived_body_is_typed c.funs (length c.texts) c.main distinct core.main_once derived.main_derived;
}
  where
    eps_derived : IsDerivedBody c.funs no_body
    eps_derived = eps_rule

    distinct : AreDistinct c.funs
    distinct f = distinct_params (length c.texts) (fun_at c.funs f) (at_index (IsBoundOnce (length c.texts)) no_body c.funs core.funs_once (nothing_bound (length c.texts)) f)
