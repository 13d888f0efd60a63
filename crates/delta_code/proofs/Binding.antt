-- Parameters that are bound one after the other, and types that are given back one after the other.
use Rattle.std.proofs.Common.{◌≡◌, ◌∙◌, ℕ, List, [], ◌∷◌, ◌++◌, length, map, ap, sym, append_assoc, append-nil, arith}
use Rattle.std.proofs.lemmas.List.{map-append}
use Rattle.bunch.specs.declared.name.Name.{Name}
use Rattle.stream_type.specs.declared.ty.Ty.{Ty}
use Rattle.stream_type.specs.StreamType.{StreamType, type_of}
use Rattle.stream_prefix.specs.declared.prefix.Prefix.{Prefix}
use Rattle.stream_prefix.specs.StreamPrefix.{StreamPrefix, eps_emp, der}
use Rattle.stream_prefix.specs.Tree.{prefix_of}
use Rattle.core_term.specs.CoreTerm.{typed_names_of}
use Rattle.delta_state.specs.StateTree.{StateTree, ArgumentTrees, HeldName, argument_before}
use Rattle.machine_parts.specs.declared.entry.Entry.{Entry}
use Rattle.machine_parts.specs.Entry.{entry_in}
use Rattle.machine_parts.specs.Parameters.{bound_to}
use Rattle.delta_code.specs.GivenBack.{given_back}

-- no parameter, and a first one, on which nothing or something comes
pub none_bound : (xs : List (Name × Ty)) (ps : List StreamPrefix) (es : List HeldName) → length xs ≡ 0 → es ≡ es ++ bound_to (typed_names_of xs) ps
none_bound [] ps es e = sym (append-nil es)
none_bound (x ∷ xs) ps es e = absurd (omega (arith, e))

pub bound_to_none : (xs rest : List (Name × Ty)) (x : Name × Ty) (ss : List Prefix) → xs ≡ x ∷ rest → length ss ≡ 0
    → record { name = x.0.0; type = type_of x.1; prefix = eps_emp } ∷ bound_to (typed_names_of rest) (map prefix_of ss) ≡ bound_to (typed_names_of xs) (map prefix_of ss)
bound_to_none xs rest x [] is e = ap (λ (l : List (Name × Ty)). bound_to (typed_names_of l) []) (sym is)
bound_to_none xs rest x (s ∷ ss) is e = absurd (omega (arith, e))

pub bound_to_one : (xs rest : List (Name × Ty)) (x : Name × Ty) (ss others : List Prefix) (s : Prefix) → xs ≡ x ∷ rest → ss ≡ s ∷ others
    → record { name = x.0.0; type = type_of x.1; prefix = prefix_of s } ∷ bound_to (typed_names_of rest) (map prefix_of others) ≡ bound_to (typed_names_of xs) (map prefix_of ss)
bound_to_one xs rest x ss others s is on = sym (λ j. bound_to (typed_names_of (is j)) (map prefix_of (on j)))

-- an entry more, and those behind it
pub entry_more : (before news : List Entry) (e : Entry) (h : HeldName) (tail all last : List HeldName) → news ≡ before ++ e ∷ [] → entry_in e ≡ h → h ∷ tail ≡ all
    → last ≡ map entry_in news ++ tail → last ≡ map entry_in before ++ all
entry_more before news e h tail all last is same whole k =
    k ∙ (ap (λ (es : List Entry). map entry_in es ++ tail) is ∙ (ap (λ (es : List HeldName). es ++ tail) (map-append entry_in before (e ∷ []))
    ∙ (append_assoc (map entry_in before) (entry_in e ∷ []) tail ∙ ((λ j. map entry_in before ++ same j ∷ tail) ∙ ap (λ (es : List HeldName). map entry_in before ++ es) whole))))

-- no type is left to give back, or a first one
pub none_back : (es : List Entry) (args : ArgumentTrees) (x : ℕ) (t : StreamType) (s : StateTree) (old : ArgumentTrees) → length es ≡ 0 → args ≡ argument_before x t s old
    → argument_before x t s old ≡ given_back (map entry_in es) args
none_back [] args x t s old e is = ap (given_back []) (sym is)
none_back (e ∷ es) args x t s old l is = absurd (omega (arith, l))

pub one_back : (es rest : List Entry) (e : Entry) (args : ArgumentTrees) (x : ℕ) (t u : StreamType) (s : StateTree) (old new : ArgumentTrees)
    → es ≡ e ∷ rest → args ≡ argument_before x t s old → u ≡ der (prefix_of e.prefix) (type_of e.ty) → new ≡ given_back (map entry_in rest) old
    → argument_before x u s new ≡ given_back (map entry_in es) args
one_back es rest e args x t u s old new is on h k =
    (λ j. argument_before x (h j) s (k j)) ∙ sym (λ j. given_back (map entry_in (is j)) (on j))
