-- A table of type names that grows as declarations are read.
use mathlib.Core.Path.{fun_ext}
use Rattle.std.proofs.Common.{◌≡◌, ℕ, ◌+◌, ◌<◌, ◌≤◌, ◌==◌, List, [], ◌∷◌, ◌++◌, length, take, drop, get_or, Option, Some, None, if◌then◌else◌, refl, sym, ap, ap₂, ◌∙◌, arith, length-drop, append_assoc}
use Rattle.std.proofs.lemmas.List.{take_more, drop_more, take_all}
use Rattle.stream_type.specs.declared.ty.Ty.{Ty}
use Rattle.stream_type.specs.StreamType.{StreamType, type_of}
use Rattle.bunch.specs.declared.name.Name.{Name}
use Rattle.bunch.specs.Names.{put}
use Rattle.hist_value.specs.Environment.{entry_at}
use Rattle.core_term.specs.CoreTerm.{typed_names_of}
use Rattle.delta_tree.specs.SyntaxTree.{WrittenAlias, WrittenFunction, Declaration, alias_declared, function_declared}
use Rattle.delta_meaning.specs.TypeNames.{TypeNames, no_type_names, type_meant, names_below}
use Rattle.delta_meaning.specs.SourceBody.{SourceBody, body_meant, functions_among, names_below_all}
use Rattle.delta_elab.specs.Aliases.{aliases_among}
use Rattle.delta_meaning.specs.KnownTypes.{known_entries, names_known}

-- an empty table knows no name
pub names_known-none : names_known [] ≡ no_type_names
names_known-none = fun_ext (λ x. refl)

entry_at-more : (o : Option StreamType) (es : List (Name × Ty)) (x : Name) (t : Ty) (y : ℕ)
    → entry_at o (known_entries (es ++ (x, t) ∷ [])) y ≡ (if y == x.0 then Some (type_of t) else entry_at o (known_entries es) y)
entry_at-more o [] x t y = refl
entry_at-more o (e ∷ es) x t y = entry_at-more (if y == e.0.0 then Some (type_of e.1) else o) es x t y

-- one more entry hides what was known of its name
pub names_known-more : (es : List (Name × Ty)) (x : Name) (t : Ty) → names_known (es ++ (x, t) ∷ []) ≡ put x.0 (Some (type_of t)) (names_known es)
names_known-more es x t = fun_ext (λ y. entry_at-more None es x t y)

pub typed_names_of-append : (xs ys : List (Name × Ty)) → typed_names_of (xs ++ ys) ≡ typed_names_of xs ++ typed_names_of ys
typed_names_of-append [] ys = refl
typed_names_of-append (x ∷ xs) ys = ap (λ l. (x.0.0, type_of x.1) ∷ l) (typed_names_of-append xs ys)

-- the entry at a place of the table is the next of the types that are declared
pub record IsNext (known : List (Name × Ty)) (i : ℕ) (p : ℕ × StreamType) (ps : List (ℕ × StreamType)) : Type 0 where
  pub inside : i < length known
  pub names : names_known (take (i + 1) known) ≡ put p.0 (Some p.1) (names_known (take i known))
  pub rest : ps ≡ typed_names_of (drop (i + 1) known)

pub is_next : (known : List (Name × Ty)) (i : ℕ) (p : ℕ × StreamType) (ps : List (ℕ × StreamType)) → p ∷ ps ≡ typed_names_of (drop i known) → IsNext known i p ps
is_next known i p ps h = go (drop i known) refl
  where
    go : (l : List (Name × Ty)) → drop i known ≡ l → IsNext known i p ps
    go [] e = absurd (cc (h, e))
    go (d ∷ l) e =
        let inside : i < length known = omega (arith, sym (length-drop i known) ∙ ap length e) in
        let g = get_or known i d in
        let whole : p ∷ ps ≡ (g.0.0, type_of g.1) ∷ typed_names_of (drop (i + 1) known) = h ∙ ap typed_names_of (drop_more known i d inside) in
        let same : p ≡ (g.0.0, type_of g.1) = cc whole in
        let names : names_known (take (i + 1) known) ≡ put g.0.0 (Some (type_of g.1)) (names_known (take i known)) =
        ap names_known (take_more known i d inside) ∙ names_known-more (take i known) g.0 g.1 in
        record {
          inside = inside;
          names = names ∙ sym (ap (λ q. put q.0 (Some q.1) (names_known (take i known))) same);
          rest = cc whole;
        }

-- a declared type is passed: it is the next of the table
pub pass_alias : (known : List (Name × Ty)) (above : ℕ) (a : WrittenAlias) (left : List Declaration) (all done : List SourceBody)
    → all ≡ done ++ functions_among (names_known (take above known)) (alias_declared a ∷ left)
    → aliases_among (names_known (take above known)) (alias_declared a ∷ left) ≡ typed_names_of (drop above known)
    → (all ≡ done ++ functions_among (names_known (take (above + 1) known)) left)
    × (aliases_among (names_known (take (above + 1) known)) left ≡ typed_names_of (drop (above + 1) known))
    × (above + 1 ≤ length known)
pass_alias known above a left all done e h =
    let names = names_known (take above known) in
    let s = is_next known above (a.name, type_meant names a.type) (aliases_among (names_below names (alias_declared a)) left) h in
    (e ∙ ap (λ ns. done ++ functions_among ns left) (sym s.names), ap (λ ns. aliases_among ns left) s.names ∙ s.rest, omega (arith, s.inside))

-- a declared function is passed: it is the next of the functions
pub pass_function : (names : TypeNames) (f : WrittenFunction) (left : List Declaration) (all done : List SourceBody)
    → all ≡ done ++ functions_among names (function_declared f ∷ left)
    → all ≡ (done ++ body_meant names f ∷ []) ++ functions_among names left
pass_function names f left all done e = e ∙ sym (append_assoc done (body_meant names f ∷ []) (functions_among names left))

nothing_left : (l : List (Name × Ty)) → [] ≡ typed_names_of l → length l ≡ 0
nothing_left [] h = refl
nothing_left (e ∷ l) h = absurd (cc h)

-- below all declarations the whole table is known
pub names_known-all : (known : List (Name × Ty)) (above : ℕ) (ds : List Declaration)
    → aliases_among (names_known (take above known)) ds ≡ typed_names_of (drop above known)
    → names_below_all (names_known (take above known)) ds ≡ names_known known
names_known-all known above [] h =
    let le : length known ≤ above = omega (arith, sym (length-drop above known) ∙ nothing_left (drop above known) h) in
    ap names_known (take_all above known le)
names_known-all known above (alias_declared a ∷ ds) h =
    let names = names_known (take above known) in
    let s = is_next known above (a.name, type_meant names a.type) (aliases_among (names_below names (alias_declared a)) ds) h in
    ap (λ ns. names_below_all ns ds) (sym s.names) ∙ names_known-all known (above + 1) ds (ap (λ ns. aliases_among ns ds) s.names ∙ s.rest)
names_known-all known above (function_declared f ∷ ds) h = names_known-all known above ds h

-- so the names that are known below all declarations are those of a table of their types
pub names_known-table : (known : List (Name × Ty)) (ds : List Declaration) → typed_names_of known ≡ aliases_among no_type_names ds
    → names_below_all no_type_names ds ≡ names_known known
names_known-table known ds h =
    let e = names_known-none in
    ap (λ ns. names_below_all ns ds) (sym e) ∙ names_known-all known 0 ds (ap (λ ns. aliases_among ns ds) e ∙ sym h)

-- a declared type is put at the end of the table
pub names_below-more : (known : List (Name × Ty)) (a : WrittenAlias) (x : Name) (t : Ty) → x.0 ≡ a.name → type_of t ≡ type_meant (names_known known) a.type
    → names_below (names_known known) (alias_declared a) ≡ names_known (known ++ (x, t) ∷ [])
names_below-more known a x t ex et =
    ap₂ (λ n s. put n (Some s) (names_known known)) (sym ex) (sym et) ∙ sym (names_known-more known x t)
