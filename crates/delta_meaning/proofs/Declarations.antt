-- The functions of a program and the names of its types, declaration by declaration.
use mathlib.Core.Path.{fun_ext}
use Rattle.std.proofs.Common.{◌≡◌, ℕ, ◌==◌, ◌+◌, ◌<◌, List, [], ◌∷◌, ◌++◌, length, map, drop, get_or, append_assoc, Option, Some, None, if◌then◌else◌, refl, sym, ap, ◌∙◌}
use Rattle.std.proofs.lemmas.List.{drop_more}
use Rattle.stream_type.specs.declared.ty.Ty.{Ty}
use Rattle.stream_type.specs.StreamType.{StreamType, type_of}
use Rattle.bunch.specs.declared.name.Name.{Name}
use Rattle.bunch.specs.Names.{put}
use Rattle.bunch.specs.BunchTree.{BunchTree}
use Rattle.hist_value.specs.Environment.{entry_at}
use Rattle.core_term.specs.CoreTerm.{typed_names_of}
use Rattle.delta_tree.specs.declared.programs.Decl.{Decl}
use Rattle.delta_tree.specs.Tree.{declaration_of}
use Rattle.delta_tree.specs.SyntaxTree.{Expression, Declaration, alias_declared, function_declared}
use Rattle.delta_meaning.specs.TypeNames.{TypeNames, names_below}
use Rattle.delta_meaning.specs.KnownTypes.{known_entries, names_known}
use Rattle.delta_meaning.specs.SourceBody.{SourceBody, functions_among, names_below_all}

entry_at-push : (o : Option StreamType) (es : List (Name × Ty)) (e : Name × Ty) (y : ℕ) → entry_at o (known_entries (es ++ e ∷ [])) y ≡ put e.0.0 (Some (type_of e.1)) (entry_at o (known_entries es)) y
entry_at-push o [] e y = refl
entry_at-push o (f ∷ es) e y = entry_at-push (if y == f.0.0 then Some (type_of f.1) else o) es e y

-- one entry after others hides what they have at its name
pub names_known-push : (es : List (Name × Ty)) (e : Name × Ty) → names_known (es ++ e ∷ []) ≡ put e.0.0 (Some (type_of e.1)) (names_known es)
names_known-push es e = fun_ext (entry_at-push None es e)

abbrev body_with : ℕ → TypeNames → List (ℕ × StreamType) → BunchTree → StreamType → Expression → SourceBody
body_with n names past params result body = record { name = n; type_names = names; past = past; params = params; result = result; body = body }

known_entries-listed : (es : List (Name × Ty)) → known_entries es ≡ map (λ e. (e.0, Some e.1)) (typed_names_of es)
known_entries-listed [] = refl
known_entries-listed (e ∷ es) = ap (λ l. (e.0.0, Some (type_of e.1)) ∷ l) (known_entries-listed es)

-- equal names and types are equal tables
pub same_known : (es fs : List (Name × Ty)) → typed_names_of es ≡ typed_names_of fs → names_known es ≡ names_known fs
same_known es fs h = ap (entry_at None) (known_entries-listed es ∙ (ap (map (λ e. (e.0, Some e.1))) h ∙ sym (known_entries-listed fs)))

-- the functions of the first declaration, and then those below it
pub functions_among-first : (names : TypeNames) (d : Declaration) (ds : List Declaration)
    → functions_among names (d ∷ ds) ≡ functions_among names (d ∷ []) ++ functions_among (names_below names d) ds
functions_among-first names (alias_declared a) ds = refl
functions_among-first names (function_declared f) ds = refl

-- the next declaration is the first of those that are left
pub next_declaration : (decls : List Decl) (i : ℕ) (d : Decl) → i < length decls → d ≡ get_or decls i d → map declaration_of (drop i decls) ≡ declaration_of d ∷ map declaration_of (drop (i + 1) decls)
next_declaration decls i d h e = ap (map declaration_of) (drop_more decls i d h) ∙ ap (λ (q : Decl). declaration_of q ∷ map declaration_of (drop (i + 1) decls)) (sym e)

-- once a declaration is added, those that are left give the other functions
pub functions_so_far : (all fs gs : List SourceBody) (ks ms : TypeNames) (d : Declaration) (ds : List Declaration)
    → fs ++ functions_among ks (d ∷ ds) ≡ all → gs ≡ fs ++ functions_among ks (d ∷ []) → ms ≡ names_below ks d → gs ++ functions_among ms ds ≡ all
functions_so_far all fs gs ks ms d ds h g m =
    ap (λ (z : List SourceBody). z ++ functions_among ms ds) g
    ∙ (append_assoc fs (functions_among ks (d ∷ [])) (functions_among ms ds)
    ∙ (ap (λ (z : TypeNames). fs ++ (functions_among ks (d ∷ []) ++ functions_among z ds)) m ∙ (ap (λ (z : List SourceBody). fs ++ z) (sym (functions_among-first ks d ds)) ∙ h)))

-- and the other names of types
pub names_so_far : (all ks ms : TypeNames) (d : Declaration) (ds : List Declaration) → names_below_all ks (d ∷ ds) ≡ all → ms ≡ names_below ks d → names_below_all ms ds ≡ all
names_so_far all ks ms d ds h m = ap (λ (z : TypeNames). names_below_all z ds) m ∙ h

-- of equal parts functions are equal
pub same_body : (n : ℕ) (a b : TypeNames) (p q : List (ℕ × StreamType)) (c d : BunchTree) (t u : StreamType) (e : Expression) → a ≡ b → p ≡ q → c ≡ d → t ≡ u
    → body_with n a p c t e ≡ body_with n b q d u e
same_body n a b p q c d t u e h1 h2 h3 h4 =
    ap (λ (z : TypeNames). body_with n z p c t e) h1
    ∙ (ap (λ (z : List (ℕ × StreamType)). body_with n b z c t e) h2 ∙ (ap (λ (z : BunchTree). body_with n b q z t e) h3 ∙ ap (λ (z : StreamType). body_with n b q d z e) h4))

-- for functions over declarations
pub ruleset declared_so_far = (names_known-push, functions_among-first)
