-- What is wrong with declarations, one after the other, and with the program from its parts.
use Rattle.std.proofs.Common.{◌≡◌, ℕ, Bool, List, [], ◌∷◌, ◌++◌, Option, Some, None, sym, ap, ap₂, ◌∙◌, subst, append_assoc}
use Rattle.stream_type.specs.declared.ty.Ty.{Ty}
use Rattle.stream_type.specs.StreamType.{StreamType, type_of}
use Rattle.bunch.specs.declared.name.Name.{Name}
use Rattle.core_term.specs.CoreTerm.{typed_names_of}
use Rattle.delta_tree.specs.SyntaxTree.{WrittenAlias, WrittenFunction, Declaration, alias_declared, function_declared, ProgramTree}
use Rattle.delta_meaning.specs.TypeNames.{no_type_names, type_meant, names_below}
use Rattle.delta_meaning.specs.KnownTypes.{names_known}
use Rattle.delta_meaning.specs.SourceBody.{functions_of, is_function}
use Rattle.delta_meaning.specs.Faults.{Fault, type_faults, function_faults, main_faults, declaration_faults, faults}
use Rattle.delta_elab.specs.Aliases.{aliases_among}
use Rattle.delta_elab.specs.Bounds.{is_declared}
use Rattle.delta_elab.specs.declared.fault.ElabFault.{ElabFault}
use Rattle.delta_elab.specs.FirstFault.{fault_of, to_say, IsFirst}
use Rattle.delta_elab.proofs.Firsts.{to_say-second, nothing_wrong, earlier, is_first, is_first-earlier, is_first-later}
use Rattle.delta_elab.proofs.KnownAliases.{names_below-more, names_known-table, typed_names_of-append}
use Rattle.delta_elab.proofs.Declared.{is_function-declared}

module _ (is_there : ℕ → Bool) (said : Option (Option Fault)) (types : List (ℕ × StreamType)) where
  -- what is to be said, and the types, where these are known and these declarations are left
  pub record Left (known : List (Name × Ty)) (left : List Declaration) : Type 0 where
    pub said_there : said ≡ to_say (declaration_faults is_there (names_known known) left)
    pub types_there : types ≡ typed_names_of known ++ aliases_among (names_known known) left

  -- nothing is wrong with a declared type: it is known below
  pub left_after_alias : (known : List (Name × Ty)) (a : WrittenAlias) (left : List Declaration) (x : Name) (t : Ty)
      → x.0 ≡ a.name → type_of t ≡ type_meant (names_known known) a.type → None ≡ to_say (type_faults (names_known known) a.type)
      → Left known (alias_declared a ∷ left) → Left (known ++ (x, t) ∷ []) left
  left_after_alias known a left x t ex et fine h =
      let names = names_known known in
      let more = names_below-more known a x t ex et in
      let entry : (a.name, type_meant names a.type) ≡ (x.0, type_of t) = ap₂ (λ n s. (n, s)) (sym ex) (sym et) in
      let rest = aliases_among (names_below names (alias_declared a)) left in
      record {
        said_there = h.said_there ∙ (to_say-second (type_faults names a.type) (declaration_faults is_there (names_below names (alias_declared a)) left) (sym fine)
            ∙ ap (λ ns. to_say (declaration_faults is_there ns left)) more);
        types_there = h.types_there ∙ (ap (λ e. typed_names_of known ++ e ∷ rest) entry
            ∙ (sym (append_assoc (typed_names_of known) ((x.0, type_of t) ∷ []) rest)
            ∙ ap₂ (λ xs ns. xs ++ aliases_among ns left) (sym (typed_names_of-append known ((x, t) ∷ []))) more));
      }

  -- nothing is wrong with a declared function
  pub left_after_function : (known : List (Name × Ty)) (f : WrittenFunction) (left : List Declaration)
      → None ≡ to_say (function_faults is_there (names_known known) f)
      → Left known (function_declared f ∷ left) → Left known left
  left_after_function known f left fine h =
      record {
        said_there = h.said_there ∙ to_say-second (function_faults is_there (names_known known) f) (declaration_faults is_there (names_known known) left) (sym fine);
        types_there = h.types_there;
      }

-- what is wrong with a program, where its declared functions and types are known
pub faults-parts : (p : ProgramTree) (known : List (Name × Ty)) → typed_names_of known ≡ aliases_among no_type_names p.declarations
    → faults p ≡ declaration_faults (is_declared p.declarations) no_type_names p.declarations ++ main_faults (is_declared p.declarations) (names_known known) p.main
faults-parts p known h =
    ap₂ (λ there names. declaration_faults there no_type_names p.declarations ++ main_faults there names p.main) (is_function-declared p) (names_known-table known p.declarations h)

-- what is wrong first with the next declaration is wrong first
pub first_in_alias : (is_there : ℕ → Bool) (whole : List Fault) (types : List (ℕ × StreamType)) (known : List (Name × Ty)) (a : WrittenAlias) (left : List Declaration) (e : ElabFault)
    → Left is_there (to_say whole) types known (alias_declared a ∷ left) → Some (fault_of e) ≡ to_say (type_faults (names_known known) a.type) → IsFirst e whole
first_in_alias is_there whole types known a left e h said =
    is_first e whole (earlier (type_faults (names_known known) a.type) (declaration_faults is_there (names_below (names_known known) (alias_declared a)) left) (fault_of e) said ∙ sym h.said_there)

pub first_in_function : (is_there : ℕ → Bool) (whole : List Fault) (types : List (ℕ × StreamType)) (known : List (Name × Ty)) (f : WrittenFunction) (left : List Declaration) (e : ElabFault)
    → Left is_there (to_say whole) types known (function_declared f ∷ left) → Some (fault_of e) ≡ to_say (function_faults is_there (names_known known) f) → IsFirst e whole
first_in_function is_there whole types known f left e h said =
    is_first e whole (earlier (function_faults is_there (names_known known) f) (declaration_faults is_there (names_known known) left) (fault_of e) said ∙ sym h.said_there)

-- what is wrong first with the declarations is wrong first with the program
pub first_in_declarations : (p : ProgramTree) (e : ElabFault) → IsFirst e (declaration_faults (is_declared p.declarations) no_type_names p.declarations) → IsFirst e (faults p)
first_in_declarations p e h =
    is_first-earlier e (declaration_faults (is_function (functions_of p)) no_type_names p.declarations) _
    (subst (λ (there : ℕ → Bool). IsFirst e (declaration_faults there no_type_names p.declarations)) (sym (is_function-declared p)) h)

module _ (p : ProgramTree) (known : List (Name × Ty)) (types : typed_names_of known ≡ aliases_among no_type_names p.declarations)
    (fine : declaration_faults (is_declared p.declarations) no_type_names p.declarations ≡ []) where
  -- where they are fine, what is wrong first with the main program
  pub first_in_main : (e : ElabFault) → Some (fault_of e) ≡ to_say (main_faults (is_declared p.declarations) (names_known known) p.main) → IsFirst e (faults p)
  first_in_main e h =
      subst (λ (xs : List Fault). IsFirst e xs) (sym (faults-parts p known types))
      (is_first-later e (declaration_faults (is_declared p.declarations) no_type_names p.declarations) (main_faults (is_declared p.declarations) (names_known known) p.main) fine h)

  -- and where it is fine too, nothing
  pub nothing_in_program : None ≡ to_say (main_faults (is_declared p.declarations) (names_known known) p.main) → faults p ≡ []
  nothing_in_program h =
      let first = declaration_faults (is_declared p.declarations) no_type_names p.declarations in
      let second = main_faults (is_declared p.declarations) (names_known known) p.main in
      faults-parts p known types ∙ nothing_wrong (first ++ second) (to_say-second first second (ap to_say fine) ∙ sym h)
