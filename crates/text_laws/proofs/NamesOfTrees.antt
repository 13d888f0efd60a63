-- The names of tokens that are derived as a program are those of its tree: they are sound exactly where the tree's are.
use Rattle.std.proofs.Common.{◌≡◌, ℕ, zero, suc, ◌<◌, false, List, [], ◌∷◌, length, take, sym, subst, arith}
use Rattle.delta_tree.specs.SyntaxTree.{WrittenFunction, Declaration, ProgramTree}
use Rattle.delta_parse.specs.Terminals.{Tok}
use Rattle.delta_parse.specs.Plain.{grammar_tokens, names_in}
use Rattle.delta_parse.specs.Programs.{IsProgram, tree_with}
use Rattle.delta_parse.specs.Bindings.{Bound, after_token, bound, none_bound, is_repeated, is_excess, passes, AreNamed}
use Rattle.text_laws.specs.TreeNames.{IsNamedProgram}
use Rattle.text_laws.specs.Laws.{TreesAreNamed, BelongsByTree}
use Rattle.text_laws.proofs.NameRuns.{Fine}
use Rattle.text_laws.proofs.Splits.{says}
use Rattle.text_laws.proofs.NamesOfParts.{PartSays, Programs, part_says}
use Rattle.std.specs.Prelude.{slice_get}

-- each token is asked behind those before it
asked : (s : Bound) (ts : List Tok) → ((k : ℕ) → k < length ts → passes (is_repeated (bound s (take k ts))) (slice_get ts k) ≡ false)
    → ((k : ℕ) → k < length ts → passes (is_excess (bound s (take k ts))) (slice_get ts k) ≡ false) → Fine s ts
asked s [] a b = tt
asked s (t ∷ ts) a b = (a zero (omega arith), (b zero (omega arith), asked (after_token s t) ts (λ k h. a (suc k) (omega arith)) (λ k h. b (suc k) (omega arith))))

once : (s : Bound) (ts : List Tok) → Fine s ts → (k : ℕ) → k < length ts → passes (is_repeated (bound s (take k ts))) (slice_get ts k) ≡ false
once s [] h k l = absurd (omega arith)
once s (t ∷ ts) (a, (b, h)) zero l = a
once s (t ∷ ts) (a, (b, h)) (suc k) l = once (after_token s t) ts h k (omega arith)

few : (s : Bound) (ts : List Tok) → Fine s ts → (k : ℕ) → k < length ts → passes (is_excess (bound s (take k ts))) (slice_get ts k) ≡ false
few s [] h k l = absurd (omega arith)
few s (t ∷ ts) (a, (b, h)) zero l = b
few s (t ∷ ts) (a, (b, h)) (suc k) l = few (after_token s t) ts h k (omega arith)

pub fine_of_named : (ts : List Tok) → AreNamed ts (length ts) → Fine none_bound ts
fine_of_named ts a = asked none_bound ts a.once a.few

pub named_of_fine : (ts : List Tok) → Fine none_bound ts → AreNamed ts (length ts)
named_of_fine ts h = record { once = once none_bound ts h; few = few none_bound ts h }

program_says : (ts : List Tok) (ds : List Declaration) (m : WrittenFunction) → IsProgram ts ds m → Programs ts ds m
program_says ts ds m p = says PartSays part_says p.derived

pub names_of_program : (ts : List Tok) (ds : List Declaration) (m : WrittenFunction) → IsProgram ts ds m → AreNamed ts (length ts) → IsNamedProgram ds m
names_of_program ts ds m p a = (program_says ts ds m p).forth (fine_of_named ts a)

pub names_of_tokens : (ts : List Tok) (ds : List Declaration) (m : WrittenFunction) → IsProgram ts ds m → IsNamedProgram ds m → AreNamed ts (length ts)
names_of_tokens ts ds m p a = named_of_fine ts ((program_says ts ds m p).back a)

-- the number of `main` plays no part
named_with : (names : List (List ℕ)) (ds : List Declaration) (m : WrittenFunction) → IsNamedProgram ds m → IsNamedProgram (tree_with names ds m).declarations (tree_with names ds m).main
named_with names ds m h = record {
  types = h.types;
  functions = h.functions;
  few = h.few;
  declared = h.declared;
  main = record { parameters = h.main.parameters; pairs = h.main.pairs; few = h.main.few };
}

named_without : (names : List (List ℕ)) (ds : List Declaration) (m : WrittenFunction) → IsNamedProgram (tree_with names ds m).declarations (tree_with names ds m).main → IsNamedProgram ds m
named_without names ds m h = record {
  types = h.types;
  functions = h.functions;
  few = h.few;
  declared = h.declared;
  main = record { parameters = h.main.parameters; pairs = h.main.pairs; few = h.main.few };
}

pub trees_are_named : TreesAreNamed
trees_are_named ls p t =
    let P : ProgramTree → Type 0 = λ q. IsNamedProgram q.declarations q.main in (
      λ a. subst P (sym t.is) (named_with (names_in ls) t.found t.main (names_of_program (grammar_tokens ls) t.found t.main t.program a)),
      λ a. names_of_tokens (grammar_tokens ls) t.found t.main t.program (named_without (names_in ls) t.found t.main (subst P t.is a)),
    )

pub belongs_by_tree : BelongsByTree
belongs_by_tree ls p = (
  λ b. record { is_tree = b.is_tree; shallow = b.shallow; named = (trees_are_named ls p b.is_tree).0 b.named },
  λ t. record { is_tree = t.is_tree; shallow = t.shallow; named = (trees_are_named ls p t.is_tree).1 t.named },
)
