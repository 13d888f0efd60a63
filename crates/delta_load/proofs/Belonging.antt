-- The text of the load's program is the text of its tree.
use Rattle.std.proofs.Common.{◌≡◌, ℕ, zero, suc, ◌<◌, Bool, true, false, ◌&&◌, not, nat_lt, nat_le, [], ◌∷◌, length, get_or, refl, ap, sym, ◌∙◌, arith}
use Rattle.std.specs.Str.{IsAscii}
use Rattle.std.proofs.lemmas.Bool.{leb-true, ltb-true, ltb-false, not-true, and_parts}
use Rattle.std.proofs.lemmas.Str.{chars-IsAscii, IsUtf8-from_ascii}
use Rattle.std.proofs.lemmas.Str.Ascii.{IsAscii-from_reads}
use Rattle.grammar.proofs.Exact.{read_whole}
use Rattle.delta_lex.specs.Tokens.{HasTokens, reading}
use Rattle.delta_tree.specs.SyntaxTree.{function_declared}
use Rattle.delta_parse.specs.Parts.{a_program, delta}
use Rattle.delta_parse.specs.Tables.{delta_grammar}
use Rattle.delta_parse.specs.Programs.{IsProgram, IsTreeOf}
use Rattle.delta_parse.specs.Marks.{marks_before, IsShallow}
use Rattle.delta_parse.specs.Bindings.{is_twice, is_many, AreNamed}
use Rattle.delta_parse.proofs.Samples.{delta_checked}
use Rattle.program_text.specs.ProgramText.{IsTextOf}
use Rattle.delta_load.specs.LoadText.{load_text, load_tree, over_written}
use Rattle.delta_load.proofs.Tokens.{load_tokens, load_plain, tokens_read, plain_is}
use Rattle.delta_load.proofs.Trees.{main_found, tree_read}

-- whether each number below this one passes a test
abbrev all_below : (ℕ → Bool) → ℕ → Bool
all_below test zero = true
all_below test (suc n) = test n && all_below test n

below : (test : ℕ → Bool) (n : ℕ) → all_below test n ≡ true → (k : ℕ) → k < n → test k ≡ true
below test zero h k small = absurd (omega (arith, small))
below test (suc n) h k small = by_place (nat_lt k n) refl (λ low. below test n (and_parts (test n) (all_below test n) h).1 k low)
  where
    by_place : (b : Bool) → nat_lt k n ≡ b → (k < n → test k ≡ true) → test k ≡ true
    by_place true low rest = rest (ltb-true k n low)
    by_place false high rest =
        let last : n ≡ k = (let behind = ltb-false k n high in omega (arith, behind, small)) in
        ap test (sym last) ∙ (and_parts (test n) (all_below test n) h).0

text_is_ascii : IsAscii load_text
text_is_ascii = IsAscii-from_reads load_text 209 (omega arith) (λ k small. ltb-true (get_or load_text k 0) 128 (below (λ n. nat_lt (get_or load_text n 0) 128) 209 refl k small))

pub has_tokens : HasTokens load_text load_tokens
has_tokens = record {
  is_text = record { short = omega arith; utf8 = IsUtf8-from_ascii load_text text_is_ascii };
  read = ap (reading 0 0) (chars-IsAscii load_text text_is_ascii) ∙ tokens_read;
}

plain_program : IsProgram load_plain (function_declared over_written ∷ []) main_found
plain_program = record { derived = read_whole delta delta_grammar delta_checked a_program load_plain (function_declared over_written ∷ [], main_found) tree_read }

is_tree : IsTreeOf load_tokens load_tree
is_tree = record {
  found = function_declared over_written ∷ [];
  main = main_found;
  program = rw plain_is plain_program;
  is = refl;
}

is_shallow : IsShallow load_plain (length load_plain)
is_shallow k small = leb-true (marks_before load_plain k) 64 (below (λ n. nat_le (marks_before load_plain n) 64) 81 refl k small)

are_named : AreNamed load_plain (length load_plain)
are_named = record {
  once = λ k small. not-true (is_twice load_plain k) (below (λ n. not (is_twice load_plain n)) 81 refl k small);
  few = λ k small. not-true (is_many load_plain k) (below (λ n. not (is_many load_plain n)) 81 refl k small);
}

pub is_text : IsTextOf load_text load_tree
is_text = record {
  tokens = load_tokens;
  are_its = has_tokens;
  belongs = record { is_tree = is_tree; shallow = rw plain_is is_shallow; named = rw plain_is are_named };
}
