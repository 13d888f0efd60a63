-- Each text is accepted or refused.
use Rattle.std.proofs.Common.{◌≡◌, ◌⊎◌, inl, inr, ◌+◌, ◌≤◌, ◌<◌, ℕ, suc, List, [], ◌∷◌, Option, Some, None, Result, Ok, Err, length, refl, sym, ap, subst, arith}
use Rattle.std.proofs.lemmas.Bool.{cases_lt}
use Rattle.hist_value.specs.Refusal.{HistRefusal}
use Rattle.stream_type.specs.StreamType.{reach_of}
use Rattle.event_frame.specs.declared.version.Version.{Version}
use Rattle.event_frame.specs.Frames.{longest}
use Rattle.delta_lex.specs.Tokens.{Lexeme}
use Rattle.delta_tree.specs.SyntaxTree.{ProgramTree}
use Rattle.delta_parse.specs.Plain.{numbered, add_name, grammar_tokens}
use Rattle.delta_parse.specs.Causes.{Belongs}
use Rattle.delta_parse.proofs.Shorts.{short}
use Rattle.core_term.specs.CoreTerm.{CoreProgram}
use Rattle.core_term.specs.TypeFaults.{Cause, first_fault}
use Rattle.core_term.proofs.Unbroken.{typed_is_unbroken}
use Rattle.delta_meaning.specs.Faults.{Fault}
use Rattle.delta_meaning.specs.Elaborated.{elaborate}
use Rattle.delta_meaning.specs.TypeNames.{no_type_names}
use Rattle.delta_meaning.proofs.BoundOnce.{each_variable_has_text}
use Rattle.delta_meaning.proofs.KeptTypes.{elaborated_has_types}
use Rattle.text_laws.proofs.NamesOfTrees.{trees_are_named}
use Rattle.accept_laws.proofs.NameCounts.{program_names, function_count}
use Rattle.delta_meaning.proofs.Counts.{each_node_has_place}
use Rattle.program_refusal.specs.declared.refusal.Refusal.{Refusal}
use Rattle.program_refusal.specs.declared.refusal.RefusalName.TheVariants.{WideOutput}
use Rattle.program_text.specs.ProgramText.{IsTextOf, IsRefusedFor}
use Rattle.checked_program.specs.Naming.{refusal, refusal_of, name_of_rule}
use Rattle.checked_program.specs.Acceptance.{IsAcceptedAs, IsRefusedAs, IsWritable, IsRefusedToWrite}
use Rattle.text_laws.proofs.Judging.{texts_are_judged as text_judged}
use Rattle.accept_laws.specs.Laws.{TextsAreJudged, WritingsAreJudged, CoresAreSmall, NamesAreFew}
use Rattle.accept_laws.proofs.NodeNumbers.{nodes, nodes_of_declarations, counted_program}
use Rattle.accept_laws.proofs.NodesOfTokens.{nodes_by_tokens}
use Rattle.accept_laws.proofs.FaultNodes.{has_place}

length_numbered : (names : List (List ℕ)) (ls : List Lexeme) → length (numbered names ls) ≡ length ls
length_numbered names [] = refl
length_numbered names (t ∷ ts) = ap suc (length_numbered (add_name names t) ts)

-- the nodes of the tree to which tokens belong
tree_is_small : (ls : List Lexeme) (p : ProgramTree) → Belongs ls p → nodes_of_declarations p.declarations + nodes p.main.body ≤ length ls
tree_is_small ls p b =
    let t = b.is_tree in
    let h = nodes_by_tokens (grammar_tokens ls) t.found t.main t.program in
    let l = length_numbered [] ls in
    let few : nodes_of_declarations t.found + nodes t.main.body ≤ length ls = omega (arith, h, l) in
    subst (λ (q : ProgramTree). nodes_of_declarations q.declarations + nodes q.main.body ≤ length ls) (sym t.is) few

pub cores_are_small : CoresAreSmall
cores_are_small text p c is elaborated =
    let places = each_node_has_place p c elaborated in
    let counted = counted_program p in
    let small = tree_is_small is.tokens p is.belongs in
    let few = (short is.tokens (record { text = text; tokens = is.are_its })).few in
    omega (arith, places, counted, small, few)

pub names_are_few : NamesAreFew
names_are_few text p c is elaborated =
    let named = (trees_are_named is.tokens p is.belongs.is_tree).0 is.belongs.named in
    let types = elaborated_has_types p c elaborated in
    let functions = types.functions in
    let counted = function_count no_type_names p.declarations in
    let most = named.few in
    let texts = each_variable_has_text p c elaborated in
    let names = program_names p named in
    let small = tree_is_small is.tokens p is.belongs in
    let few = (short is.tokens (record { text = text; tokens = is.are_its })).few in
    (omega (arith, functions, counted, most), omega (arith, texts, names, small, few))

abbrev Judged : List ℕ → Type 0
Judged text = ((p : ProgramTree) × ((c : CoreProgram) × IsAcceptedAs text p c)) ⊎ ((why : Refusal) × IsRefusedAs text why)

by_rules : (text : List ℕ) (p : ProgramTree) (c : CoreProgram) → IsTextOf text p → elaborate p ≡ Ok c → (o : Option (ℕ × Cause HistRefusal)) → first_fault c ≡ o → Judged text
by_rules text p c is elaborated None first =
    inl (p, (c, record { is_its = is; accepted = record { elaborated = elaborated; typed = (typed_is_unbroken c).1 first } }))
by_rules text p c is elaborated (Some (node, rule)) first =
    let at = has_place p c node rule elaborated first in
    inr (
      refusal (name_of_rule rule) at.0,
      inr (inr (record {
        program = p;
        is_its = is;
        rule = rule;
        breaks = record { core = c; elaborated = elaborated; node = node; first = first; place = at.1 };
        is = refl;
      })),
    )

by_names : (text : List ℕ) (p : ProgramTree) → IsTextOf text p → (r : Result CoreProgram Fault) → elaborate p ≡ r → Judged text
by_names text p is (Ok c) e = by_rules text p c is e (first_fault c) refl
by_names text p is (Err fault) e = inr (refusal_of fault, inr (inl (record { program = p; is_its = is; fault = fault; found = e; is = refl })))

by_text : (text : List ℕ) → ((p : ProgramTree) × IsTextOf text p) ⊎ ((why : Refusal) × IsRefusedFor text why) → Judged text
by_text text (inl (p, is)) = by_names text p is (elaborate p) refl
by_text text (inr (why, h)) = inr (why, inl h)

pub texts_are_judged : TextsAreJudged
texts_are_judged text = by_text text (text_judged text)

abbrev ToWrite : List ℕ → Version → Type 0
ToWrite text v = ((p : ProgramTree) × ((c : CoreProgram) × IsWritable text v p c)) ⊎ ((why : Refusal) × IsRefusedToWrite text v why)

by_width : (text : List ℕ) (v : Version) (p : ProgramTree) (c : CoreProgram) → IsAcceptedAs text p c → (longest v < reach_of c.main.result) ⊎ (reach_of c.main.result ≤ longest v) → ToWrite text v
by_width text v p c a (inl wide) = inr (refusal WideOutput p.main.at, inr (record { program = p; core = c; accepted = a; wide = wide; is = refl }))
by_width text v p c a (inr narrow) = inl (p, (c, record { accepted = a; narrow = narrow }))

by_acceptance : (text : List ℕ) (v : Version) → Judged text → ToWrite text v
by_acceptance text v (inl (p, (c, a))) = by_width text v p c a (cases_lt (longest v) (reach_of c.main.result))
by_acceptance text v (inr (why, h)) = inr (why, inl h)

pub writings_are_judged : WritingsAreJudged
writings_are_judged text v = by_acceptance text v (texts_are_judged text)
