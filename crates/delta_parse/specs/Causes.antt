-- When tokens belong to a program, and which fault is the first otherwise.
use Rattle.std.specs.Prelude.{◌≡◌, ℕ, ◌-◌, ◌<◌, ◌≤◌, ◌⊎◌, true, List, length, take, Option, None, Some}
use Rattle.delta_lex.specs.Tokens.{Lexeme}
use Rattle.delta_tree.specs.SyntaxTree.{ProgramTree}
use Rattle.delta_parse.specs.declared.fault.ParseFault.{ParseFault}
use Rattle.delta_parse.specs.declared.fault.ParseFault.TheVariants as faults
use Rattle.delta_parse.specs.declared.checked_reader.Complaint.{Complaint}
use Rattle.delta_parse.specs.declared.checked_reader.Complaint.TheVariants as complaints
use Rattle.delta_parse.specs.declared.bindings.NameFault.{NameFault}
use Rattle.delta_parse.specs.declared.bindings.NameFault.TheVariants.{Twice, Many}
use Rattle.delta_parse.specs.Terminals.{Tok}
use Rattle.delta_parse.specs.Plain.{grammar_tokens}
use Rattle.delta_parse.specs.Programs.{IsTreeOf, BeginsProgram, AreDeclarations, IsUnexpected}
use Rattle.delta_parse.specs.Marks.{marks_before, IsShallow}
use Rattle.delta_parse.specs.Bindings.{is_twice, is_many, AreNamed}
use Rattle.delta_parse.specs.Places.{place_at}

-- the tokens of a text belong to a program: it is their tree, none of them has more than 64 open marks before it, and none is a name
-- that is declared or bound twice, or one too many
pub record Belongs (ls : List Lexeme) (tree : ProgramTree) : Type 0 where
  pub is_tree : IsTreeOf ls tree
  pub shallow : IsShallow (grammar_tokens ls) (length (grammar_tokens ls))
  pub named : AreNamed (grammar_tokens ls) (length (grammar_tokens ls))

-- what can be wrong at a token, or at the end of the tokens
pub data Wrong : Type 0 where
  too_deep : Wrong
  unexpected : Wrong
  bound_twice : Wrong
  too_many : Wrong
  no_main : Wrong

-- at one place the lower number comes first
abbrev pub order_of : Wrong → ℕ
order_of too_deep = 1
order_of unexpected = 2
order_of bound_twice = 3
order_of too_many = 4
order_of no_main = 5

-- this is wrong at token number n
abbrev pub IsWrong : List Tok → ℕ → Wrong → Type 0
IsWrong ts n too_deep = (n < length ts) × (64 < marks_before ts n)
IsWrong ts n unexpected = IsUnexpected ts n
IsWrong ts n bound_twice = (n < length ts) × (is_twice ts n ≡ true)
IsWrong ts n too_many = (n < length ts) × (is_many ts n ≡ true)
IsWrong ts n no_main = (n ≡ length ts) × AreDeclarations ts

-- this is wrong at token number n, and nothing before it
pub record IsFirstWrong (ts : List Tok) (n : ℕ) (w : Wrong) : Type 0 where
  pub wrong : IsWrong ts n w
  pub first : (m : ℕ) (v : Wrong) → IsWrong ts m v → (n < m) ⊎ ((n ≡ m) × (order_of w ≤ order_of v))

-- the fault at this place of a text is the first
pub record IsFirstAt (ls : List Lexeme) (w : Wrong) (at : ℕ) : Type 0 where
  pub number : ℕ
  pub place : at ≡ place_at ls number
  pub is_first : IsFirstWrong (grammar_tokens ls) number w

-- why the tokens of a text belong to no program; for want of memory there is no cause
abbrev pub IsCause : List Lexeme → ParseFault → Type 0
IsCause ls faults.Memory = Unit {0}
IsCause ls (faults.Deep at) = IsFirstAt ls too_deep at
IsCause ls (faults.Expected at) = IsFirstAt ls unexpected at
IsCause ls (faults.Twice at) = IsFirstAt ls bound_twice at
IsCause ls (faults.Many at) = IsFirstAt ls too_many at
IsCause ls (faults.NoMain at) = IsFirstAt ls no_main at

-- what the reader of checked tokens complains of, by the number of a token
abbrev pub IsComplaint : List Tok → Complaint → Type 0
IsComplaint ts complaints.Memory = Unit {0}
IsComplaint ts (complaints.Deep n) = IsFirstWrong ts n too_deep
IsComplaint ts (complaints.Unexpected n) = IsFirstWrong ts n unexpected
IsComplaint ts (complaints.Twice n) = IsFirstWrong ts n bound_twice
IsComplaint ts (complaints.Many n) = IsFirstWrong ts n too_many
IsComplaint ts complaints.NoMain = IsFirstWrong ts (length ts) no_main

-- in the first n tokens no mark is too much, and no name but the last is wrong
pub record IsCut (ts : List Tok) (n : ℕ) : Type 0 where
  pub within : n ≤ length ts
  pub shallow : IsShallow ts n
  pub named : AreNamed ts (n - 1)

-- so many tokens have to be read, and this is wrong first where a program begins with them; or no mark and no name is wrong
abbrev pub IsFirstCut : List Tok → Option (ℕ × Complaint) → Type 0
IsFirstCut ts None = IsShallow ts (length ts) × AreNamed ts (length ts)
IsFirstCut ts (Some x) = IsCut ts x.0 × (BeginsProgram (take x.0 ts) → IsComplaint ts x.1)

-- what is complained of a name
abbrev pub name_complaint : ℕ → NameFault → Complaint
name_complaint n Twice = complaints.Twice n
name_complaint n Many = complaints.Many n
