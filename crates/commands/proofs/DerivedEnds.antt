-- What the end of the check of a derivation shows.
use Rattle.std.proofs.Common.{◌≡◌, ℕ, List, refl}
use Rattle.delta_end.specs.declared.end.End.{End}
use Rattle.delta_end.specs.declared.end.End.TheVariants.{Done, Usage, Refused, Input, Budget, Deep, Open, FileFailed, ReadFailed, WriteFailed, Memory, Long, Objected}
use Rattle.delta_end.specs.End.{FileCause, ReadCause, WriteCause}
use Rattle.commands.specs.Deriving.{Derives, DerivesText}

-- a check shows no failed call
pub derives_read : (text proof : List ℕ) (end : End) (n : ℕ) → Derives text proof end → ReadCause end n n
derives_read text proof Done n is = refl
derives_read text proof (Refused why) n is = refl
derives_read text proof Memory n is = refl
derives_read text proof (Objected what) n is = refl
derives_read text proof Usage n is = absurd is
derives_read text proof (Input fault) n is = absurd is
derives_read text proof (Budget at) n is = absurd is
derives_read text proof (Deep at) n is = absurd is
derives_read text proof Open n is = absurd is
derives_read text proof FileFailed n is = absurd is
derives_read text proof ReadFailed n is = absurd is
derives_read text proof WriteFailed n is = absurd is
derives_read text proof Long n is = absurd is

pub derives_write : (text proof : List ℕ) (end : End) (n : ℕ) → Derives text proof end → WriteCause end n n
derives_write text proof Done n is = refl
derives_write text proof (Refused why) n is = refl
derives_write text proof Memory n is = refl
derives_write text proof (Objected what) n is = refl
derives_write text proof Usage n is = absurd is
derives_write text proof (Input fault) n is = absurd is
derives_write text proof (Budget at) n is = absurd is
derives_write text proof (Deep at) n is = absurd is
derives_write text proof Open n is = absurd is
derives_write text proof FileFailed n is = absurd is
derives_write text proof ReadFailed n is = absurd is
derives_write text proof WriteFailed n is = absurd is
derives_write text proof Long n is = absurd is

pub derives_file : (text proof : List ℕ) (end : End) (n : ℕ) → Derives text proof end → FileCause end n n
derives_file text proof Done n is = refl
derives_file text proof (Refused why) n is = refl
derives_file text proof Memory n is = refl
derives_file text proof (Objected what) n is = refl
derives_file text proof Usage n is = absurd is
derives_file text proof (Input fault) n is = absurd is
derives_file text proof (Budget at) n is = absurd is
derives_file text proof (Deep at) n is = absurd is
derives_file text proof Open n is = absurd is
derives_file text proof FileFailed n is = absurd is
derives_file text proof ReadFailed n is = absurd is
derives_file text proof WriteFailed n is = absurd is
derives_file text proof Long n is = absurd is

-- it isn't usage
pub derives_usage : (text proof : List ℕ) (end : End) → Derives text proof end → end ≡ Usage → ⊥
derives_usage text proof Usage is same = is
derives_usage text proof Done is same = cc
derives_usage text proof (Refused why) is same = cc
derives_usage text proof Memory is same = cc
derives_usage text proof (Objected what) is same = cc
derives_usage text proof (Input fault) is same = cc
derives_usage text proof (Budget at) is same = cc
derives_usage text proof (Deep at) is same = cc
derives_usage text proof Open is same = cc
derives_usage text proof FileFailed is same = cc
derives_usage text proof ReadFailed is same = cc
derives_usage text proof WriteFailed is same = cc
derives_usage text proof Long is same = cc

-- what was judged is what the files hold
pub derives_text : (text proof : List ℕ) (end : End) → Derives text proof end → DerivesText text proof end
derives_text text proof FileFailed is = tt
derives_text text proof Done is = is
derives_text text proof (Refused why) is = is
derives_text text proof Memory is = is
derives_text text proof (Objected what) is = is
derives_text text proof Usage is = is
derives_text text proof (Input fault) is = is
derives_text text proof (Budget at) is = is
derives_text text proof (Deep at) is = is
derives_text text proof Open is = is
derives_text text proof ReadFailed is = is
derives_text text proof WriteFailed is = is
derives_text text proof Long is = is
