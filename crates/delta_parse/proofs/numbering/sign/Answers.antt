-- Which sign it is.
use Rattle.std.proofs.Common.{sym, ap}
use Rattle.delta_parse.specs.Plain.{sign_of}
use Rattle.delta_parse.proofs.numbering.sign.Goals as goal

pub returns-in-text : goal.returns-in-text
returns-in-text c = sym (ap sign_of c.in-text.is)

pub returns-in-text-2 : goal.returns-in-text-2
returns-in-text-2 c = sym (ap sign_of c.in-text-2.is)

pub returns-in-text-3 : goal.returns-in-text-3
returns-in-text-3 c = sym (ap sign_of c.in-text-3.is)

pub returns-in-text-4 : goal.returns-in-text-4
returns-in-text-4 c = sym (ap sign_of c.in-text-4.is)

pub returns-in-text-5 : goal.returns-in-text-5
returns-in-text-5 c = sym (ap sign_of c.in-text-5.is)

pub returns-in-text-6 : goal.returns-in-text-6
returns-in-text-6 c = sym (ap sign_of c.in-text-6.is)

pub returns-in-text-7 : goal.returns-in-text-7
returns-in-text-7 c = sym (ap sign_of c.in-text-7.is)

pub returns-in-text-8 : goal.returns-in-text-8
returns-in-text-8 c = sym (ap sign_of c.in-text-8.is)

pub returns-in-text-9 : goal.returns-in-text-9
returns-in-text-9 c = sym (ap sign_of c.in-text-9.is)

pub returns-in-text-10 : goal.returns-in-text-10
returns-in-text-10 c = sym (ap sign_of c.in-text-10.is)

pub returns-in-text-11 : goal.returns-in-text-11
returns-in-text-11 c = sym (ap sign_of c.in-text-11.is)

pub returns-in-text-12 : goal.returns-in-text-12
returns-in-text-12 c = sym (ap sign_of c.in-text-12.is)

pub returns-in-text-13 : goal.returns-in-text-13
returns-in-text-13 c = sym (ap sign_of c.in-text-13.is)

pub returns-in-text-14 : goal.returns-in-text-14
returns-in-text-14 c = sym (ap sign_of c.in-text-14.is)

pub returns-in-text-15 : goal.returns-in-text-15
returns-in-text-15 c = sym (ap sign_of c.in-text-15.is)

pub returns-in-text-16 : goal.returns-in-text-16
returns-in-text-16 c = sym (ap sign_of c.in-text-16.is)

pub returns-in-text-17 : goal.returns-in-text-17
returns-in-text-17 c = sym (ap sign_of c.in-text-17.is)

pub returns-in-text-18 : goal.returns-in-text-18
returns-in-text-18 c = sym (ap sign_of c.in-text-18.is)
